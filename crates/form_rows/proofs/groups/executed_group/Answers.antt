use Rattle.std.proofs.Common.{◌+◌, ◌<◌, ◌≤◌, ◌∙◌, List, drop, get_or, sym, ap, subst, arith}
use Rattle.op_name.specs.declared.member.Member.{Member}
use Rattle.op_name.specs.declared.member.Member.TheVariants.{Group}
use Rattle.context_diff.specs.Operations.{OpData}
use Rattle.context_diff.specs.Histories.{all_cells}
use Rattle.ttf_form.specs.declared.cover.Mark.{Mark}
use Rattle.ttf_form.specs.declared.form.Form.{Form}
use Rattle.ttf_form.specs.Forms.{form_over, place_of, extent_of}
use Rattle.transform_rec.specs.Sets.{none, plus_all}
use Rattle.transform_rec.specs.Derived.{Derived}
use Rattle.transform_rec.specs.Histories.{family_in}
use Rattle.undo_group.specs.BaseForms.{base_form}
use Rattle.undo_group.specs.Bounds.{IsShortHistory}
use Rattle.undo_group.specs.Following.{following}
use Rattle.form_rows.specs.RowSets.{form_after, AfterFits}
use Rattle.form_rows.proofs.Leaders.{last_known, led, group_fits, group_after, same_front}
use Rattle.form_rows.proofs.groups.executed_group.Goals as goal

-- a bound as another one
few : (h : List OpData) → all_cells h < 4294967296 → all_cells h ≤ 4294967295
few h less = omega arith

pub leader_place-place-requires : goal.leader_place-place-requires
leader_place-place-requires c =
    let s : IsShortHistory c.args.book.now.ops =
    record { valid = c.known.ensures.valid; short = few c.args.book.now.ops c.known.ensures.cells } in
    last_known c.args.book.now.ops s c.args.target.now c.args.generation c.requires.last.0 c.args.executed.now c.requires.last.1.0
    c.requires.last.1.1

pub group_mark-mark-requires : goal.group_mark-mark-requires
group_mark-mark-requires c =
    let s : IsShortHistory c.args.book.now.ops =
    record { valid = c.known.ensures.valid; short = few c.args.book.now.ops c.known.ensures.cells } in
    last_known c.args.book.now.ops s c.args.target.now c.args.generation c.requires.last.0 c.args.executed.now c.requires.last.1.0
    c.requires.last.1.1

pub mark_after-requires-clause-place : goal.mark_after-requires-clause-place
mark_after-requires-clause-place c =
    let s : IsShortHistory c.args.book.now.ops =
    record { valid = c.known.ensures.valid; short = few c.args.book.now.ops c.known.ensures.cells } in
    (led c.args.book.now.ops s c.args.target.now c.args.generation c.requires.last.0 c.args.executed.now c.requires.last.1.0
    c.requires.last.1.1 c.leader_place-place.result c.leader_place-place.ensures).less

pub mark_after-requires-clause-fits : goal.mark_after-requires-clause-fits
mark_after-requires-clause-fits c f =
    let h = c.args.book.now.ops in
    let t = c.args.target.now in
    let g = c.args.generation in
    let fs = c.args.executed.now in
    let i = c.leader_place-place.result in
    let s : IsShortHistory h = record { valid = c.known.ensures.valid; short = few c.args.book.now.ops c.known.ensures.cells } in
    let l = led h s t g c.requires.last.0 fs c.requires.last.1.0 c.requires.last.1.1 i c.leader_place-place.ensures in
    subst (λ (m : Mark). AfterFits form_over place_of extent_of (following m (get_or fs i f)) (drop (i + 1) fs))
    (sym c.group_mark-mark.ensures)
    (group_fits h s t g c.requires.last.0 fs c.requires.last.1.0 c.requires.last.1.1 i l f)

pub returns-clause-form : goal.returns-clause-form
returns-clause-form c before last =
    let h = c.args.book.now.ops in
    let t = c.args.target.now in
    let g = c.args.generation in
    let fs = c.args.executed.now in
    let i = c.leader_place-place.result in
    let f = c.mark_after.result in
    let s : IsShortHistory h = record { valid = c.known.ensures.valid; short = few c.args.book.now.ops c.known.ensures.cells } in
    let l = led h s t g c.requires.last.0 fs c.requires.last.1.0 c.requires.last.1.1 i c.leader_place-place.ensures in
    let is = c.mark_after.ensures f
    ∙ ap (λ (m : Mark). form_after form_over (following m (get_or fs i f)) (drop (i + 1) fs)) c.group_mark-mark.ensures in
    let same = same_front c.requires.last.0 before (Group t g) (Group t g) (sym c.requires.last.1.0 ∙ last) in
    subst (λ (xs : List Member). Derived form_over (family_in h (base_form h)) (Group t g) (plus_all none xs) f) same
    (subst (λ (x : Form). Derived form_over (family_in h (base_form h)) (Group t g) (plus_all none c.requires.last.0) x) (sym is)
    (group_after h s t g c.requires.last.0 fs c.requires.last.1.0 c.requires.last.1.1 i l f))
