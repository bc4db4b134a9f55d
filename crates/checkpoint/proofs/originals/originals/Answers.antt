use Rattle.std.proofs.Common.{◌≡◌, ◌≤◌, List, length, take, ap, ◌∙◌, arith}
use Rattle.std.proofs.lemmas.List.{take_all}
use Rattle.context_diff.specs.Operations.{OpData}
use Rattle.context_diff.specs.Histories.{members_in}
use Rattle.ttf_form.specs.Forms.{form_over}
use Rattle.transform_rec.specs.Sets.{none}
use Rattle.transform_rec.specs.Histories.{family_in}
use Rattle.undo_group.specs.BaseForms.{base_form}
use Rattle.flat_history.specs.Flat.{placed_in}
use Rattle.checkpoint.proofs.PlacedForms.{forms_long, members_long}
use Rattle.checkpoint.proofs.originals.originals.Goals as goal

pub returns : goal.returns
returns c =
    let h = c.args.site.now.history in
    let fs = c.args.site.now.forms in
    let i = c.loop-i.i in
    let end = c.len-i-end.ensures in
    let ops : length c.book.result.now.ops ≡ length h = ap length c.book.ensures in
    let over = c.loop-i-test.false in
    let long : length h ≤ i = omega (arith, end, ops, over) in
    let forms = forms_long form_over (family_in h (base_form h)) none (members_in h) fs c.known.ensures.forms in
    let members = members_long h in
    let forms_end : length fs ≤ i = omega (arith, long, forms, members) in
    c.loop-i.invariant ∙ ap (λ (os : List OpData). placed_in os (take i fs)) (take_all i h long)
    ∙ ap (placed_in h) (take_all i fs forms_end)
