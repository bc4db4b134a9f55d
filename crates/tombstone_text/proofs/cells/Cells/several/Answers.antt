use Rattle.std.proofs.Common.{◌≡◌, slice_get, map, Some, None, sym, ap, ◌∙◌, subst}
use Rattle.ttf_form.specs.declared.cover.Mark.{Mark}
use Rattle.ttf_form.specs.Cells.{change_at, marked, marked_in}
use Rattle.tombstone_text.specs.Code.Inserts.{AreInserts}
use Rattle.tombstone_text.specs.Code.Spans.{raised_run}
use Rattle.tombstone_text.proofs.Inserts.{own_alone, own_past, own_several}
use Rattle.tombstone_text.proofs.cells.Cells.several.Goals as goal

pub returns-then-is_alone-clause-alone : goal.returns-then-is_alone-clause-alone
returns-then-is_alone-clause-alone c =
    let p = c.args.cover.now.place in
    let cs = c.args.self.now.cells in
    let at : slice_get cs p ≡ Some c.in-Some.cell =
    sym (ap (λ v. slice_get v.cells p) c.self.view_is) ∙ sym c.cell.ensures ∙ c.in-Some.is in
    let inserts : AreInserts cs = subst (λ v. AreInserts v.cells) c.self.view_is c.self.invariant.1 in
    subst (λ (m : Mark). marked_in p m cs ≡ change_at p (marked m) cs) (sym c.in-Own.is)
    (own_alone c.in-Own.generation p cs c.in-Some.cell inserts at (c.is_alone.ensures.0 c.if-is_alone.true))

pub returns-else-is_alone-clause-several : goal.returns-else-is_alone-clause-several
returns-else-is_alone-clause-several c =
    let p = c.args.cover.now.place in
    let cs = c.args.self.now.cells in
    let g = c.in-Own.generation in
    let at : slice_get cs p ≡ Some c.in-Some.cell =
    sym (ap (λ v. slice_get v.cells p) c.self.view_is) ∙ sym c.cell.ensures ∙ c.in-Some.is in
    let inserts : AreInserts cs = subst (λ v. AreInserts v.cells) c.self.view_is c.self.invariant.1 in
    subst (λ (m : Mark). marked_in p m cs ≡ map (raised_run g c.id.result.name) cs) (sym c.in-Own.is)
    (own_several g p cs c.in-Some.cell inserts at (λ one. let yes = c.is_alone.ensures.1 one in cc)
    ∙ ap (λ n. map (raised_run g n) cs) (sym c.id.ensures.name))

pub returns-in-None-clause-alone : goal.returns-in-None-clause-alone
returns-in-None-clause-alone c =
    let p = c.args.cover.now.place in
    let cs = c.args.self.now.cells in
    let none : slice_get cs p ≡ None =
    sym (ap (λ v. slice_get v.cells p) c.self.view_is) ∙ sym c.cell.ensures ∙ c.in-None.is in
    subst (λ (m : Mark). marked_in p m cs ≡ change_at p (marked m) cs) (sym c.in-Own.is) (own_past c.in-Own.generation p cs none)
