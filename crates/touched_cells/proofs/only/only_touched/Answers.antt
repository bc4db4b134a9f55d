use Rattle.std.proofs.Common.{◌≡◌, ◌+◌, List, [], ◌∷◌, Some, length, slice_get, ap, sym, subst, ◌∙◌, arith}
use Rattle.context_diff.specs.Operations.{OpData}
use Rattle.context_diff.specs.Ops.{data_of}
use Rattle.ttf_form.specs.Cells.{CellData, applied}
use Rattle.transform_rec.specs.Executing.{executed}
use Rattle.touched_cells.specs.Touched.{name_touched, IsBearer}
use Rattle.touched_cells.specs.Code.Seeking.{AreWith}
use Rattle.touched_cells.proofs.Single.{if_only, only_place}
use Rattle.touched_cells.proofs.only.only_touched.Goals as goal

pub returns-in-Some-executed-clause-touched : goal.returns-in-Some-executed-clause-touched
returns-in-Some-executed-clause-touched c =
    let h = c.args.site.now.history in
    let cs = executed applied [] c.args.site.now.forms in
    let o = data_of c.in-Some.op.now in
    let there : slice_get h c.args.from ≡ Some o =
    sym (c.in-Some.ensures ∙ ap (λ (l : List OpData). slice_get l c.args.from) c.book-book.ensures) in
    let long = c.len.ensures ∙ ap (λ (l : List OpData). length l) c.book-book.ensures in
    let last : length h ≡ c.args.from + 1 = omega (arith, long, c.if-later-ne1.false, c.requires) in
    if_only c.touched_at.result _ _ (λ t with.
    only_place h c.args.from cs o t.place last there
    (subst (λ (l : List CellData). AreWith (IsBearer l (name_touched o)) [] (t.place ∷ [])) c.cells.ensures.forms with))
    c.touched_at.ensures.touched
