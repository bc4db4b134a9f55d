use Rattle.std.proofs.Common.{◌≡◌, List, [], Some, length, slice_get, ap, sym, subst, ◌∙◌, arith}
use Rattle.std.proofs.lemmas.Result.{IfOk-weaker}
use Rattle.op_name.specs.NameData.{NameData}
use Rattle.context_diff.specs.Operations.{OpData}
use Rattle.context_diff.specs.Ops.{data_of}
use Rattle.ttf_form.specs.Cells.{CellData, applied}
use Rattle.transform_rec.specs.Executing.{executed}
use Rattle.touched_cells.specs.Touched.{name_touched, IsBearer}
use Rattle.touched_cells.specs.Code.Seeking.{AreWith}
use Rattle.touched_cells.proofs.Touching.{some_there}
use Rattle.touched_cells.proofs.places.add_touched.Goals as goal

pub overflow_add-i : goal.overflow_add-i
overflow_add-i c =
    let long : length c.book-book.result.now.ops ≡ length c.args.site.now.history =
    ap (λ (h : List OpData). length h) c.book-book.ensures in
    omega (arith, long, c.known-2.ensures.short, c.requires)

pub unreachable-requires-in-None : goal.unreachable-requires-in-None
unreachable-requires-in-None c =
    some_there c.args.site.now.history c.args.i c.requires
    (sym (c.in-None.ensures ∙ ap (λ (h : List OpData). slice_get h c.args.i) c.book-book.ensures))

pub returns : goal.returns
returns c =
    let at : slice_get c.args.site.now.history c.args.i ≡ Some (data_of c.in-Some.op.now) =
    sym (c.in-Some.ensures ∙ ap (λ (h : List OpData). slice_get h c.args.i) c.book-book.ensures) in
    let name : c.name_touched.result ≡ name_touched (data_of c.in-Some.op.now) = c.name_touched.ensures in
    IfOk-weaker c.add_bearers.result _ _ (λ all with is o there.
    let some : Some (data_of c.in-Some.op.now) ≡ Some o = sym at ∙ there in
    let same : data_of c.in-Some.op.now ≡ o = cc in
    let named : c.name_touched.result ≡ name_touched o = name ∙ ap name_touched same in
    subst (λ (n : NameData). AreWith (IsBearer (executed applied [] c.args.site.now.forms) n) c.args.places.now.items
    c.add_bearers.new.places.items) named
    (subst (λ (cs : List CellData). AreWith (IsBearer cs c.name_touched.result) c.args.places.now.items c.add_bearers.new.places.items)
    c.cells.ensures.forms (with is))) c.add_bearers.ensures
