use Rattle.std.proofs.Common.{ℕ, ap, sym, subst}
use Rattle.std.specs.Prelude.{◌↔◌}
use Rattle.std.proofs.lemmas.Result.{IfOk-weaker}
use Rattle.context_diff.specs.Ops.{data_of}
use Rattle.ttf_form.specs.Cells.{cells_of}
use Rattle.touched_cells.specs.Touched.{IsBearer}
use Rattle.touched_cells.specs.Code.Seeking.{IsOneOf, IsDeletedAt}
use Rattle.touched_cells.proofs.Bearers.{cells_once, deleted_once, found_insert, found_delete}
use Rattle.touched_cells.proofs.Lists.{with_same}
use Rattle.touched_cells.proofs.places.add_bearers.Goals as goal

pub add_insert-requires : goal.add_insert-requires
add_insert-requires c = cells_once c.args.book.now.ops c.known.ensures.valid c.args.cells.now.cells c.requires

pub add_deleted-requires : goal.add_deleted-requires
add_deleted-requires c = deleted_once c.args.book.now.ops c.known.ensures.valid c.args.cells.now.cells c.requires c.args.name.now

pub returns-in-Some-Insert : goal.returns-in-Some-Insert
returns-in-Some-Insert c =
    let cs = c.args.cells.now.cells in
    let n = c.args.name.now in
    let at = c.in-Some-Insert in
    let borne = found_insert c.args.book.now.ops c.known.ensures.valid cs c.requires (data_of at.field-0.now) n _ _ _ _ at.ensures.there
    at.ensures.named (ap data_of at.field-0-is) in
    let counted : (p : ℕ) → IsBearer cs n p ↔ IsOneOf (cells_of cs) n c.len-in-Some-Insert.result p = λ p.
    subst (λ (k : ℕ). IsBearer cs n p ↔ IsOneOf (cells_of cs) n k p) (sym c.len-in-Some-Insert.ensures) (borne p) in
    IfOk-weaker c.add_insert.result _ _ (λ all with is.
    with_same (IsOneOf (cells_of cs) n c.len-in-Some-Insert.result) (IsBearer cs n) c.args.places.now.items c.add_insert.new.places.items
    (λ p. ((counted p).1, (counted p).0)) (with is)) c.add_insert.ensures

pub returns-in-Some-Delete : goal.returns-in-Some-Delete
returns-in-Some-Delete c =
    let cs = c.args.cells.now.cells in
    let n = c.args.name.now in
    let at = c.in-Some-Delete in
    let borne = found_delete c.args.book.now.ops c.known.ensures.valid cs c.requires (data_of at.field-0.now) n _ _ _ at.ensures.there
    at.ensures.named (ap data_of at.field-0-is) in
    IfOk-weaker c.add_deleted.result _ _ (λ all with is.
    with_same (IsDeletedAt cs n) (IsBearer cs n) c.args.places.now.items c.add_deleted.new.places.items
    (λ p. ((borne p).1, (borne p).0)) (with is)) c.add_deleted.ensures
