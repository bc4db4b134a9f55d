use Rattle.std.proofs.Common.{◌≡◌, Bool, List, ℕ, ap, sym, subst, ◌∙◌}
use Rattle.std.specs.Prelude.{◌↔◌, IsTrue}
use Rattle.std.specs.List.{list_any}
use Rattle.op_name.specs.NameData.{NameData, name_eq}
use Rattle.touched_cells.specs.Touched.{IsDeletedBy}
use Rattle.touched_cells.proofs.Bearers.{named_in}
use Rattle.touched_cells.proofs.seeking.is_deleted_by.Goals as goal

pub returns : goal.returns
returns c =
    let n = c.args.name.now in
    let is : c.is_among.result ≡ list_any (λ e. name_eq e.0 n) c.args.cell.now.deleters =
    c.is_among.ensures ∙ ap (λ (ds : List (NameData × ℕ)). list_any (λ e. name_eq e.0 n) ds) c.deleters.ensures.deleters in
    subst (λ (b : Bool). IsTrue b ↔ IsDeletedBy c.args.cell.now n) (sym is) (named_in n c.args.cell.now.deleters)
