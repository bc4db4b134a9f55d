-- The index of waiting undos.
use Rattle.std.specs.Prelude.{◌≡◌, false, List, map}
use Rattle.std.specs.List.{list_any}
use Rattle.context_diff.specs.Operations.{OpData, is_original}
use Rattle.context_diff.specs.Ops.{data_of, op_eq}
use Rattle.context_diff.specs.declared.op.Op.{Op}

-- the index has the undos of the list, and no others
abbrev pub AreUndos : List Op → List OpData → Type 0
AreUndos ks os =
    (q : Op) → is_original (data_of q) ≡ false → list_any (op_eq (data_of q)) (map data_of ks) ≡ list_any (op_eq (data_of q)) os
