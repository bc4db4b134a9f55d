-- Undo entries of a context whose originals it hasn't.
use Rattle.std.specs.Prelude.{ℕ, List, [], ◌∷◌, Option, Some, None, if◌then◌else◌}
use Rattle.op_name.specs.NameData.{NameData}
use Rattle.op_name.specs.declared.member.Member.TheVariants.{Original}
use Rattle.context_vector.specs.Contexts.{ContextData, has}

-- the first of these undone names whose original the context hasn't
abbrev pub first_stray : ContextData → List (NameData × ℕ) → Option NameData
first_stray c [] = None
first_stray c (e ∷ es) = if has c (Original e.0) then first_stray c es else Some e.0
