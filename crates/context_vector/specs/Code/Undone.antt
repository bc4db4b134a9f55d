-- Undone names, as they are kept.
use Rattle.std.specs.Prelude.{ℕ, ◌==◌, List, [], Option, Some, None, if◌then◌else◌}
use Rattle.op_name.specs.NameData.{NameData}
use Rattle.context_vector.specs.Contexts.{put_entry}
use Rattle.context_vector.specs.Vectors.{without_name}

-- undone names with their greatest generations, and for how many more, at least, there is room
pub record UndoneData : Type 0 where
  pub items : List (NameData × ℕ)
  pub spare : ℕ

-- the entries with this generation for the name, which has no entry at 0
abbrev pub set_entry : NameData → ℕ → List (NameData × ℕ) → List (NameData × ℕ)
set_entry n g es = if g == 0 then without_name n es else put_entry n g es

-- the undone names of shared lists, which keep none where nothing is undone; `value` reads what is kept, as `rc_value`
abbrev pub kept_of : {R : Type 0} → (R → List (NameData × ℕ)) → Option R → List (NameData × ℕ)
kept_of value None = []
kept_of value (Some k) = value k
