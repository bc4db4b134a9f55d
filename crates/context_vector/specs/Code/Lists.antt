-- Lists of counts and of entries, each read as a context of its own.
use Rattle.std.specs.Prelude.{ℕ, List, []}
use Rattle.op_name.specs.NameData.{NameData}
use Rattle.context_vector.specs.Contexts.{ContextData}

-- the originals that counts tell, and the groups that entries tell
abbrev pub of_counts : List (ℕ × ℕ) → ContextData
of_counts ps = record { counts = ps; entries = [] }

abbrev pub of_entries : List (NameData × ℕ) → ContextData
of_entries es = record { counts = []; entries = es }
