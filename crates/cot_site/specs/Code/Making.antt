-- The parts of a local command: the name, the place, the context and the generation of the operation that it makes.
use Rattle.std.specs.Prelude.{◌≡◌, ◌⊎◌, ℕ, ◌<◌, ◌≤◌, true, false, Some, Result, Ok, Err, length}
use Rattle.op_name.specs.declared.member.Member.TheVariants.{Original}
use Rattle.op_name.specs.declared.name.TheConstants.{NUMBERS}
use Rattle.op_name.specs.NameData.{NameData}
use Rattle.context_vector.specs.Contexts.{ContextData}
use Rattle.context_vector.specs.Vectors.{VectorData}
use Rattle.context_diff.specs.declared.op.TheConstants.{UNDO_ENTRIES}
use Rattle.context_diff.specs.Histories.{is_known, generation_in, context_of_all}
use Rattle.site_answers.specs.declared.local.Local.{Local}
use Rattle.site_answers.specs.declared.local.Local.TheVariants.{Unknown, NumberFull, ContextFull, Memory}
use Rattle.cot_site.specs.States.{State}
use Rattle.cot_site.specs.Commands.{place_behind, count_made, next_name}

-- the next name of the site, unless its numbers are used up
abbrev pub IsNumber : State → Result NameData Local → Type 0
IsNumber s (Ok n) = (n ≡ next_name s) × (count_made s < NUMBERS)
IsNumber s (Err e) = (e ≡ NumberFull) × (NUMBERS ≤ count_made s)

-- the context, unless it has more undo entries than an operation carries, or out of memory
abbrev pub IsContextAnswer : ContextData → Result VectorData Local → Type 0
IsContextAnswer c (Ok v) = (v.set ≡ c) × (length c.entries ≤ UNDO_ENTRIES)
IsContextAnswer c (Err e) =
    ((e ≡ ContextFull (length c.entries)) × (UNDO_ENTRIES < length c.entries)) ⊎ ((e ≡ Memory) × (length c.entries ≤ UNDO_ENTRIES))

-- an insert after v shown characters has this name, place and context
pub record IsHead (s : State) (v : ℕ) (n : NameData) (p : ℕ) (c : ContextData) : Type 0 where
  pub place : place_behind s.history v ≡ Some p
  pub name : n ≡ next_name s
  pub free : count_made s < NUMBERS
  pub context : c ≡ context_of_all s.history
  pub few : length (context_of_all s.history).entries ≤ UNDO_ENTRIES

-- the generation of an original, unless the history hasn't the original
abbrev pub IsGeneration : State → NameData → Result ℕ Local → Type 0
IsGeneration s t (Ok g) = (g ≡ generation_in s.history t) × (is_known s.history (Original t) ≡ true)
IsGeneration s t (Err e) = (e ≡ Unknown t) × (is_known s.history (Original t) ≡ false)
