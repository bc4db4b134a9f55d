-- Local commands: which operation a site makes, or why it makes none.
use Rattle.std.specs.Prelude.{◌≡◌, ℕ, suc, ◌+◌, List, [], ◌∷◌, Option, Some, None, Result, Ok, Err, IsOk, ◌==◌, nat_le, nat_lt, if◌then◌else◌, length, map, slice_get}
use Rattle.op_name.specs.declared.member.Member.TheVariants.{Original}
use Rattle.op_name.specs.declared.member.TheConstants.{GENERATIONS}
use Rattle.op_name.specs.declared.name.TheConstants.{NUMBERS}
use Rattle.op_name.specs.NameData.{NameData}
use Rattle.context_vector.specs.Contexts.{ContextData, count_of}
use Rattle.context_diff.specs.declared.op.TheConstants.{PLACES, UNDO_ENTRIES}
use Rattle.context_diff.specs.Operations.{OpData, inserting, deleting, undoing}
use Rattle.context_diff.specs.Histories.{is_known, generation_in, context_of_all}
use Rattle.op_name.specs.Members.{is_even}
use Rattle.context_diff.specs.declared.op.Op.{Op}
use Rattle.context_diff.specs.Ops.{data_of}
use Rattle.site_answers.specs.declared.local.Local.{Local}
use Rattle.site_answers.specs.declared.local.Local.TheVariants.{PlaceOut, Unknown, NotInForce, InForce, GenerationFull, NumberFull, ContextFull, Memory}
use Rattle.visible_view.specs.View.{places_after}
use Rattle.cot_site.specs.States.{State}
use Rattle.cot_site.specs.Views.{View, shown_places_of, history_view}

-- a place that an operation may name. Where there are at most PLACES cells, as in a book, each place is one
abbrev pub within_range : Option ℕ → Option ℕ
within_range None = None
within_range (Some p) = if nat_le p PLACES then Some p else None

-- the place of the v-th shown cell, counted from 0
abbrev pub place_of_shown : List OpData → ℕ → Option ℕ
place_of_shown h v = within_range (slice_get (shown_places_of h) v)

-- the place for a text after v shown characters: the front, or the place after the shown cell before it
abbrev pub place_behind : List OpData → ℕ → Option ℕ
place_behind h v = within_range (slice_get (places_after (shown_places_of h)) v)

-- how many originals of the site the history has
abbrev pub count_made : State → ℕ
count_made s = count_of (context_of_all s.history) s.number

-- the name of the site's next original
abbrev pub next_name : State → NameData
next_name s = record { site = s.number; number = count_made s + 1 }

-- the operation, if its context has no more undo entries than an operation carries
abbrev pub in_context : ContextData → OpData → Result OpData Local
in_context c o = if nat_lt UNDO_ENTRIES (length c.entries) then Err (ContextFull (length c.entries)) else Ok o

-- the original, if the site has a number for it
abbrev pub numbered : State → OpData → Result OpData Local
numbered s o = if nat_lt (count_made s) NUMBERS then in_context (context_of_all s.history) o else Err NumberFull

-- the insert of a text after v shown characters, for a site that sees its text so
abbrev pub run_in : View → State → ℕ → List ℕ → Result OpData Local
run_in view s v text = elim (within_range (slice_get (0 ∷ map suc view.places) v)) [
  | None ↦ Err (PlaceOut v (length view.characters))
  | Some p ↦ numbered s (inserting (next_name s) p text (context_of_all s.history))
]

-- the delete of the v-th shown character, counted from 0
abbrev pub delete_in : View → State → ℕ → Result OpData Local
delete_in view s v = elim (within_range (slice_get view.places v)) [
  | None ↦ Err (PlaceOut v (length view.characters))
  | Some p ↦ numbered s (deleting (next_name s) p (context_of_all s.history))
]

-- both for a site that sees what its history shows
abbrev pub local_run : State → ℕ → List ℕ → Result OpData Local
local_run s v text = run_in (history_view s) s v text

abbrev pub local_delete : State → ℕ → Result OpData Local
local_delete s v = delete_in (history_view s) s v

-- the insert of one character
abbrev pub local_insert : State → ℕ → ℕ → Result OpData Local
local_insert s v ch = local_run s v (ch ∷ [])

-- the undo or redo of an original at the generation after its own
abbrev pub turned : State → NameData → Result OpData Local
turned s t = in_context (context_of_all s.history) (undoing s.number t (generation_in s.history t + 1) (context_of_all s.history))

-- the undo of an original in force
abbrev pub local_undo : State → NameData → Result OpData Local
local_undo s t =
    if is_known s.history (Original t)
    then (if is_even (generation_in s.history t) then turned s t else Err (NotInForce (generation_in s.history t)))
    else Err (Unknown t)

-- the redo of an original that isn't in force
abbrev pub local_redo : State → NameData → Result OpData Local
local_redo s t =
    if is_known s.history (Original t)
    then (if is_even (generation_in s.history t) then Err (InForce (generation_in s.history t))
    else if generation_in s.history t == GENERATIONS then Err GenerationFull else turned s t)
    else Err (Unknown t)

-- the answer is that of the definition, or out of memory where the definition has an operation
abbrev pub IsAnswer : Result OpData Local → Result Op Local → Type 0
IsAnswer r (Ok o) = r ≡ Ok (data_of o)
IsAnswer r (Err Memory) = IsOk r
IsAnswer r (Err e) = r ≡ Err e
