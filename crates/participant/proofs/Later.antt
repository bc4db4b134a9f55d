-- What an operation and the releases after it leave: a later state of the same site.
use Rattle.std.proofs.Common.{◌≡◌, ℕ, zero, suc, ◌+◌, ◌<◌, ◌≤◌, Bool, true, false, List, [], ◌∷◌, ◌++◌, Result, Ok, Err, refl, sym, ap, subst, ◌∙◌, length, take, append-nil, arith}
use Rattle.std.specs.Prelude.{Option, Some, None, nat_lt, if◌then◌else◌}
use Rattle.std.proofs.Math.Seq.{take-append_seam, take-length}
use Rattle.std.proofs.lemmas.List.{length-take, length_push}
use Rattle.context_diff.specs.Operations.{OpData, inserting, cells_put}
use Rattle.context_diff.specs.declared.op.Op.{Op}
use Rattle.site_answers.specs.declared.local.Local.{Local}
use Rattle.site_answers.specs.declared.local.Local.TheVariants.{PlaceOut}
use Rattle.site_answers.specs.declared.release.Release.{Release}
use Rattle.op_name.specs.declared.name.TheConstants.{SITES, NUMBERS}
use Rattle.context_diff.specs.declared.op.TheConstants.{UNDO_ENTRIES}
use Rattle.context_diff.specs.Replays.{characters_of}
use Rattle.context_diff.specs.Histories.{IsValid, all_cells, context_of_all}
use Rattle.cot_site.specs.Sites.{SiteData, AllFormed, state_of}
use Rattle.cot_site.specs.States.{State, with_last, delivered, judged}
use Rattle.cot_site.specs.Releases.{IsSound, IsLater, IsPartlySettled, all_releases, settled}
use Rattle.cot_site.specs.Commands.{place_behind, count_made, next_name, numbered, local_run}
use Rattle.cot_site.proofs.CallerLemmas.{behind_few, delivered_number, later_on, sound_along, verdict_history}
use Rattle.participant.specs.declared.edits.Stopped.{Stopped}
use Rattle.participant.specs.declared.edits.Stopped.TheVariants.{Refused, Unsettled}
use Rattle.participant.specs.Reached.{Reached, with_one, all_settled}
use Rattle.participant.specs.Edits.{IsDone}
use Rattle.participant.specs.Code.Running.{IsReleased}

-- what a site keeps, as it says
pub sound_of : (s : SiteData) → s.number < SITES → IsValid s.history → AllFormed s.waiting → IsSound (state_of s)
sound_of s number history waiting = record { number = number; history = history; waiting = waiting }

pub later_same : (s : State) → IsLater s s
later_same s = record { number = refl; history = take-length s.history }

pub later_one : (s : State) (o : OpData) → IsLater s (with_last s o)
later_one s o = record { number = refl; history = take-append_seam s.history (o ∷ []) }

pub later_delivered : (s : State) (o : OpData) → IsLater s (delivered s o)
later_delivered s o = record { number = delivered_number s o; history = verdict_history (judged s o) o s }

-- all releases, or the first of them
pub later_settled : (s : State) → IsSound s → IsLater s (settled s)
later_settled s sound = (sound_along (length s.waiting) s (all_releases s) [] sound (sym (append-nil (all_releases s)))).1

pub later_half : (s now : State) (old new : List Release) → IsSound s → IsPartlySettled s now old new → IsLater s now
later_half s now old new sound half =
    subst (IsLater s) (sym half.state) (sound_along (length s.waiting) s half.done half.left sound half.parts).1

-- a later history is no shorter
pub longer : (s t : State) → IsLater s t → length s.history ≤ length t.history
longer s t later = omega (arith, ap length later.history, length-take (length s.history) t.history)

-- after an operation it is longer
pub longer_by_one : (s t u : State) (o : OpData) → t ≡ with_last s o → IsLater t u → length s.history < length u.history
longer_by_one s t u o is later = omega (arith, longer t u later, ap (λ (x : State). length x.history) is, length_push s.history o)

-- the states before an operation of the site's own, after it and after what follows
pub later_made : (s t u : State) (o : OpData) → t ≡ with_last s o → IsLater t u → IsLater s u
later_made s t u o is later = later_on s t u (subst (IsLater s) (sym is) (later_one s o)) later

-- the same of a delivery
pub later_taken : (s t u : State) (o : OpData) → t ≡ delivered s o → IsLater t u → IsLater s u
later_taken s t u o is later = later_on s t u (subst (IsLater s) (sym is) (later_delivered s o)) later

-- ---- cells

cells_part : (n : ℕ) (h : List OpData) → all_cells (take n h) ≤ all_cells h
cells_part zero h = omega arith
cells_part (suc n) [] = omega arith
cells_part (suc n) (o ∷ os) = omega (arith, cells_part n os)

cells_after : (h : List OpData) (o : OpData) → all_cells (h ++ o ∷ []) ≡ all_cells h + cells_put o
cells_after [] o = omega arith
cells_after (p ∷ ps) o = omega (arith, cells_after ps o)

-- what came after an operation took no cell away
pub cells_later : (s t u : State) (o : OpData) → t ≡ with_last s o → IsLater t u → all_cells s.history + cells_put o ≤ all_cells u.history
cells_later s t u o is later =
    omega (
      arith,
      cells_after s.history o,
      ap (λ (x : State). all_cells x.history) is,
      ap all_cells later.history,
      cells_part (length t.history) u.history,
    )

-- the operation that a name is given to is the one that is made
numbered_is : (s : State) (o p : OpData) → numbered s o ≡ Ok p → o ≡ p
numbered_is s o p = chosen (nat_lt (count_made s) NUMBERS) (nat_lt UNDO_ENTRIES (length (context_of_all s.history).entries)) _ _
  where
    chosen : (a b : Bool) (full more : Local) → (if a then (if b then Err more else Ok o) else Err full) ≡ Ok p → o ≡ p
    chosen true true full more is = cc
    chosen true false full more is = cc
    chosen false b full more is = cc

-- a text is inserted after no more characters than there are cells, and has a cell for each of its own
pub run_room : (s : State) (v : ℕ) (text : List ℕ) (o : OpData) → local_run s v text ≡ Ok o
    → (v ≤ all_cells s.history) × (length text ≡ cells_put o)
run_room s v text o is = from (place_behind s.history v) refl is
  where
    from : (r : Option ℕ) → place_behind s.history v ≡ r → (elim r as (λ _. Result OpData Local) [
      | None ↦ Err (PlaceOut v (length (characters_of s.history)))
      | Some p ↦ numbered s (inserting (next_name s) p text (context_of_all s.history))
    ]) ≡ Ok o → (v ≤ all_cells s.history) × (length text ≡ cells_put o)
    from None at ok = cc
    from (Some p) at ok = (
      behind_few s.history v p at,
      ap cells_put (numbered_is s (inserting (next_name s) p text (context_of_all s.history)) o ok),
    )

-- ---- an edit, and the releases after it

-- the operation was made, and what was ready after it is released, or the first of that
pub done_after : (r : Result OpData Local) (s t : State) (rs : List Release) (o : OpData) (answer : Result Op Stopped) (b : Reached)
    → r ≡ Ok o → t ≡ with_last s o → IsReleased o (record { state = t; released = rs }) answer b
    → IsDone r (record { state = s; released = rs }) answer b
done_after r s t rs o answer b made is done =
    by answer (subst (λ (x : State). IsReleased o (record { state = x; released = rs }) answer b) is done)
  where
    by : (answer : Result Op Stopped) → IsReleased o (record { state = with_last s o; released = rs }) answer b
        → IsDone r (record { state = s; released = rs }) answer b
    by (Ok p) (same, at) = (
      made ∙ ap (λ (x : OpData). Ok x) (sym same),
      at ∙ ap (λ (x : OpData). all_settled (with_one (record { state = s; released = rs }) x)) (sym same),
    )
    by (Err (Refused why)) never = absurd never
    by (Err Unsettled) half = record { op = o; is = made; half = half }
