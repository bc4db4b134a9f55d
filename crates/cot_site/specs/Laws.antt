-- The laws of verdicts, releases and local commands.
use Rattle.std.specs.Prelude.{◌≡◌, ◌↔◌, ℕ, ◌<◌, ◌≤◌, List, [], ◌∷◌, ◌++◌, Contains, Ok, Some, length, slice_get}
use Rattle.op_name.specs.declared.member.Member.{Member}
use Rattle.op_name.specs.declared.member.Member.TheVariants.{Original}
use Rattle.op_name.specs.declared.name.TheConstants.{SITES}
use Rattle.op_name.specs.NameData.{NameData}
use Rattle.context_diff.specs.Operations.{OpData, member_of, IsLetters, IsWellFormed}
use Rattle.context_diff.specs.declared.op.TheConstants.{PLACES}
use Rattle.context_diff.specs.Histories.{IsNext, IsValid, all_cells}
use Rattle.site_answers.specs.declared.verdict.Verdict.{Verdict}
use Rattle.site_answers.specs.declared.verdict.Verdict.TheVariants.{Waits, Integrated}
use Rattle.cot_site.specs.Verdicts.{verdict_of, IsVerdict, HasOther}
use Rattle.cot_site.specs.States.{State, Released, released, IsSettled, IsFirstRelease, NoneIsReady}
use Rattle.context_diff.specs.Replays.{shown, text_of}
use Rattle.ttf_form.specs.declared.form.Form.{Form}
use Rattle.ttf_form.specs.Cells.{applied}
use Rattle.transform_rec.specs.Executing.{executed}
use Rattle.fixed_replay.specs.Replayed.{AreCharacters}
use Rattle.visible_view.specs.View.{shown_cells, shown_places, shown_text, places_after}
use Rattle.cot_site.specs.Sites.{AreExecuted, KeepsForms}
use Rattle.cot_site.specs.Releases.{IsSound, IsLater, all_releases, state_after, settled}
use Rattle.cot_site.specs.Views.{shown_places_of, history_view, forms_view, AreFormLists}
use Rattle.cot_site.specs.Commands.{place_behind, place_of_shown, local_run, local_insert, local_delete, local_undo, local_redo}
use Rattle.std.specs.Char.{IsScalar}

-- a well-formed operation has exactly one verdict over a valid history, and it comes exactly where its words hold
abbrev pub VerdictsAreExact : Type 0
VerdictsAreExact =
    (h w : List OpData) (o : OpData) (v : Verdict) → IsValid h → IsWellFormed o → IsVerdict h w o v ↔ (v ≡ verdict_of h w o)

-- an operation is integrated exactly where it may come next, and no other of its name waits
abbrev pub IntegratedOperationsAreNext : Type 0
IntegratedOperationsAreNext =
    (h w : List OpData) (o : OpData)
    → IsValid h
    → IsWellFormed o
    → (verdict_of h w o ≡ Integrated) ↔ (IsNext h o × ((n : NameData) → member_of o ≡ Original n → ¬ HasOther w o n))

-- a released operation doesn't wait again
abbrev pub ReleasesNeverWait : Type 0
ReleasesNeverWait = (s : State) (r : Released) (m : Member) → IsSound s → released s ≡ Some r → ¬ (r.verdict ≡ Waits m)

-- nor does any on the way to the settled state
abbrev pub NoReleaseWaits : Type 0
NoReleaseWaits = (s : State) (r : Released) (m : Member) → IsSound s → Contains (all_releases s) r → ¬ (r.verdict ≡ Waits m)

-- each release takes the first operation that is ready after the releases before it
abbrev pub EachReleaseIsTheFirst : Type 0
EachReleaseIsTheFirst =
    (s : State) (done left : List Released) (r : Released) → all_releases s ≡ done ++ r ∷ left → released (state_after s done) ≡ Some r

-- there are at most as many releases as operations that wait
abbrev pub ReleasesAreFew : Type 0
ReleasesAreFew = (s : State) → length (all_releases s) ≤ length s.waiting

-- after all releases no waiting operation is ready
abbrev pub ReleasesSettle : Type 0
ReleasesSettle = (s : State) → IsSound s → IsSettled (settled s)

-- a settled state has no release
abbrev pub SettledStatesStay : Type 0
SettledStatesStay = (s : State) → IsSettled s → (all_releases s ≡ []) × (settled s ≡ s)

-- each release leaves a sound state of the same site, where what was integrated stays so
abbrev pub ReleasesKeepHistories : Type 0
ReleasesKeepHistories =
    (s : State) (done left : List Released) → IsSound s → all_releases s ≡ done ++ left
    → IsSound (state_after s done) × IsLater s (state_after s done)

-- a sound state is settled exactly where no waiting operation is ready, in the words of readiness
abbrev pub SettledStatesHaveNoneReady : Type 0
SettledStatesHaveNoneReady = (s : State) → IsSound s → IsSettled s ↔ NoneIsReady s

-- what is released is the first ready operation with its verdict and effect, in the words of both, and nothing else is
abbrev pub ReleasesAreExact : Type 0
ReleasesAreExact = (s : State) (r : Released) → IsSound s → IsFirstRelease s r ↔ (released s ≡ Some r)

-- what a site makes may come next in its history
abbrev pub LocalOperationsAreNext : Type 0
LocalOperationsAreNext =
    (s : State) (o : OpData)
    → IsValid s.history
    → s.number < SITES
    → ((v : ℕ) (text : List ℕ) → IsLetters text → local_run s v text ≡ Ok o → IsNext s.history o)
    × ((v ch : ℕ) → IsScalar ch → local_insert s v ch ≡ Ok o → IsNext s.history o)
    × ((v : ℕ) → local_delete s v ≡ Ok o → IsNext s.history o)
    × ((t : NameData) → local_undo s t ≡ Ok o → IsNext s.history o)
    × ((t : NameData) → local_redo s t ≡ Ok o → IsNext s.history o)

-- in a history of at most PLACES cells, as that of each book is, the range of places refuses none: a text has its place after each number
-- of shown characters that there are, and each shown character has its own
abbrev pub PlacesAreInRange : Type 0
PlacesAreInRange =
    (h : List OpData) (v : ℕ)
    → all_cells h ≤ PLACES
    → (place_behind h v ≡ slice_get (places_after (shown_places_of h)) v) × (place_of_shown h v ≡ slice_get (shown_places_of h) v)

-- what the executed forms of a valid history show is what the history shows: the text, with the characters of the history's inserts
-- beside the cells, where the shown characters stand, and how many there are
abbrev pub ExecutedFormsShowTheHistory : Type 0
ExecutedFormsShowTheHistory =
    (h : List OpData) (fs : List Form) (ts : List ℕ)
    → IsValid h
    → AreExecuted h fs
    → AreCharacters h (executed applied [] fs) ts
    → (shown_text (executed applied [] fs) ts ≡ text_of h)
    × (shown_places (executed applied [] fs) ≡ shown_places_of h)
    × (length (shown_cells (executed applied [] fs)) ≡ length (shown h))

-- lists of forms stand beside all states
abbrev pub FormListsAreThere : Type 0
FormListsAreThere = (forms : State → List Form) × AreFormLists forms

-- beside a valid history stands exactly one list: whatever derived forms its operations have, each at the members before it, are
-- that list
abbrev pub OneListOfForms : Type 0
OneListOfForms =
    (forms : State → List Form) (s : State) (fs : List Form)
    → AreFormLists forms
    → IsValid s.history
    → AreExecuted s.history fs
    → fs ≡ forms s

-- when a history grows by an operation, the forms that stood beside it stay
abbrev pub FormListsStay : Type 0
FormListsStay =
    (forms : State → List Form) (s t : State) (o : OpData)
    → AreFormLists forms
    → IsValid t.history
    → t.history ≡ s.history ++ o ∷ []
    → KeepsForms (forms s) (forms t)

-- through the list beside its state a site sees what its history shows
abbrev pub FormListsShowTheHistories : Type 0
FormListsShowTheHistories =
    (forms : State → List Form) (s : State) → AreFormLists forms → IsValid s.history → forms_view forms s ≡ history_view s
