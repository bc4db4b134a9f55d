-- The laws of sites whose histories begin differently, and are alike.
use Rattle.std.specs.Prelude.{◌≡◌, ℕ, ◌<◌, ◌≤◌, true, List, [], Ok}
use Rattle.op_name.specs.NameData.{NameData}
use Rattle.op_name.specs.declared.name.TheConstants.{SITES}
use Rattle.context_diff.specs.Operations.{OpData, member_of, IsLetters, IsWellFormed}
use Rattle.context_diff.specs.declared.op.TheConstants.{PLACES}
use Rattle.context_diff.specs.Histories.{is_known, all_cells, IsValid}
use Rattle.ttf_form.specs.declared.form.Form.{Form}
use Rattle.flat_history.specs.Flat.{AreExecutedForms, flat_of}
use Rattle.flat_history.specs.Alike.{AreAlike, IsMadeAfter, AreJudgedAlike}
use Rattle.cot_site.specs.Verdicts.{verdict_of}
use Rattle.cot_site.specs.States.{State, judged, delivered, released}
use Rattle.cot_site.specs.Releases.{IsSound}
use Rattle.cot_site.specs.Views.{history_view}
use Rattle.cot_site.specs.Commands.{local_run, local_delete, local_undo, local_redo}
use Rattle.alike_sites.specs.Twins.{AreAlikeSites, IsOneRelease}

-- an operation that is judged alike gets one verdict over both histories, whatever waits
abbrev pub AlikeHistoriesGiveOneVerdict : Type 0
AlikeHistoriesGiveOneVerdict =
    (h k w : List OpData) (o : OpData)
    → IsValid h
    → IsValid k
    → IsWellFormed o
    → AreJudgedAlike h k o
    → verdict_of h w o ≡ verdict_of k w o

-- Flat sites: the site of a valid history at which nothing waits and that of its flat history are alike
abbrev pub FlatSitesAreAlike : Type 0
FlatSitesAreAlike =
    (h : List OpData) (fs : List Form) (number : ℕ)
    → IsValid h
    → AreExecutedForms h fs
    → all_cells h ≤ PLACES
    → number < SITES
    → AreAlikeSites h (flat_of h fs) (record { number = number; history = h; waiting = [] })
    (record { number = number; history = flat_of h fs; waiting = [] })

-- the other state is sound too, the histories are alike, so that both show one text, and both have one view of it
abbrev pub AlikeSitesShowTheSame : Type 0
AlikeSitesShowTheSame =
    (h k : List OpData) (s t : State)
    → AreAlikeSites h k s t
    → IsSound t × AreAlike s.history t.history × (history_view s ≡ history_view t)

-- they give one verdict on an operation that was made after all of h, and are alike after it was delivered to both
abbrev pub AlikeSitesTakeTheSame : Type 0
AlikeSitesTakeTheSame =
    (h k : List OpData) (s t : State) (o : OpData)
    → AreAlikeSites h k s t
    → IsWellFormed o
    → IsMadeAfter h o
    → (judged s o ≡ judged t o) × AreAlikeSites h k (delivered s o) (delivered t o)

-- an operation of a member that the history has changes nothing
abbrev pub OldOperationsChangeNothing : Type 0
OldOperationsChangeNothing =
    (s : State) (o : OpData) → IsSound s → IsWellFormed o → is_known s.history (member_of o) ≡ true → delivered s o ≡ s

-- they release the same
abbrev pub AlikeSitesReleaseTheSame : Type 0
AlikeSitesReleaseTheSame = (h k : List OpData) (s t : State) → AreAlikeSites h k s t → IsOneRelease h k (released s) (released t)

-- they answer each local command alike, and what they make was made after all of h
abbrev pub AlikeSitesMakeTheSame : Type 0
AlikeSitesMakeTheSame =
    (h k : List OpData) (s t : State)
    → AreAlikeSites h k s t
    → ((v : ℕ) (text : List ℕ) → local_run s v text ≡ local_run t v text)
    × ((v : ℕ) → local_delete s v ≡ local_delete t v)
    × ((n : NameData) → local_undo s n ≡ local_undo t n)
    × ((n : NameData) → local_redo s n ≡ local_redo t n)
    × ((v : ℕ) (text : List ℕ) (o : OpData) → IsLetters text → local_run s v text ≡ Ok o → IsMadeAfter h o)
    × ((v : ℕ) (o : OpData) → local_delete s v ≡ Ok o → IsMadeAfter h o)
    × ((n : NameData) (o : OpData) → local_undo s n ≡ Ok o → IsMadeAfter h o)
    × ((n : NameData) (o : OpData) → local_redo s n ≡ Ok o → IsMadeAfter h o)
