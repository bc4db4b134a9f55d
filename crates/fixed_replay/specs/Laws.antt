-- The laws of the fixed replay.
use Rattle.std.specs.Prelude.{◌≡◌, ℕ, Bool, true, List, [], ◌∷◌, ◌++◌, length}
use Rattle.op_name.specs.NameData.{NameData}
use Rattle.op_name.specs.declared.member.Member.{Member}
use Rattle.context_diff.specs.Operations.{OpData, member_of}
use Rattle.context_diff.specs.Histories.{members_in, is_known, Same, IsValid}
use Rattle.context_diff.specs.Replays.{replay, text_of}
use Rattle.ttf_form.specs.declared.form.Form.{Form}
use Rattle.ttf_form.specs.Forms.{form_over, extent_of}
use Rattle.ttf_form.specs.Cells.{CellData, cells_of, applied, FitsCells, text_put}
use Rattle.transform_rec.specs.Sets.{none}
use Rattle.transform_rec.specs.Derived.{Derived}
use Rattle.transform_rec.specs.Lists.{SameElements}
use Rattle.transform_rec.specs.Executing.{AreFormsFrom, executed}
use Rattle.transform_rec.specs.Histories.{family_in}
use Rattle.fixed_replay.specs.Originals.{AreToldApart}
use Rattle.undo_group.specs.BaseForms.{AreBaseForms, base_form}
use Rattle.fixed_replay.specs.Insertions.{insertions_of}
use Rattle.fixed_replay.specs.Replayed.{IsReplayed, AreCharacters, letters_of, ShowsTheText}

-- the forms of a valid history, executed in its order from no cell, give its fixed replay
abbrev pub ExecutedIsReplayed : Type 0
ExecutedIsReplayed =
    (h : List OpData) (form : Member → Form) (fs : List Form)
    → IsValid h
    → AreBaseForms h form
    → AreFormsFrom form_over (family_in h form) none (members_in h) fs
    → IsReplayed h (executed applied [] fs)

-- and so do they in any other order in which all members may be executed
abbrev pub AnyOrderIsReplayed : Type 0
AnyOrderIsReplayed =
    (h : List OpData) (form : Member → Form) (ms : List Member) (fs : List Form)
    → IsValid h
    → AreBaseForms h form
    → SameElements ms (members_in h)
    → AreFormsFrom form_over (family_in h form) none ms fs
    → IsReplayed h (executed applied [] fs)

-- there are such forms
abbrev pub HistoriesHaveForms : Type 0
HistoriesHaveForms =
    (h : List OpData) (form : Member → Form)
    → IsValid h
    → AreBaseForms h form
    → (fs : List Form) × AreFormsFrom form_over (family_in h form) none (members_in h) fs

-- when a history grows by an operation, the forms that it had are forms of the longer one as well, followed by a form of the
-- new operation at the members that were known
abbrev pub FormsStay : Type 0
FormsStay =
    (h : List OpData) (o : OpData) (form longer : Member → Form) (fs : List Form) (f : Form)
    → IsValid (h ++ o ∷ [])
    → ((m : Member) → is_known h m ≡ true → form m ≡ longer m)
    → AreFormsFrom form_over (family_in h form) none (members_in h) fs
    → Derived form_over (family_in (h ++ o ∷ []) longer) (member_of o) (is_known h) f
    → AreFormsFrom form_over (family_in (h ++ o ∷ []) longer) none (members_in (h ++ o ∷ [])) (fs ++ f ∷ [])

-- base forms stay when a history grows
abbrev pub BaseFormsStay : Type 0
BaseFormsStay = (h k : List OpData) → IsValid (h ++ k) → (m : Member) → is_known h m ≡ true → base_form h m ≡ base_form (h ++ k) m

-- along any list of members of a valid history that may be executed in its order, the replay of the inserts in that very
-- order gives the cells of the executed forms, whatever ranks they have
abbrev pub ReplayAlongAnyList : Type 0
ReplayAlongAnyList =
    (h : List OpData) (form : Member → Form) (rank : NameData → ℕ) (ms : List Member) (fs : List Form)
    → IsValid h
    → AreBaseForms h form
    → AreFormsFrom form_over (family_in h form) none ms fs
    → replay [] [] (insertions_of (family_in h form) rank ms) ≡ cells_of (executed applied [] fs)

-- the base forms that the operations of a valid history say
abbrev pub OperationsSayBaseForms : Type 0
OperationsSayBaseForms = (h : List OpData) → IsValid h → AreBaseForms h (base_form h)

-- the shown cells of a fixed replay are those of the history, and so is their text
abbrev pub ReplayShowsTheText : Type 0
ReplayShowsTheText = (h : List OpData) (cs : List CellData) → IsReplayed h cs → ShowsTheText h cs

-- a form of an operation adds as many cells as the operation brings characters
abbrev pub LettersFit : Type 0
LettersFit =
    (h : List OpData) (o : OpData) (C : Member → Bool) (f : Form)
    → IsValid (h ++ o ∷ [])
    → Derived form_over (family_in (h ++ o ∷ []) (base_form (h ++ o ∷ []))) (member_of o) C f
    → length (letters_of o) ≡ extent_of f

-- when an operation is integrated by a form of it, its characters put at the place of the form keep the text that of the history
abbrev pub CharactersStay : Type 0
CharactersStay =
    (h : List OpData) (o : OpData) (C : Member → Bool) (f : Form) (cs : List CellData) (ts : List ℕ)
    → IsValid (h ++ o ∷ [])
    → Derived form_over (family_in (h ++ o ∷ []) (base_form (h ++ o ∷ []))) (member_of o) C f
    → FitsCells cs f
    → AreCharacters h cs ts
    → AreCharacters (h ++ o ∷ []) (applied cs f) (text_put f (letters_of o) ts)

-- originals of a valid history differ in their names, and in rank or site
abbrev pub OriginalsAreToldApart : Type 0
OriginalsAreToldApart = (h : List OpData) → IsValid h → AreToldApart h

-- two lists of operations with the same originals, each at the same generation, have the same text
abbrev pub SameOperationsSameText : Type 0
SameOperationsSameText = (h k : List OpData) → AreToldApart h → AreToldApart k → Same h k → text_of h ≡ text_of k
