-- What is told of the cells of a site: the changes from the text of the first operations to that of all.
use Rattle.std.proofs.Common.{◌≡◌, ℕ, ◌+◌, ◌<◌, List, [], ◌∷◌, ◌++◌, length, take, filter, inl, inr, refl, ap, sym, ◌∙◌, subst, arith}
use Rattle.std.proofs.lemmas.Bool.{cases_Bool}
use Rattle.std.proofs.lemmas.List.{length-map}
use Rattle.context_vector.specs.Contexts.{ContextData}
use Rattle.context_diff.specs.Operations.{OpData}
use Rattle.context_diff.specs.Histories.{context_of_all, IsValid}
use Rattle.context_diff.specs.Replays.{Cell, replay_of, shown}
use Rattle.ttf_form.specs.declared.include.TheConstants.{CELLS}
use Rattle.ttf_form.specs.Cells.{CellData, cell_key, cell_shown, cells_of}
use Rattle.ttf_form.specs.Laws.Cells.{length-cells}
use Rattle.tombstone_text.specs.Chunks.{flag_of, shown_in}
use Rattle.fixed_replay.specs.Replayed.{IsReplayed}
use Rattle.fixed_replay.proofs.CallerLemmas.{replayed_shown}
use Rattle.transform_rec.specs.Lists.{AreApart}
use Rattle.change_list.specs.Changes.{AreChanges}
use Rattle.change_list.specs.declared.change.Change.{Change}
use Rattle.change_list.specs.Told.{elements, before, after, told, HasRoom}
use Rattle.change_list.specs.Laws.{AreApart as AreDifferent}
use Rattle.change_list.proofs.CallerLemmas.{are_changes, room_to_tell}
use Rattle.site_changes.specs.Code.Marks.{CellMark, mark_of, marks_of, was_shown, TellsOneMore}
use Rattle.site_changes.proofs.Apart.{replay_apart}
use Rattle.site_changes.proofs.ShownBefore.{was_first}

elements_marks : (c : ContextData) (ds : List CellData) → elements (marks_of c ds) ≡ cells_of ds
elements_marks c [] = refl
elements_marks c (d ∷ ds) = ap (λ (ks : List Cell). cell_key d ∷ ks) (elements_marks c ds)

before_marks : (c : ContextData) (ds : List CellData) → before (marks_of c ds) ≡ cells_of (filter (was_shown c) ds)
before_marks c [] = refl
before_marks c (d ∷ ds) = elim (cases_Bool (was_shown c d)) [
  | inl e ↦ rw e (ap (λ (ks : List Cell). cell_key d ∷ ks) (before_marks c ds))
  | inr e ↦ rw e (before_marks c ds)
]

pub after_marks : (c : ContextData) (ds : List CellData) → after (marks_of c ds) ≡ cells_of (filter cell_shown ds)
after_marks c [] = refl
after_marks c (d ∷ ds) = elim (cases_Bool (cell_shown d)) [
  | inl e ↦ rw e (ap (λ (ks : List Cell). cell_key d ∷ ks) (after_marks c ds))
  | inr e ↦ rw e (after_marks c ds)
]

pub after_count : (c : ContextData) (ds : List CellData) → length (after (marks_of c ds)) ≡ shown_in ds
after_count c ds = ap (λ (ks : List Cell). length ks) (after_marks c ds) ∙ length-cells (filter cell_shown ds)

-- ---- one cell more

pub marks_more : (c : ContextData) (ds : List CellData) (d : CellData) → marks_of c (ds ++ d ∷ []) ≡ marks_of c ds ++ mark_of c d ∷ []
marks_more c [] d = refl
marks_more c (e ∷ es) d = ap (λ (ms : List CellMark). mark_of c e ∷ ms) (marks_more c es d)

pub flag_more : (ds : List CellData) (d : CellData) → shown_in (ds ++ d ∷ []) ≡ shown_in ds + flag_of d
flag_more [] d = elim (cases_Bool (cell_shown d)) [ inl e ↦ rw e (omega arith) | inr e ↦ rw e (omega arith) ]
flag_more (x ∷ xs) d =
    let more = flag_more xs d in
    elim (cases_Bool (cell_shown x)) [ inl e ↦ rw e (omega arith) | inr e ↦ rw e more ]

-- there is room to tell of one more, where there are fewer cells than the greatest number
pub marks_room : (c : ContextData) (ds : List CellData) → length ds < CELLS → HasRoom (shown_in ds) (told (marks_of c ds))
marks_room c ds few =
    subst (λ (n : ℕ). HasRoom n (told (marks_of c ds))) (after_count c ds)
    (room_to_tell (marks_of c ds) (subst (λ (n : ℕ). n < CELLS) (sym (length-map ds (mark_of c))) few))

-- what is told once one cell more is
pub told_one : (c : ContextData) (ds : List CellData) (d : CellData) (old new : List Change) (place : ℕ) → old ≡ told (marks_of c ds)
    → place ≡ shown_in ds → TellsOneMore place (mark_of c d) old new → new ≡ told (marks_of c (ds ++ d ∷ []))
told_one c ds d old new place is front more =
    more (marks_of c ds) is (after_count c ds ∙ sym front) ∙ ap (λ (ms : List CellMark). told ms) (sym (marks_more c ds d))

-- ---- all cells

-- the two words for lists in which none stands twice say the same
different : {A : Type 0} (xs : List A) → AreApart xs → AreDifferent xs
different [] a = tt
different (x ∷ xs) a = (a.0, different xs a.1)

-- what is told of all cells are the changes from the text of the first operations to that of all
told_changes : (h : List OpData) → IsValid h → (n : ℕ) (cs : List CellData) → IsReplayed h cs
    → AreChanges (told (marks_of (context_of_all (take n h)) cs)) (shown (take n h)) (shown h)
told_changes h v n cs re =
    let c = context_of_all (take n h) in
    let apart : AreDifferent (elements (marks_of c cs)) =
    subst (λ (ks : List Cell). AreDifferent ks) (sym (elements_marks c cs ∙ re.cells)) (different (replay_of h) (replay_apart h v)) in
    let was : before (marks_of c cs) ≡ shown (take n h) = before_marks c cs ∙ was_first h v n cs re in
    let is : after (marks_of c cs) ≡ shown h = after_marks c cs ∙ replayed_shown h cs re in
    subst (λ (ks : List Cell). AreChanges (told (marks_of c cs)) ks (shown h)) was
    (subst (λ (ks : List Cell). AreChanges (told (marks_of c cs)) (before (marks_of c cs)) ks) is (are_changes (marks_of c cs) apart))

-- so what is told at the members of the first operations are these changes
pub told_since : (h : List OpData) → IsValid h → (n : ℕ) (cs : List CellData) → IsReplayed h cs → (c : ContextData)
    → c ≡ context_of_all (take n h) → (ts : List Change) → ts ≡ told (marks_of c cs) → AreChanges ts (shown (take n h)) (shown h)
told_since h v n cs re c at ts is =
    let all : ts ≡ told (marks_of (context_of_all (take n h)) cs) = is ∙ ap (λ (d : ContextData). told (marks_of d cs)) at in
    subst (λ (us : List Change). AreChanges us (shown (take n h)) (shown h)) (sym all) (told_changes h v n cs re)
