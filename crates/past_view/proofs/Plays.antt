-- One operation more is played: its form on the cells and the text beside them, and its moment.
use Rattle.std.proofs.Common.{◌≡◌, ℕ, zero, suc, ◌+◌, ◌<◌, ◌≤◌, min, Bool, true, false, nat_le, List, [], ◌∷◌, ◌++◌, Result, Ok, Err, OnOk, Option, Some, None, length, take, slice_get, option_map, refl, sym, ap, ◌∙◌, subst, subst₂, arith, append_assoc}
use Rattle.std.specs.Prelude.{codes, IsTrue}
use Rattle.std.proofs.lemmas.List.{take_all}
use Rattle.std.proofs.lemmas.Bool.Decides.{nat_tests}
use Rattle.std.proofs.lemmas.Option.{slice_get_cases, slice_get-map, same_Some}
use Rattle.op_name.specs.declared.member.Member.{Member}
use Rattle.context_diff.specs.Operations.{OpData, member_of}
use Rattle.context_diff.specs.Histories.{members_in, IsValid}
use Rattle.context_diff.specs.Replays.{characters_of, text_of}
use Rattle.ttf_form.specs.declared.form.Form.{Form}
use Rattle.ttf_form.specs.Cells.{CellData, FitsCells, cells_of, applied, text_put}
use Rattle.cot_site.specs.Sites.{AreExecuted}
use Rattle.visible_view.specs.View.{shown_cells, shown_text}
use Rattle.site_answers.specs.Names.{member_text}
use Rattle.script_text.specs.Report.{shown_text as lines_text}
use Rattle.fixed_replay.specs.Replayed.{AreCharacters, letters_of}
use Rattle.past_view.specs.Playing.{moment_text, played}
use Rattle.past_view.specs.Code.Playing.{AreApart, IsAfter, IsPlayed}
use Rattle.past_view.proofs.Prefixes.{first_text, first_count, next_fits, next_after, next_letters}
use Rattle.past_view.proofs.Splices.{apart_applied}
use Rattle.past_view.proofs.Moments.{played_more}
use mathlib.Core.Logic.{inl, inr}

-- something stands at each place of a list
pub some_there : {A : Type 0} (xs : List A) (i : ℕ) → i < length xs → slice_get xs i ≡ None → ⊥
some_there [] i lt e = omega (arith, lt)
some_there (x ∷ xs) zero lt e = cc
some_there (x ∷ xs) (suc i) lt e = some_there xs i (omega (arith, lt)) e

-- a front that ends past the list is all of it
pub take_front : (h : List OpData) (i index : ℕ) → i ≡ min index (length h) → take i h ≡ take index h
take_front h i index is = by (nat_le (length h) index) refl
  where
    by : (b : Bool) → nat_le (length h) index ≡ b → take i h ≡ take index h
    by true e =
        let past : length h ≤ index = grind (arith, nat_tests) in
        take_all i h (omega (arith, is, past)) ∙ sym (take_all index h past)
    by false e =
        let within : index < length h = grind (arith, nat_tests) in
        let same : i ≡ index = omega (arith, is, within) in
        ap (λ (n : ℕ). take n h) same

module _ (h : List OpData) (valid : IsValid h) (fs : List Form) (df : AreExecuted h fs) (i : ℕ) where
  -- the text of the first operations
  pub text_after : (cs : List CellData) (ts : List ℕ) → i ≤ length h → IsAfter h fs i cs ts → shown_text cs ts ≡ text_of (take i h)
  text_after cs ts le a =
      ap (λ (l : List CellData). shown_text l ts) a.given
      ∙ first_text h valid fs df i le ts (subst (λ (l : List CellData). AreCharacters (take i h) l ts) a.given a.beside)

  count_after : (cs : List CellData) (ts : List ℕ) → i ≤ length h → IsAfter h fs i cs ts
      → length (shown_cells cs) ≡ length (characters_of (take i h))
  count_after cs ts le a = ap (λ (l : List CellData). length (shown_cells l)) a.given ∙ first_count h valid fs df i le

  -- the next form fits their cells
  pub fits_after : (cs : List CellData) (ts : List ℕ) (f : Form) → i ≤ length h → IsAfter h fs i cs ts → slice_get fs i ≡ Some f
      → FitsCells cs f
  fits_after cs ts f le a e = subst (λ (l : List CellData). FitsCells l f) (sym a.given) (next_fits h valid fs df i le f e)

-- one form more is played, with the characters that its operation brings
pub played_next : (h : List OpData) (valid : IsValid h) (fs : List Form) (df : AreExecuted h fs) (i : ℕ) → i < length h
    → (o : OpData) (f : Form) → slice_get h i ≡ Some o → slice_get fs i ≡ Some f
    → (cs ds : List CellData) (ts us old new : List ℕ) (one still : Bool) → IsPlayed h fs i cs ts old one
    → ds ≡ applied cs f → us ≡ text_put f (letters_of o) ts → new ≡ shown_text ds us
    → (IsTrue still → IsTrue one × (length (letters_of o) ≤ 1))
    → IsPlayed h fs (i + 1) ds us new still
played_next h valid fs df i lt o f there at cs ds ts us old new one still p cells beside shown few = record {
  after = subst₂ (λ (l : List CellData) (t : List ℕ). IsAfter h fs (i + 1) l t) (sym cells) (sym beside)
      (next_after h valid fs df i lt o f there at cs ts p.after);
  shown = shown;
  apart = λ t. subst (λ (l : List CellData). AreApart (cells_of l)) (sym cells)
      (apart_applied cs f (p.apart (few t).0) (fits_after h valid fs df i cs ts f (omega (arith, lt)) p.after at)
      (let size = next_letters h valid fs df i lt o f there at in let least = (few t).1 in omega (arith, size, least)));
}

-- the moment of an operation, once it was executed
pub moment_on : (h : List OpData) (valid : IsValid h) (fs : List Form) (df : AreExecuted h fs) (i : ℕ) → i < length h
    → {E : Type 0} (r : Result (Unit {0}) E) (m : Member) (cs : List CellData) (ts : List ℕ) (chars : ℕ) (text old new : List ℕ)
    → IsAfter h fs (i + 1) cs ts → slice_get (members_in h) i ≡ Some m → chars ≡ length (shown_cells cs) → text ≡ shown_text cs ts
    → OnOk r (new ≡ old ++ (codes "after " ++ (member_text m ++ (codes "\n" ++ lines_text chars text))))
    → OnOk r ((front : List ℕ) → played (take i h) ≡ front ++ old → played (take (i + 1) h) ≡ front ++ new)
moment_on h valid fs df i lt (Err x) m cs ts chars text old new a e count shown put = tt
moment_on h valid fs df i lt (Ok x) m cs ts chars text old new a e count shown put = λ front so_far. elim (slice_get_cases h i).1 [
  | inl there ↦
      let o = there.0 in
      let le : i + 1 ≤ length h = omega (arith, lt) in
      let is : m ≡ member_of o =
      same_Some m (member_of o) (sym e ∙ slice_get-map member_of h i ∙ ap (λ (q : Option OpData). option_map member_of q) there.2) in
      let bytes : text ≡ text_of (take (i + 1) h) = shown ∙ text_after h valid fs df (i + 1) cs ts le a in
      let size : chars ≡ length (characters_of (take (i + 1) h)) = count ∙ count_after h valid fs df (i + 1) cs ts le a in
      let moment : codes "after " ++ (member_text m ++ (codes "\n" ++ lines_text chars text)) ≡ moment_text (take (i + 1) h) o =
      λ k. codes "after " ++ (member_text (is k) ++ (codes "\n" ++ lines_text (size k) (bytes k))) in
      played_more h i o lt there.3
      ∙ ap (λ (bs : List ℕ). bs ++ moment_text (take (i + 1) h) o) so_far
      ∙ append_assoc front old (moment_text (take (i + 1) h) o)
      ∙ ap (λ (bs : List ℕ). front ++ bs) (sym (put ∙ ap (λ (bs : List ℕ). old ++ bs) moment))
  | inr past ↦ absurd (omega (arith, past.0, lt))
]
