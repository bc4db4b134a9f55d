-- Marks that a site makes: their places, their names, and that nothing stands against keeping them.
use Rattle.std.proofs.Common.{◌≡◌, ℕ, zero, suc, ◌+◌, ◌-◌, ◌<◌, ◌≤◌, Bool, true, false, if◌then◌else◌, List, [], ◌∷◌, Option, Some, None, length, filter, slice_get, map, inl, inr, refl, ap, sym, ◌∙◌, subst, arith}
use Rattle.std.specs.Prelude.{Contains}
use Rattle.std.proofs.lemmas.Bool.{cases_Bool, false_from_ne_true}
use Rattle.std.proofs.lemmas.Bool.Decides.{nat_tests}
use Rattle.std.proofs.lemmas.List.{length-map}
use Rattle.op_name.specs.NameData.{NameData, name_eq}
use Rattle.op_name.specs.Lists.{places_from}
use Rattle.op_name.specs.declared.member.Member.TheVariants.{Original, Group}
use Rattle.op_name.proofs.CallerLemmas.{name_same}
use Rattle.context_vector.specs.Contexts.{ContextData, HasNoStray, has}
use Rattle.context_diff.specs.Operations.{OpData, member_of}
use Rattle.context_diff.specs.Histories.{IsClosed, IsValid, LacksNothing, all_cells, cells_in, context_of_all}
use Rattle.context_diff.specs.Replays.{Cell, is_shown, replay_of, shown}
use Rattle.context_diff.proofs.CallerLemmas.{IsComplete, complete, contains_here, contains_later, group_facts, known_member}
use Rattle.ttf_form.specs.Cells.{CellData, cell_key, cell_shown}
use Rattle.ttf_form.specs.Families.{IsIn}
use Rattle.visible_view.specs.View.{shown_cells, shown_places}
use Rattle.fixed_replay.specs.Replayed.{IsReplayed}
use Rattle.fixed_replay.proofs.CallerLemmas.{replayed_shown}
use Rattle.cot_site.specs.Views.{shown_places_of}
use Rattle.cot_site.proofs.CallerLemmas.{cells_counted, all_closed, all_ready}
use Rattle.char_marks.specs.declared.value.Value.{Value}
use Rattle.char_marks.specs.declared.taking.MarkVerdict.TheVariants.{Kept}
use Rattle.char_marks.specs.Marks.{MarkData, KeptData, mark_named}
use Rattle.char_marks.specs.Making.{greatest_number, number_at, IsMade}
use Rattle.char_marks.specs.Verdicts.{IsMarkVerdict}

none_some : {A : Type 0} (x : A) → ◌≡◌ {A = Option A} None (Some x) → ⊥
none_some x e = cc

some_same : {A : Type 0} (x y : A) → ◌≡◌ {A = Option A} (Some x) (Some y) → x ≡ y
some_same x y e = cc

-- ---- the context of all members

cells_listed : (os : List OpData) (c : ContextData) → ((o : OpData) → Contains os o → has c (member_of o) ≡ true)
    → cells_in os c ≡ all_cells os
cells_listed [] c there = refl
cells_listed (o ∷ os) c there =
    let rest = cells_listed os c (λ x at. there x (contains_later o os x at)) in
    rw (there o (contains_here o os)) (omega (arith, rest))

-- it has all cells of the replay
all_have : (h : List OpData) → IsComplete h → cells_in h (context_of_all h) ≡ length (replay_of h)
all_have h w = cells_listed h (context_of_all h) (λ o at. w.holds (member_of o) ∙ known_member h o at) ∙ sym (cells_counted h)

-- ---- the places of shown cells

module _ (p : Cell → Bool) where
  taken : (c : Cell) (cs : List Cell) (n : ℕ) → p c ≡ true → places_from p n (c ∷ cs) ≡ n ∷ places_from p (suc n) cs
  taken c cs n e = ap (λ b. if b then n ∷ places_from p (suc n) cs else places_from p (suc n) cs) e

  passed : (c : Cell) (cs : List Cell) (n : ℕ) → p c ≡ false → places_from p n (c ∷ cs) ≡ places_from p (suc n) cs
  passed c cs n e = ap (λ b. if b then n ∷ places_from p (suc n) cs else places_from p (suc n) cs) e

  -- they lie in the list
  in_list : (cs : List Cell) (n i a : ℕ) → slice_get (places_from p n cs) i ≡ Some a → (n ≤ a) × (a < n + length cs)
  in_list [] n i a e = absurd (none_some a e)
  in_list (c ∷ cs) n i a e = elim (cases_Bool (p c)) [
    | inl hit ↦ first i (sym (ap (λ (l : List ℕ). slice_get l i) (taken c cs n hit)) ∙ e) (in_list cs (suc n))
    | inr miss ↦
        let rest = in_list cs (suc n) i a (sym (ap (λ (l : List ℕ). slice_get l i) (passed c cs n miss)) ∙ e) in
        (omega (arith, rest.0), omega (arith, rest.1))
  ]
    where
      first : (j : ℕ) → slice_get (n ∷ places_from p (suc n) cs) j ≡ Some a
          → ((k b : ℕ) → slice_get (places_from p (suc n) cs) k ≡ Some b → (suc n ≤ b) × (b < suc n + length cs))
          → (n ≤ a) × (a < n + length (c ∷ cs))
      first zero f rest = let is = some_same n a f in (omega (arith, is), omega (arith, is))
      first (suc j) f rest = let r = rest j a f in (omega (arith, r.0), omega (arith, r.1))

  -- and rise
  pub rising : (cs : List Cell) (n i j a b : ℕ) → i ≤ j → slice_get (places_from p n cs) i ≡ Some a
      → slice_get (places_from p n cs) j ≡ Some b
      → a ≤ b
  rising [] n i j a b le e f = absurd (none_some a e)
  rising (c ∷ cs) n i j a b le e f = elim (cases_Bool (p c)) [
    | inl hit ↦ first i j le (sym (ap (λ (l : List ℕ). slice_get l i) (taken c cs n hit)) ∙ e)
        (sym (ap (λ (l : List ℕ). slice_get l j) (taken c cs n hit)) ∙ f) (rising cs (suc n))
    | inr miss ↦ rising cs (suc n) i j a b le (sym (ap (λ (l : List ℕ). slice_get l i) (passed c cs n miss)) ∙ e)
        (sym (ap (λ (l : List ℕ). slice_get l j) (passed c cs n miss)) ∙ f)
  ]
    where
      first : (k l : ℕ) → k ≤ l → slice_get (n ∷ places_from p (suc n) cs) k ≡ Some a
          → slice_get (n ∷ places_from p (suc n) cs) l ≡ Some b
          → ((x y u w : ℕ) → x ≤ y → slice_get (places_from p (suc n) cs) x ≡ Some u
          → slice_get (places_from p (suc n) cs) y ≡ Some w → u ≤ w)
          → a ≤ b
      first zero zero m g g' rest = let is = some_same a b (sym g ∙ g') in omega (arith, is)
      first zero (suc l) m g g' rest = let is = some_same n a g in omega (arith, is, (in_list cs (suc n) l b g').0)
      first (suc k) zero m g g' rest = absurd (omega (arith, m))
      first (suc k) (suc l) m g g' rest = rest k l a b (omega (arith, m)) g g'

-- ---- names

pub above_new : (s : ℕ) (ks : List KeptData) (n : NameData) → n.site ≡ s → greatest_number s ks < n.number → mark_named ks n ≡ None
above_new s [] n site above = refl
above_new s (k ∷ ks) n site above =
    let other : name_eq k.mark.name n ≡ false = false_from_ne_true (name_eq k.mark.name n) (λ e.
    let is = name_same k.mark.name n e in
    let there : number_at s k.mark.name ≡ n.number = ap (number_at s) is ∙ own in
    omega (arith, above, there)) in
    ap (λ b. if b then Some k.mark else mark_named ks n) other ∙ above_new s ks n site (omega (arith, above))
  where
    own : number_at s n ≡ n.number
    own = let e = site in grind (arith, nat_tests)

-- a mark that a site makes is kept
pub made_kept : (s : ℕ) (h : List OpData) (ks : List KeptData) (v count : ℕ) (value : Value) (m : MarkData) → IsValid h
    → IsMade s h ks v count value m
    → IsMarkVerdict h ks m Kept
made_kept s h ks v count value m valid made =
    let w = complete h valid in
    let site : m.name.site ≡ s = ap (λ (n : NameData). n.site) made.name in
    let number : m.name.number ≡ greatest_number s ks + 1 = ap (λ (n : NameData). n.number) made.name in
    let end = (in_list (is_shown h) (replay_of h) 0 (v + count - 1) (m.place + m.len - 1) made.last).1 in
    let some : 1 ≤ m.len = made.formed.len in
    let cells : cells_in h m.context ≡ length (replay_of h) = ap (cells_in h) made.context ∙ all_have h w in (
      above_new s ks m.name site (omega (arith, number)),
      subst (λ (c : ContextData). LacksNothing h c) (sym made.context) (all_ready h w),
      subst (λ (c : ContextData). IsClosed h c) (sym made.context) (all_closed h w),
      omega (arith, end, some, cells),
    )
