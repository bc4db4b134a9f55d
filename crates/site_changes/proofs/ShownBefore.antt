-- Which cells of a site the first operations of its history showed: those that the cells' marks say, held against the members of these.
use Rattle.std.proofs.Common.{◌≡◌, ℕ, Bool, true, false, List, [], ◌∷◌, ◌++◌, take, drop, filter, inl, inr, refl, ap, ap₂, sym, ◌∙◌, subst, append-nil, take-append-drop}
use Rattle.std.specs.Prelude.{◌&&◌, not}
use Rattle.std.specs.List.{list_any}
use Rattle.std.specs.Cmp.{both_ways as same_bool}
use Rattle.std.proofs.lemmas.Bool.{cases_Bool, and_parts, and_from, false_from_ne_true, false≢true}
use Rattle.op_name.specs.NameData.{NameData}
use Rattle.op_name.specs.declared.member.Member.{Member}
use Rattle.op_name.specs.declared.member.Member.TheVariants.{Original}
use Rattle.op_name.specs.Members.{is_even}
use Rattle.context_vector.specs.Contexts.{ContextData, has, entry_of}
use Rattle.context_diff.specs.Operations.{OpData, inserting, deleting, undoing, member_of}
use Rattle.context_diff.specs.Histories.{is_known, context_of_all, generation_in, in_force, IsValid, IsValidAfter}
use Rattle.context_diff.specs.Replays.{Cell, replay_of, stands_at, hits, covers, is_shown, shown}
use Rattle.context_diff.proofs.CallerLemmas.{IsClosedSet, complete, valid_parts, known_on, base_on, base_listed, generation_is}
use Rattle.ttf_form.specs.Cells.{CellData, cell_key, cells_of}
use Rattle.ttf_form.specs.Families.{IsIn}
use Rattle.undo_group.specs.Laws.Members.{in_contains, known_as}
use Rattle.transform_rec.specs.Executing.{keep}
use Rattle.transform_rec.proofs.CallerLemmas.{filter-append, filter_all, in_filter, in_left}
use Rattle.fixed_replay.specs.Replayed.{IsReplayed}
use Rattle.fixed_replay.proofs.CallerLemmas.{any_in, in_any, not_both, part_replay}
use Rattle.site_changes.specs.Code.Marks.{is_in_force_at, was_shown}

-- ---- lists

-- a part of a part, where the larger one has all of the smaller one
part_of_part : {A : Type 0} (p q : A → Bool) (xs : List A) → ((x : A) → p x ≡ true → q x ≡ true)
    → filter p (filter q xs) ≡ filter p xs
part_of_part p q [] h = refl
part_of_part p q (x ∷ xs) h = elim (cases_Bool (p x)) [
  | inl k ↦ let l = h x k in rw (l, k, part_of_part p q xs h) refl
  | inr k ↦ elim (cases_Bool (q x)) [ inl l ↦ rw (l, k) (part_of_part p q xs h) | inr l ↦ rw (l, k) (part_of_part p q xs h) ]
]

-- the cells that pass one test are the keys that pass two others, where they pass alike
both_tests : (p : CellData → Bool) (q k : Cell → Bool) (ds : List CellData)
    → ((d : CellData) → IsIn d ds → k (cell_key d) ≡ true → p d ≡ q (cell_key d))
    → ((d : CellData) → IsIn d ds → k (cell_key d) ≡ false → p d ≡ false)
    → cells_of (filter p ds) ≡ filter q (filter k (cells_of ds))
both_tests p q k [] f g = refl
both_tests p q k (d ∷ ds) f g =
    let ih = both_tests p q k ds (λ x i. f x (inr i)) (λ x i. g x (inr i)) in
    elim (cases_Bool (k (cell_key d))) [
      | inl there ↦
          let e = f d (inl refl) there in
          elim (cases_Bool (q (cell_key d))) [
            | inl s ↦ let t : p d ≡ true = e ∙ s in rw (t, there, s) (ap (λ (xs : List Cell). cell_key d ∷ xs) ih)
            | inr s ↦ let t : p d ≡ false = e ∙ s in rw (t, there, s) ih
          ]
      | inr out ↦ let t = g d (inl refl) out in rw (t, out) ih
    ]

-- ---- the first operations of a history, and the others

-- none of the others is one of the members of the first
rest_apart : (k os : List OpData) (D : Member → Bool) → ((m : Member) → D m ≡ true → is_known k m ≡ true) → IsValidAfter k os
    → filter (λ o. D (member_of o)) os ≡ []
rest_apart k [] D within v = refl
rest_apart k (o ∷ os) D within v =
    let out : D (member_of o) ≡ false =
    false_from_ne_true (D (member_of o)) (λ e. false≢true (sym v.0.new ∙ within (member_of o) e)) in
    rw out (rest_apart (k ++ o ∷ []) os D (λ m e. known_on k (o ∷ []) m (within m e)) v.1)

module _ (k r : List OpData) (v : IsValid (k ++ r)) where
  abbrev at : ContextData
  at = context_of_all k

  pub first_valid : IsValid k
  first_valid = (valid_parts k r v).0

  pub holds : (m : Member) → has at m ≡ is_known k m
  holds = (complete k first_valid).holds

  part_is : filter (λ o. has at (member_of o)) (k ++ r) ≡ k
  part_is =
      filter-append (λ o. has at (member_of o)) k r
      ∙ ap₂ (λ (xs ys : List OpData). xs ++ ys)
      (filter_all (λ o. has at (member_of o)) k (λ o i. holds (member_of o) ∙ known_as o (member_of o) k i refl))
      (rest_apart k r (has at) (λ m e. sym (holds m) ∙ e) (valid_parts k r v).1)
      ∙ append-nil k

  -- the members of the first operations hold, with each, all that it was made after
  closed : IsClosedSet (k ++ r) (has at)
  closed = record {
    known = λ m e. known_on k r m (sym (holds m) ∙ e);
    closed = λ m y e f.
        let known : is_known k m ≡ true = sym (holds m) ∙ e in
        holds y ∙ base_listed k (complete k first_valid) m y (sym (base_on k r (complete k first_valid) m known y) ∙ f);
  }

  replay_first : replay_of k ≡ filter (keep (has at)) (replay_of (k ++ r))
  replay_first = ap replay_of (sym part_is) ∙ part_replay (k ++ r) v (has at) closed

  force_first : (n : NameData) → in_force k n ≡ is_even (entry_of at n)
  force_first n = ap is_even (generation_is k first_valid n)

  -- a delete among the first operations hits the same cell
  same_hits : (n : NameData) (p : ℕ) (c : ContextData) → IsIn (deleting n p c) k → (d : Cell)
      → hits k (deleting n p c) d ≡ hits (k ++ r) (deleting n p c) d
  same_hits n p c i d =
      let ready = (complete k first_valid).ready (deleting n p c) (in_contains (deleting n p c) k i) in
      ap (λ (cs : List Cell). stands_at p cs d)
      (ap (λ (cs : List Cell). filter (λ (x : Cell). has c (Original x.0)) cs) replay_first
      ∙ part_of_part (λ (x : Cell). has c (Original x.0)) (keep (has at)) (replay_of (k ++ r))
      (λ x f. holds (Original x.0) ∙ ready (Original x.0) f))

  module _ (cs : List CellData) (re : IsReplayed (k ++ r) cs) where
    -- one of the first operations that covers the cell is one of its deletes
    covering : (d : CellData) → IsIn d cs → (o : OpData) → IsIn o k → covers k (cell_key d) o ≡ true
        → list_any (λ e. is_in_force_at at e.0) d.deleters ≡ true
    covering d i (inserting n p text c) j e = not_both e refl
    covering d i (deleting n p c) j e =
        let parts = and_parts (in_force k n) (hits k (deleting n p c) (cell_key d)) e in
        let hit : hits (k ++ r) (deleting n p c) (cell_key d) ≡ true = sym (same_hits n p c j (cell_key d)) ∙ parts.1 in
        let listed : IsIn (n, generation_in (k ++ r) n) d.deleters =
        (re.deleters d i n (generation_in (k ++ r) n)).1
        (record { place = p; context = c; there = in_left (deleting n p c) k r j; hit = hit }, refl) in
        in_any (λ e. is_in_force_at at e.0) (n, generation_in (k ++ r) n) d.deleters listed
        (and_from (has at (Original n)) (is_even (entry_of at n))
        (holds (Original n) ∙ known_as (deleting n p c) (Original n) k j refl) (sym (force_first n) ∙ parts.0))
    covering d i (undoing a t g c) j e = not_both e refl

    -- a delete of the cell that is in force at the members of the first operations covers the cell
    covered : (d : CellData) → IsIn d cs → (e : NameData × ℕ) → IsIn e d.deleters → is_in_force_at at e.0 ≡ true
        → list_any (covers k (cell_key d)) k ≡ true
    covered d i e j f =
        let parts = and_parts (has at (Original e.0)) (is_even (entry_of at e.0)) f in
        let q = ((re.deleters d i e.0 e.1).0 j).0 in
        let o = deleting e.0 q.place q.context in
        let there : IsIn o k =
        subst (λ (xs : List OpData). IsIn o xs) part_is (in_filter (λ p. has at (member_of p)) o (k ++ r) q.there parts.0) in
        let hit : hits k o (cell_key d) ≡ true = same_hits e.0 q.place q.context there (cell_key d) ∙ q.hit in
        in_any (covers k (cell_key d)) o k there
        (and_from (in_force k e.0) (hits k o (cell_key d)) (force_first e.0 ∙ parts.1) hit)

    same_covered : (d : CellData) → IsIn d cs
        → list_any (covers k (cell_key d)) k ≡ list_any (λ e. is_in_force_at at e.0) d.deleters
    same_covered d i =
        same_bool (list_any (covers k (cell_key d)) k) (list_any (λ e. is_in_force_at at e.0) d.deleters)
        (λ f. let a = any_in (covers k (cell_key d)) k f in covering d i a.0 a.1 a.2)
        (λ f. let a = any_in (λ e. is_in_force_at at e.0) d.deleters f in covered d i a.0 a.1 a.2)

    was_there : (d : CellData) → IsIn d cs → has at (Original d.name) ≡ true → was_shown at d ≡ is_shown k (cell_key d)
    was_there d i e =
        ap₂ (λ (x y : Bool). x && not y)
        (ap (λ (x : Bool). x && is_even (entry_of at d.name)) e ∙ sym (force_first d.name)) (sym (same_covered d i))

    was_not : (d : CellData) → has at (Original d.name) ≡ false → was_shown at d ≡ false
    was_not d e =
        ap (λ (x : Bool). (x && is_even (entry_of at d.name)) && not (list_any (λ e. is_in_force_at at e.0) d.deleters)) e

    was_parts : cells_of (filter (was_shown at) cs) ≡ shown k
    was_parts =
        both_tests (was_shown at) (is_shown k) (keep (has at)) cs (λ d i e. was_there d i e) (λ d i e. was_not d e)
        ∙ ap (λ (ks : List Cell). filter (is_shown k) ks) (ap (filter (keep (has at))) re.cells ∙ sym replay_first)

-- the cells that were shown at the members of the first operations are those that these show
pub was_first : (h : List OpData) → IsValid h → (n : ℕ) (cs : List CellData) → IsReplayed h cs
    → cells_of (filter (was_shown (context_of_all (take n h))) cs) ≡ shown (take n h)
was_first h v n cs re =
    let whole = take-append-drop n h in
    was_parts (take n h) (drop n h) (subst IsValid (sym whole) v) cs (subst (λ (x : List OpData). IsReplayed x cs) (sym whole) re)
