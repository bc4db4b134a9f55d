-- The text of the operations of a closed set, by the cells of the whole history with their deletes.
use Rattle.std.proofs.Common.{◌≡◌, ℕ, Bool, true, false, List, [], ◌∷◌, map, filter, encode_utf8_all, inl, inr, refl, ap, ap₂, sym, ◌∙◌, subst}
use Rattle.std.specs.Prelude.{◌&&◌, not}
use Rattle.std.specs.List.{list_any}
use Rattle.std.specs.Cmp.{both_ways as same_bool}
use Rattle.std.proofs.lemmas.Bool.{cases_Bool, and_parts, and_from}
use Rattle.op_name.specs.NameData.{NameData}
use Rattle.op_name.specs.declared.member.Member.TheVariants.{Original}
use Rattle.op_name.specs.Members.{is_even}
use Rattle.context_vector.specs.Contexts.{ContextData, Within, has, entry_of}
use Rattle.context_diff.specs.Operations.{OpData, inserting, deleting, undoing, member_of}
use Rattle.context_diff.specs.Histories.{generation_in, in_force, IsValid}
use Rattle.context_diff.specs.ClosedContexts.{IsClosedContext}
use Rattle.context_diff.specs.Replays.{Cell, replay_of, stands_at, hits, covers, is_shown, character_in, characters_of, text_of}
use Rattle.context_diff.proofs.CallerLemmas.{complete, closed_set, holds_original, context_is}
use Rattle.ttf_form.specs.Cells.{CellData, cell_key, cells_of}
use Rattle.ttf_form.specs.Families.{IsIn}
use Rattle.undo_group.specs.Laws.Members.{in_contains, known_as}
use Rattle.transform_rec.specs.Executing.{keep}
use Rattle.transform_rec.proofs.CallerLemmas.{filter_in, in_filter}
use Rattle.fixed_replay.specs.Replayed.{IsReplayed, AreCharacters}
use Rattle.fixed_replay.proofs.CallerLemmas.{any_in, characters_beside, in_any, not_both, part_replay}
use Rattle.past_view.specs.Pasts.{sub}
use Rattle.past_view.specs.Code.PastCells.{is_in_force_at, is_past, past_text}
use Rattle.past_view.proofs.Parts.{part_of_part, character_in_part, generation_in_sub}

-- the characters of the cells that pass one test are those of the keys that pass two others, where they pass alike
both_parts : (p : CellData → Bool) (q k : Cell → Bool) (old ch : Cell → ℕ) (ds : List CellData)
    → ((d : CellData) → IsIn d ds → k (cell_key d) ≡ true → (p d ≡ q (cell_key d)) × (old (cell_key d) ≡ ch (cell_key d)))
    → ((d : CellData) → IsIn d ds → k (cell_key d) ≡ false → p d ≡ false)
    → map old (cells_of (filter p ds)) ≡ map ch (filter q (filter k (cells_of ds)))
both_parts p q k old ch [] f g = refl
both_parts p q k old ch (d ∷ ds) f g =
    let ih = both_parts p q k old ch ds (λ x i. f x (inr i)) (λ x i. g x (inr i)) in
    elim (cases_Bool (k (cell_key d))) [
      | inl there ↦
          let e = f d (inl refl) there in
          elim (cases_Bool (q (cell_key d))) [
            | inl s ↦ let t : p d ≡ true = e.0 ∙ s in rw (t, there, s) (ap₂ (λ (x : ℕ) (xs : List ℕ). x ∷ xs) e.1 ih)
            | inr s ↦ let t : p d ≡ false = e.0 ∙ s in rw (t, there, s) ih
          ]
      | inr out ↦ let t = g d (inl refl) out in rw (t, out) ih
    ]

module _ (h : List OpData) (v : IsValid h) (c : ContextData) (closed : IsClosedContext h c) where
  cells_of_sub : replay_of (sub h c) ≡ filter (keep (has c)) (replay_of h)
  cells_of_sub = part_replay h v (has c) (closed_set h (complete h v) c closed)

  -- an operation of the set
  there_in_sub : (o : OpData) → IsIn o h → has c (member_of o) ≡ true → IsIn o (sub h c)
  there_in_sub o i e = in_filter (λ p. has c (member_of p)) o h i e

  sub_in : (o : OpData) → IsIn o (sub h c) → IsIn o h × (has c (member_of o) ≡ true)
  sub_in o i = filter_in (λ p. has c (member_of p)) o h i

  force_in_sub : (n : NameData) → in_force (sub h c) n ≡ is_even (entry_of c n)
  force_in_sub n = ap is_even (generation_in_sub h c closed.ready n)

  -- a delete of the set was made within the set
  made_within : (n : NameData) (p : ℕ) (k : ContextData) → IsIn (deleting n p k) h → has c (Original n) ≡ true → Within k c
  made_within n p k i e =
      let o = deleting n p k in
      let is = context_is h (complete h v) o n (in_contains o h i) refl (known_as o (Original n) h i refl) in
      subst (λ (x : ContextData). Within x c) is (holds_original h (complete h v) c closed n e)

  -- so it hits the same cell
  same_hits : (n : NameData) (p : ℕ) (k : ContextData) → IsIn (deleting n p k) h → has c (Original n) ≡ true → (d : Cell)
      → hits (sub h c) (deleting n p k) d ≡ hits h (deleting n p k) d
  same_hits n p k i e d =
      let within = made_within n p k i e in
      ap (λ (cs : List Cell). stands_at p cs d)
      (ap (λ (cs : List Cell). filter (λ (x : Cell). has k (Original x.0)) cs) cells_of_sub
      ∙ part_of_part (λ (x : Cell). has k (Original x.0)) (keep (has c)) (replay_of h) (λ x f. within (Original x.0) f))

  module _ (cs : List CellData) (r : IsReplayed h cs) where
    -- an operation of the set that covers the cell is one of its deletes
    covering : (d : CellData) → IsIn d cs → (o : OpData) → IsIn o (sub h c) → covers (sub h c) (cell_key d) o ≡ true
        → list_any (λ e. is_in_force_at c e.0) d.deleters ≡ true
    covering d i (inserting n p text k) j e = not_both e refl
    covering d i (deleting n p k) j e =
        let passed = sub_in (deleting n p k) j in
        let parts = and_parts (in_force (sub h c) n) (hits (sub h c) (deleting n p k) (cell_key d)) e in
        let hit : hits h (deleting n p k) (cell_key d) ≡ true = sym (same_hits n p k passed.0 passed.1 (cell_key d)) ∙ parts.1 in
        let listed : IsIn (n, generation_in h n) d.deleters =
        (r.deleters d i n (generation_in h n)).1
        (record { place = p; context = k; there = passed.0; hit = hit }, refl) in
        in_any (λ e. is_in_force_at c e.0) (n, generation_in h n) d.deleters listed
        (and_from (has c (Original n)) (is_even (entry_of c n)) passed.1 (sym (force_in_sub n) ∙ parts.0))
    covering d i (undoing a t g k) j e = not_both e refl

    -- a delete of the cell that is in force at the set covers the cell
    covered : (d : CellData) → IsIn d cs → (e : NameData × ℕ) → IsIn e d.deleters → is_in_force_at c e.0 ≡ true
        → list_any (covers (sub h c) (cell_key d)) (sub h c) ≡ true
    covered d i e j f =
        let parts = and_parts (has c (Original e.0)) (is_even (entry_of c e.0)) f in
        let q = ((r.deleters d i e.0 e.1).0 j).0 in
        let o = deleting e.0 q.place q.context in
        let hit : hits (sub h c) o (cell_key d) ≡ true = same_hits e.0 q.place q.context q.there parts.0 (cell_key d) ∙ q.hit in
        in_any (covers (sub h c) (cell_key d)) o (sub h c) (there_in_sub o q.there parts.0)
        (and_from (in_force (sub h c) e.0) (hits (sub h c) o (cell_key d)) (force_in_sub e.0 ∙ parts.1) hit)

    same_covered : (d : CellData) → IsIn d cs
        → list_any (covers (sub h c) (cell_key d)) (sub h c) ≡ list_any (λ e. is_in_force_at c e.0) d.deleters
    same_covered d i =
        same_bool (list_any (covers (sub h c) (cell_key d)) (sub h c)) (list_any (λ e. is_in_force_at c e.0) d.deleters)
        (λ f. let a = any_in (covers (sub h c) (cell_key d)) (sub h c) f in covering d i a.0 a.1 a.2)
        (λ f. let a = any_in (λ e. is_in_force_at c e.0) d.deleters f in covered d i a.0 a.1 a.2)

    -- a cell whose insert is in the set is of the past text exactly if the set's operations show it
    past_shown : (d : CellData) → IsIn d cs → has c (Original d.name) ≡ true → is_past c d ≡ is_shown (sub h c) (cell_key d)
    past_shown d i e =
        ap₂ (λ (x y : Bool). x && not y)
        (ap (λ (x : Bool). x && is_even (entry_of c d.name)) e ∙ sym (force_in_sub d.name)) (sym (same_covered d i))

    past_none : (d : CellData) → has c (Original d.name) ≡ false → is_past c d ≡ false
    past_none d e =
        ap (λ (x : Bool). (x && is_even (entry_of c d.name)) && not (list_any (λ e. is_in_force_at c e.0) d.deleters)) e

    past_characters : map (character_in h) (cells_of (filter (is_past c) cs)) ≡ characters_of (sub h c)
    past_characters =
        both_parts (is_past c) (is_shown (sub h c)) (keep (has c)) (character_in h) (character_in (sub h c)) cs
        (λ d i e. (past_shown d i e, sym (character_in_part (has c) h (cell_key d) e)))
        (λ d i e. past_none d e)
        ∙ ap (λ (ks : List Cell). map (character_in (sub h c)) (filter (is_shown (sub h c)) ks))
        (ap (filter (keep (has c))) r.cells ∙ sym cells_of_sub)

    pub past_is_sub : (ts : List ℕ) → AreCharacters h cs ts → past_text c cs ts ≡ text_of (sub h c)
    past_is_sub ts are = ap encode_utf8_all (characters_beside h (is_past c) cs ts are ∙ past_characters)
