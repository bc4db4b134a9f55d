-- Marks that count for the cells that they cover, mark by mark and cell by cell.
use Rattle.std.proofs.Common.{◌≡◌, ◌≢◌, ◌⊎◌, ℕ, zero, suc, ◌+◌, ◌<◌, ◌≤◌, Bool, true, false, List, [], ◌∷◌, ◌++◌, Option, Some, None, length, get_or, set, take, slice_get, inl, inr, refl, ap, sym, ◌∙◌, subst, arith, length-set, length-append}
use Rattle.std.specs.Prelude.{◌&&◌, nat_le, fold}
use Rattle.std.proofs.lemmas.Bool.{cases_Bool, cases_lt, and_from, and_parts, false_from_ne_true, le-leb, leb-true}
use Rattle.std.proofs.lemmas.List.{get_or-set_same, get_or-set_other, length-map, take_all}
use Rattle.std.proofs.lemmas.List.Sums.{fold_more}
use Rattle.op_name.specs.NameData.{NameData}
use Rattle.op_name.specs.declared.member.Member.TheVariants.{Original}
use Rattle.context_vector.specs.Contexts.{has}
use Rattle.context_diff.specs.Operations.{OpData}
use Rattle.context_diff.specs.Histories.{IsValid}
use Rattle.context_diff.specs.Replays.{Cell, replay_of}
use Rattle.ttf_form.specs.Cells.{CellData, cell_key, cells_of}
use Rattle.fixed_replay.specs.Replayed.{IsReplayed}
use Rattle.site_anchors.specs.Laws.{EachCellStandsOnce}
use Rattle.char_marks.specs.declared.value.Kind.{Kind}
use Rattle.char_marks.specs.declared.reading.Top.{Top}
use Rattle.char_marks.specs.Marks.{KeptData}
use Rattle.char_marks.specs.Covered.{covers_cell, IsFit}
use Rattle.char_marks.specs.Values.{is_of, is_in_force}
use Rattle.char_marks.specs.Code.Tops.{top_with}
use Rattle.char_marks.specs.Code.Painting.{AreNone, ArePainted, IsPainted, Knows}
use Rattle.char_marks.proofs.Spots.{unknown_uncovered, spot_covered}

and_false : (a b : Bool) → (a && (b && false)) ≡ false
and_false true true = refl
and_false true false = refl
and_false false b = refl

abbrev Tops : Type 0
Tops = List (Option Top)

-- the end cells of a kept mark, at their places
module _ (law : EachCellStandsOnce) (h : List OpData) (valid : IsValid h) (k : KeptData) (fit : IsFit h k) (cs : List CellData)
    (is : IsReplayed h cs) (first last : Cell) (first_is : first ≡ k.first) (last_is : last ≡ k.last) (from to : ℕ)
    (first_at : slice_get (cells_of cs) from ≡ Some first) (last_at : slice_get (cells_of cs) to ≡ Some last) where
  covered_by : (c : Cell) (i : ℕ) → slice_get (replay_of h) i ≡ Some c → has k.mark.context (Original c.0) ≡ true
      → (nat_le from i && nat_le i to) ≡ covers_cell h k.mark c
  covered_by c i at knows = spot_covered law h valid k fit cs is c i from to at first last first_is last_is first_at last_at knows

  -- between them, what its context has is covered
  pub known_between : (c : Cell) (i : ℕ) → slice_get (replay_of h) i ≡ Some c → from ≤ i → i ≤ to → Knows h k c
  known_between c i at low high = elim (cases_Bool (has k.mark.context (Original c.0))) [
    | inl knows ↦
        sym (covered_by c i at knows)
        ∙ (and_from (nat_le from i) (nat_le i to) (le-leb from i low) (le-leb i to high) ∙ sym knows)
    | inr lacks ↦ unknown_uncovered h k.mark c lacks ∙ sym lacks
  ]

  -- elsewhere nothing is
  pub none_outside : (c : Cell) (i : ℕ) → slice_get (replay_of h) i ≡ Some c → (i < from) ⊎ (to < i) → covers_cell h k.mark c ≡ false
  none_outside c i at out = elim (cases_Bool (has k.mark.context (Original c.0))) [
    | inl knows ↦
        sym (covered_by c i at knows)
        ∙ false_from_ne_true (nat_le from i && nat_le i to) (λ e.
        let both = and_parts (nat_le from i) (nat_le i to) e in
        let low = leb-true from i both.0 in
        let high = leb-true i to both.1 in
        elim out [ inl a ↦ omega (arith, a, low) | inr b ↦ omega (arith, b, high) ])
    | inr lacks ↦ unknown_uncovered h k.mark c lacks
  ]

module _ (kind : Kind) (h : List OpData) (raised : List (NameData × ℕ)) (k : KeptData) where
  -- a mark doesn't count where it isn't seen to cover
  pub uncovered_same : (c : Cell) (t : Option Top) → covers_cell h k.mark c ≡ false → t ≡ top_with kind h raised c t k
  uncovered_same c t e =
      let none = ap (λ (b : Bool). is_of kind k.mark.value && (is_in_force raised k.mark.name && b)) e
      ∙ and_false (is_of kind k.mark.value) (is_in_force raised k.mark.name) in
      rw none refl

  -- so far the cells from a place on were gone over
  pub record IsPartly (old : Tops) (from i : ℕ) (now : Tops) : Type 0 where
    pub long : length now ≡ length old
    pub done : (j : ℕ) (c : Cell) → slice_get (replay_of h) j ≡ Some c → from ≤ j → j < i
        → get_or now j None ≡ top_with kind h raised c (get_or old j None) k
    pub rest : (j : ℕ) → (j < from) ⊎ (i ≤ j) → get_or now j None ≡ get_or old j None

  pub none_yet : (old : Tops) (from : ℕ) → IsPartly old from from old
  none_yet old from = record { long = refl; done = λ j c at low high. absurd (omega (arith, low, high)); rest = λ j out. refl }

  pub one_more : (old now new : Tops) (from i : ℕ) (c : Cell) → IsPartly old from i now → from ≤ i → i < length old
      → slice_get (replay_of h) i ≡ Some c
      → new ≡ set now i (top_with kind h raised c (get_or now i None) k)
      → IsPartly old from (i + 1) new
  one_more old now new from i c was low within at put =
      let top = top_with kind h raised c (get_or now i None) k in
      let inside : i < length now = omega (arith, within, was.long) in
      let size : length new ≡ length now = ap (λ (l : Tops). length l) put ∙ length-set now i top in
      record { long = size ∙ was.long; done = done top inside; rest = rest top }
    where
      value : i < length now → get_or new i None ≡ top_with kind h raised c (get_or old i None) k
      value inside =
          ap (λ (l : Tops). get_or l i None) put
          ∙ (get_or-set_same now i (top_with kind h raised c (get_or now i None) k) None inside
          ∙ ap (λ (t : Option Top). top_with kind h raised c t k) (was.rest i (inr (omega arith))))

      other : (top : Option Top) → (j : ℕ) → j ≢ i → new ≡ set now i top → get_or new j None ≡ get_or now j None
      other top j ne is = ap (λ (l : Tops). get_or l j None) is ∙ get_or-set_other now i j top None ne

      done : (top : Option Top) → i < length now → (j : ℕ) (d : Cell) → slice_get (replay_of h) j ≡ Some d → from ≤ j → j < i + 1
          → get_or new j None ≡ top_with kind h raised d (get_or old j None) k
      done top inside j d there low' high = elim (cases_lt j i) [
        | inl less ↦ other (top_with kind h raised c (get_or now i None) k) j (λ e. omega (arith, e, less)) put
            ∙ was.done j d there low' less
        | inr past ↦
            let same : j ≡ i = omega (arith, past, high) in
            let both : ◌≡◌ {A = Option Cell} (Some c) (Some d) = sym at ∙ (ap (slice_get (replay_of h)) (sym same) ∙ there) in
            let cell : c ≡ d = cc in
            ap (λ (n : ℕ). get_or new n None) same
            ∙ (value inside
            ∙ (ap (λ (x : Cell). top_with kind h raised x (get_or old i None) k) cell
            ∙ ap (λ (n : ℕ). top_with kind h raised d (get_or old n None) k) (sym same)))
      ]

      rest : (top : Option Top) → (j : ℕ) → (j < from) ⊎ (i + 1 ≤ j) → get_or new j None ≡ get_or old j None
      rest top j out = elim out [
        | inl before ↦ other (top_with kind h raised c (get_or now i None) k) j (λ e. omega (arith, e, before, low)) put
            ∙ was.rest j (inl before)
        | inr past ↦ other (top_with kind h raised c (get_or now i None) k) j (λ e. omega (arith, e, past)) put
            ∙ was.rest j (inr (omega (arith, past)))
      ]

-- ---- places in lists

pub within_list : {A : Type 0} (xs : List A) (i : ℕ) (x : A) → slice_get xs i ≡ Some x → i < length xs
within_list {A} [] i x e = let none : ◌≡◌ {A = Option A} None (Some x) = e in absurd (cc)
within_list (y ∷ ys) zero x e = omega arith
within_list (y ∷ ys) (suc i) x e = omega (arith, within_list ys i x e)

pub cell_there : {A : Type 0} (xs : List A) (i : ℕ) → i < length xs → (x : A) × (slice_get xs i ≡ Some x)
cell_there [] i lt = absurd (omega (arith, lt))
cell_there (y ∷ ys) zero lt = (y, refl)
cell_there (y ∷ ys) (suc i) lt = cell_there ys i (omega (arith, lt))

pub key_count : (cs : List CellData) → length (cells_of cs) ≡ length cs
key_count cs = length-map cs cell_key

-- ---- mark by mark

none_push : (ts : Tops) → ((j : ℕ) → get_or ts j None ≡ None) → (j : ℕ) → get_or (ts ++ None ∷ []) j None ≡ None
none_push [] all zero = refl
none_push [] all (suc j) = refl
none_push (t ∷ ts) all zero = all 0
none_push (t ∷ ts) all (suc j) = none_push ts (λ n. all (suc n)) j

pub one_none : (n : ℕ) (old new : Tops) → AreNone n old → new ≡ old ++ None ∷ [] → AreNone (n + 1) new
one_none n old new was put = record {
  long = omega (arith, was.long, ap (λ (l : Tops). length l) put, length-append old (None ∷ []));
  each = λ j. ap (λ (l : Tops). get_or l j None) put ∙ none_push old was.each j;
}

module _ (kind : Kind) (h : List OpData) (raised : List (NameData × ℕ)) where
  pub none_painted : (n : ℕ) (ts : Tops) (ks : List KeptData) → n ≡ length (replay_of h) → AreNone n ts
      → ArePainted kind h raised (take 0 ks) ts
  none_painted n ts ks size none = record { long = none.long ∙ size; each = λ j c at. none.each j }

  pub one_painted : (ks : List KeptData) (i : ℕ) (k : KeptData) (old new : Tops) → i < length ks → k ≡ get_or ks i k
      → ArePainted kind h raised (take i ks) old
      → IsPainted kind h raised k old new
      → ArePainted kind h raised (take (i + 1) ks) new
  one_painted ks i k old new lt is was more = record {
    long = more.long ∙ was.long;
    each = λ j c at.
        more.each j c at
        ∙ (ap (λ (t : Option Top). top_with kind h raised c t k) (was.each j c at)
        ∙ (ap (λ (x : KeptData). top_with kind h raised c (fold (top_with kind h raised c) None (take i ks)) x) is
        ∙ sym (fold_more (top_with kind h raised c) None ks i k lt)));
  }

  pub all_painted : (ks : List KeptData) (i : ℕ) (ts : Tops) → length ks ≤ i → ArePainted kind h raised (take i ks) ts
      → ArePainted kind h raised ks ts
  all_painted ks i ts past was = subst (λ (l : List KeptData). ArePainted kind h raised l ts) (take_all i ks past) was
