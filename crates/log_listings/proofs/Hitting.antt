-- The cells that deletes hit: where they stand, and how they are found by the deleters of each cell.
use Rattle.std.proofs.Common.{◌≡◌, ℕ, zero, suc, ◌+◌, ◌<◌, Bool, true, false, List, [], ◌∷◌, ◌++◌, filter, Option, Some, None, refl, ap, ap₂, sym, subst, ◌∙◌, inl, inr, ◌⊎◌, eqb-true, eq-eqb}
use Rattle.std.specs.Prelude.{◌&&◌, ◌==◌, ◌||◌, slice_get, option_map, if◌then◌else◌, length, take, get_or}
use Rattle.std.specs.Map.{lookup}
use Rattle.std.proofs.lemmas.Bool.{cases_Bool, false≢true, true≢false, and_parts, and_from}
use Rattle.std.proofs.lemmas.List.Folds.{list_any_more}
use Rattle.op_name.specs.declared.member.Member.TheVariants.{Original}
use Rattle.op_name.specs.NameData.{NameData, name_eq}
use Rattle.op_name.proofs.CallerLemmas.{name_itself, name_same}
use Rattle.context_vector.specs.Contexts.{has}
use Rattle.context_diff.specs.Operations.{OpData, deleting}
use Rattle.context_diff.specs.Histories.{IsValid, generation_in}
use Rattle.context_diff.specs.Replays.{Cell, replay_of, seen, stands_at, hits}
use Rattle.context_diff.proofs.CallerLemmas.{complete}
use Rattle.ttf_form.specs.Cells.{CellData, cell_key, cells_of}
use Rattle.ttf_form.specs.Families.{IsIn}
use Rattle.undo_group.specs.Laws.Members.{in_contains, contains_in}
use Rattle.fixed_replay.specs.Replayed.{IsReplayed}
use Rattle.fixed_replay.proofs.CallerLemmas.{any_in, in_any}
use Rattle.tombstone_text.specs.declared.cell.CellId.{CellId}
use Rattle.log_listings.specs.Originals.{cell_hit}
use Rattle.log_listings.specs.Laws.{OneHit}
use Rattle.log_listings.specs.Code.Hits.{has_deleter, cell_of, AreNoted, AreHits}

-- ---- where a cell stands

same_cell : (d c : Cell) → name_eq d.0 c.0 ≡ true → (d.1 == c.1) ≡ true → d ≡ c
same_cell d c name offset = ap₂ (λ (n : NameData) (k : ℕ). (n, k)) (name_same d.0 c.0 name) (eqb-true d.1 c.1 offset)

stands_is : (n : ℕ) (cs : List Cell) (c : Cell) → stands_at n cs c ≡ true → slice_get cs n ≡ Some c
unfolding stands_at
stands_is n [] c e = absurd (false≢true e)
stands_is zero (d ∷ ds) c e =
    let parts = and_parts (name_eq d.0 c.0) (d.1 == c.1) e in
    ap (λ (x : Cell). Some x) (same_cell d c parts.0 parts.1)
stands_is (suc n) (d ∷ ds) c e = stands_is n ds c e

is_stands : (n : ℕ) (cs : List Cell) (c : Cell) → slice_get cs n ≡ Some c → stands_at n cs c ≡ true
unfolding stands_at
is_stands n [] c e = absurd (cc)
is_stands zero (d ∷ ds) c e =
    let same : d ≡ c = cc in
    subst (λ (x : Cell). (name_eq d.0 x.0 && (d.1 == x.1)) ≡ true) same
    (and_from (name_eq d.0 d.0) (d.1 == d.1) (name_itself d.0) (eq-eqb d.1 d.1 refl))
is_stands (suc n) (d ∷ ds) c e = is_stands n ds c e

-- a delete hits the one cell that stands at its place
pub one_hit : OneHit
one_hit h n p k c = (
  λ e. stands_is p (seen (λ m. has k (Original m)) (replay_of h)) c e,
  λ e. is_stands p (seen (λ m. has k (Original m)) (replay_of h)) c e,
)

-- ---- elements

get_in : {A : Type 0} (xs : List A) (i : ℕ) (x : A) → slice_get xs i ≡ Some x → IsIn x xs
get_in [] i x e = absurd (cc)
get_in (y ∷ ys) zero x e = let same : y ≡ x = cc in inl (sym same)
get_in (y ∷ ys) (suc i) x e = inr (get_in ys i x e)

in_filtered : {A : Type 0} (p : A → Bool) (xs : List A) (x : A) → IsIn x (filter p xs) → IsIn x xs
in_filtered p [] x i = absurd i
in_filtered {A} p (y ∷ ys) x i = elim (cases_Bool (p y)) [
  | inl t ↦
      let j : IsIn x (y ∷ filter p ys) = subst (λ (b : Bool). IsIn x (if b then y ∷ filter p ys else filter p ys)) t i in
      elim j [ inl e ↦ inl e | inr k ↦ inr (in_filtered p ys x k) ]
  | inr t ↦
      let j : IsIn x (filter p ys) = subst (λ (b : Bool). IsIn x (if b then y ∷ filter p ys else filter p ys)) t i in
      inr (in_filtered p ys x j)
]

of_cell : (cs : List CellData) (c : Cell) → IsIn c (cells_of cs) → (d : CellData) × IsIn d cs × (cell_key d ≡ c)
of_cell [] c i = absurd i
of_cell (d ∷ ds) c (inl e) = (d, inl refl, sym e)
of_cell (d ∷ ds) c (inr i) = let r = of_cell ds c i in (r.0, inr r.1, r.2)

in_front : {A : Type 0} (xs : List A) (y x : A) → IsIn x xs → IsIn x (xs ++ y ∷ [])
in_front [] y x i = absurd i
in_front (z ∷ zs) y x (inl e) = inl e
in_front (z ∷ zs) y x (inr i) = inr (in_front zs y x i)

at_end : {A : Type 0} (xs : List A) (y : A) → IsIn y (xs ++ y ∷ [])
at_end [] y = inl refl
at_end (z ∷ zs) y = inr (at_end zs y)

front_or_end : {A : Type 0} (xs : List A) (y x : A) → IsIn x (xs ++ y ∷ []) → IsIn x xs ⊎ (x ≡ y)
front_or_end [] y x (inl e) = inr e
front_or_end [] y x (inr i) = absurd i
front_or_end (z ∷ zs) y x (inl e) = inl (inl e)
front_or_end (z ∷ zs) y x (inr i) = elim (front_or_end zs y x i) [ inl j ↦ inl (inr j) | inr e ↦ inr e ]

-- ---- what is noted

-- the look-ups after a cell was noted under these names too
abbrev pub AreNotedAlso : List (NameData × ℕ) → CellId → List (NameData × CellId) → List (NameData × CellId) → Type 0
AreNotedAlso deleters id old new =
    (q : NameData) → lookup (name_eq q) new ≡ (if has_deleter deleters q then Some id else lookup (name_eq q) old)

-- one name more
pub noted_more : (deleters : List (NameData × ℕ)) (i : ℕ) (e : NameData × ℕ) (id : CellId) (first old new : List (NameData × CellId))
    → i < length deleters → e ≡ get_or deleters i e → AreNotedAlso (take i deleters) id first old
    → ((q : NameData) → lookup (name_eq q) new ≡ (if name_eq e.0 q then Some id else lookup (name_eq q) old))
    → AreNotedAlso (take (i + 1) deleters) id first new
noted_more deleters i e id first old new within is so_far put q =
    let more : has_deleter (take (i + 1) deleters) q ≡ (has_deleter (take i deleters) q || name_eq e.0 q) =
    list_any_more (λ (x : NameData × ℕ). name_eq x.0 q) deleters i e within
    ∙ ap (λ (x : NameData × ℕ). has_deleter (take i deleters) q || name_eq x.0 q) (sym is) in
    put q ∙ (ap (λ r. if name_eq e.0 q then Some id else r) (so_far q)
    ∙ (joined (has_deleter (take i deleters) q) (name_eq e.0 q)
    ∙ ap (λ (b : Bool). if b then Some id else lookup (name_eq q) first) (sym more)))
  where
    joined : (a b : Bool)
        → (if b then Some id else (if a then Some id else lookup (name_eq q) first))
        ≡ (if a || b then Some id else lookup (name_eq q) first)
    joined true true = refl
    joined true false = refl
    joined false true = refl
    joined false false = refl

pub none_noted : (es : List (NameData × CellId)) → es ≡ [] → AreNoted [] es
none_noted es empty = record {
  found = λ n id e. (let never : None ≡ Some id = ap (lookup (name_eq n)) (sym empty) ∙ e in absurd (cc));
  none = λ n e d i has. absurd i;
}

-- one cell more
pub noted_cell : (cells : List CellData) (d : CellData) (id : CellId) (old new : List (NameData × CellId)) → cell_of id ≡ cell_key d
    → AreNotedAlso d.deleters id old new → AreNoted cells old → AreNoted (cells ++ d ∷ []) new
noted_cell cells d id old new is put a = record { found = found_one; none = none_other }
  where
    found_one : (n : NameData) (x : CellId) → lookup (name_eq n) new ≡ Some x
        → (y : CellData) × IsIn y (cells ++ d ∷ []) × (has_deleter y.deleters n ≡ true) × (cell_of x ≡ cell_key y)
    found_one n x e = elim (cases_Bool (has_deleter d.deleters n)) [
      | inl t ↦
          let here : lookup (name_eq n) new ≡ Some id =
          put n ∙ ap (λ (b : Bool). if b then Some id else lookup (name_eq n) old) t in
          let same : id ≡ x = cc in
          (d, at_end cells d, t, ap cell_of (sym same) ∙ is)
      | inr f ↦
          let before : lookup (name_eq n) new ≡ lookup (name_eq n) old =
          put n ∙ ap (λ (b : Bool). if b then Some id else lookup (name_eq n) old) f in
          let r = a.found n x (sym before ∙ e) in
          (r.0, in_front cells d r.0 r.1, r.2, r.3)
    ]

    none_other : (n : NameData) → lookup (name_eq n) new ≡ None → (y : CellData) → IsIn y (cells ++ d ∷ [])
        → has_deleter y.deleters n ≡ true → ⊥
    none_other n e y i has = elim (cases_Bool (has_deleter d.deleters n)) [
      | inl t ↦
          let here : lookup (name_eq n) new ≡ Some id =
          put n ∙ ap (λ (b : Bool). if b then Some id else lookup (name_eq n) old) t in
          cc
      | inr f ↦
          let before : lookup (name_eq n) new ≡ lookup (name_eq n) old =
          put n ∙ ap (λ (b : Bool). if b then Some id else lookup (name_eq n) old) f in
          elim (front_or_end cells d y i) [
            | inl j ↦ a.none n (sym before ∙ e) y j has
            | inr same ↦ true≢false (sym has ∙ (ap (λ (x : CellData). has_deleter x.deleters n) same ∙ f))
          ]
    ]

-- a deleter of this name
deleter_named : (deleters : List (NameData × ℕ)) (n : NameData) → has_deleter deleters n ≡ true → (g : ℕ) × IsIn (n, g) deleters
deleter_named deleters n e =
    let r = any_in (λ (x : NameData × ℕ). name_eq x.0 n) deleters e in
    (r.0.1, subst (λ (m : NameData). IsIn (m, r.0.1) deleters) (name_same r.0.0 n r.2) r.1)

-- in the cells of a replay the deleters tell the cell that each delete hits
pub noted_hits : (h : List OpData) → IsValid h → (cs : List CellData) → IsReplayed h cs → (noted : List (NameData × CellId))
    → AreNoted cs noted → AreHits h noted
noted_hits h v cs r noted a n p k at = by (lookup (name_eq n) noted) refl
  where
    o : OpData
    o = deleting n p k

    -- a cell that has the delete among its deleters is hit by it
    is_hit : (d : CellData) → IsIn d cs → has_deleter d.deleters n ≡ true → hits h (deleting n p k) (cell_key d) ≡ true
    is_hit d i has =
        let e = deleter_named d.deleters n has in
        let q = ((r.deleters d i n e.0).0 e.1).0 in
        let same : deleting n q.place q.context ≡ deleting n p k =
        (complete h v).one (deleting n q.place q.context) (deleting n p k) (in_contains (deleting n q.place q.context) h q.there) at refl in
        subst (λ (x : OpData). hits h x (cell_key d) ≡ true) same q.hit

    -- and one that is hit by it has it
    has_hit : (c : Cell) → cell_hit h p k ≡ Some c → (d : CellData) × IsIn d cs × (has_deleter d.deleters n ≡ true)
    has_hit c e =
        let sees : Cell → Bool = λ d. has k (Original d.0) in
        let there : IsIn c (replay_of h) = in_filtered sees (replay_of h) c (get_in (filter sees (replay_of h)) p c e) in
        let d = of_cell cs c (subst (λ (xs : List Cell). IsIn c xs) (sym r.cells) there) in
        let hit : hits h (deleting n p k) (cell_key d.0) ≡ true =
        subst (λ (x : Cell). hits h (deleting n p k) x ≡ true) (sym d.2) ((one_hit h n p k c).1 e) in
        let listed : IsIn (n, generation_in h n) d.0.deleters =
        (r.deleters d.0 d.1 n (generation_in h n)).1
        (record { place = p; context = k; there = contains_in (deleting n p k) h at; hit = hit }, refl) in
        (d.0, d.1, in_any (λ (x : NameData × ℕ). name_eq x.0 n) (n, generation_in h n) d.0.deleters listed (name_itself n))

    by : (x : Option CellId) → lookup (name_eq n) noted ≡ x → option_map cell_of x ≡ cell_hit h p k
    by (Some id) e =
        let f = a.found n id e in
        ap (λ (c : Cell). Some c) f.3 ∙ sym ((one_hit h n p k (cell_key f.0)).0 (is_hit f.0 f.1 f.2))
    by None e = none_is (cell_hit h p k) refl
      where
        none_is : (x : Option Cell) → cell_hit h p k ≡ x → None ≡ cell_hit h p k
        none_is None is = sym is
        none_is (Some c) is = let d = has_hit c is in absurd (a.none n e d.0 d.1 d.2)
