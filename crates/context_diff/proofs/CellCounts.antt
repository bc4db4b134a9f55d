-- Cells of a context, counted site by site.
use Rattle.std.proofs.Common.{◌≡◌, ℕ, ◌+◌, ◌<◌, ◌≤◌, true, false, inl, inr, List, [], ◌∷◌, ◌++◌, refl, ap, sym, ◌∙◌, arith, length}
use Rattle.std.specs.Prelude.{Contains, ◌==◌, ◌&&◌, nat_le, if◌then◌else◌}
use Rattle.std.proofs.lemmas.Bool.Decides.{nat_tests}
use Rattle.std.proofs.lemmas.Bool.{or_parts, false≢true, cases_Bool, eqb-true}
use Rattle.op_name.specs.declared.member.Member.TheVariants.{Original}
use Rattle.op_name.specs.NameData.{NameData, name_eq}
use Rattle.context_vector.specs.Contexts.{ContextData, has, count_of, count_in, AreCounts}
use Rattle.context_diff.specs.Operations.{OpData, inserting, deleting, undoing, member_of, cells_put, IsWellFormed}
use Rattle.context_diff.specs.Histories.{is_known, all_cells, cells_in, IsNext, context_of_all}
use Rattle.context_diff.specs.Code.Counting.{is_insert_of, cells_of_site, cells_listed}
use Rattle.context_diff.proofs.Known.{contains_here, contains_later}
use Rattle.context_diff.proofs.Complete.{IsComplete, next_member}

pub cells_of_site_push : (h : List OpData) (o : OpData) (s k : ℕ)
    → cells_of_site (h ++ o ∷ []) s k ≡ cells_of_site h s k + (if is_insert_of s k o then cells_put o else 0)
cells_of_site_push [] o s k = omega arith
cells_of_site_push (p ∷ ps) o s k = rw (cells_of_site_push ps o s k) (omega arith)

-- the cells of an insert, for each of the pairs that names it
named_by : List (ℕ × ℕ) → OpData → ℕ
named_by [] o = 0
named_by (p ∷ ps) o = (if is_insert_of p.0 p.1 o then cells_put o else 0) + named_by ps o

named_none : (low : ℕ) (ps : List (ℕ × ℕ)) → AreCounts low ps → (n : NameData) (p : ℕ) (text : List ℕ) (c : ContextData) → n.site < low
    → named_by ps (inserting n p text c) ≡ 0
unfolding named_by
named_none low [] are n p text c less = refl
named_none low (q ∷ qs) are n p text c less =
    let rest = named_none (q.0 + 1) qs are.4 n p text c (omega (arith, are.0)) in
    let other : (n.site == q.0) ≡ false = grind (arith, nat_tests, are.0) in
    rw other (rw rest refl)

-- of the sites, each once, the one of an insert names it if its number is among the first
named_once : (low : ℕ) (ps : List (ℕ × ℕ)) → AreCounts low ps → (n : NameData) (p : ℕ) (text : List ℕ) (c : ContextData) → 1 ≤ n.number
    → ◌≡◌ {A = ℕ} (named_by ps (inserting n p text c)) (if nat_le n.number (count_in ps n.site) then length text else 0)
unfolding named_by
named_once low [] are n p text c some = grind (arith, nat_tests)
named_once low (q ∷ qs) are n p text c some =
    elim (cases_Bool (n.site == q.0)) [
      | inl same ↦
          let is : n.site ≡ q.0 = eqb-true n.site q.0 same in
          let rest = named_none (q.0 + 1) qs are.4 n p text c (omega arith) in
          let back : (q.0 == n.site) ≡ true = grind (arith, nat_tests) in
          rw (same, back) (rw rest (omega arith))
      | inr other ↦
          let rest = named_once (q.0 + 1) qs are.4 n p text c some in
          let back : (q.0 == n.site) ≡ false = grind (arith, nat_tests) in
          rw (other, back) (rw rest (omega arith))
    ]

nothing_named : (ps : List (ℕ × ℕ)) (n : NameData) (p : ℕ) (c : ContextData) → named_by ps (deleting n p c) ≡ 0
unfolding named_by
nothing_named [] n p c = refl
nothing_named (q ∷ qs) n p c = rw (nothing_named qs n p c) refl

nothing_undone : (ps : List (ℕ × ℕ)) (a : ℕ) (t : NameData) (g : ℕ) (c : ContextData) → named_by ps (undoing a t g c) ≡ 0
unfolding named_by
nothing_undone [] a t g c = refl
nothing_undone (q ∷ qs) a t g c = rw (nothing_undone qs a t g c) refl

listed_step : (o : OpData) (os : List OpData) (ps : List (ℕ × ℕ)) → cells_listed (o ∷ os) ps ≡ named_by ps o + cells_listed os ps
unfolding named_by
listed_step o os [] = refl
listed_step o os (q ∷ qs) = rw (listed_step o os qs) (omega arith)

listed_nothing : (ps : List (ℕ × ℕ)) → cells_listed [] ps ≡ 0
listed_nothing [] = refl
listed_nothing (q ∷ qs) = rw (listed_nothing qs) refl

named_here : (v : ContextData) → AreCounts 0 v.counts → (o : OpData) → IsWellFormed o
    → ◌≡◌ {A = ℕ} (named_by v.counts o) (if has v (member_of o) then cells_put o else 0)
named_here v are (inserting n p text c) f =
    let low : 1 ≤ n.number = f.in_range.0.1 in
    named_once 0 v.counts are n p text c low ∙ grind (arith, nat_tests)
named_here v are (deleting n p c) f = nothing_named v.counts n p c ∙ grind arith
named_here v are (undoing a t g c) f = nothing_undone v.counts a t g c ∙ grind arith

-- the cells of a context, site by site
pub cells_by_site : (h : List OpData) (v : ContextData) → AreCounts 0 v.counts → ((o : OpData) → Contains h o → IsWellFormed o)
    → cells_listed h v.counts ≡ cells_in h v
cells_by_site [] v are f = listed_nothing v.counts
cells_by_site (o ∷ os) v are f =
    listed_step o os v.counts
    ∙ (λ i. named_here v are o (f o (contains_here o os)) i + cells_by_site os v are (λ q at. f q (contains_later o os q at)) i)

-- no originals have no cells
pub no_cells : (h : List OpData) (s : ℕ) → ((o : OpData) → Contains h o → IsWellFormed o) → cells_of_site h s 0 ≡ 0
no_cells [] s f = refl
no_cells (inserting n p text c ∷ os) s f =
    let low : 1 ≤ n.number = (f (inserting n p text c) (contains_here (inserting n p text c) os)).in_range.0.1 in
    rw (no_cells os s (λ q at. f q (contains_later (inserting n p text c) os q at))) (grind (arith, nat_tests))
no_cells (deleting n p c ∷ os) s f = rw (no_cells os s (λ q at. f q (contains_later (deleting n p c) os q at))) refl
no_cells (undoing a t g c ∷ os) s f = rw (no_cells os s (λ q at. f q (contains_later (undoing a t g c) os q at))) refl

pub cells_at_most : (h : List OpData) (v : ContextData) → cells_in h v ≤ all_cells h
cells_at_most [] v = omega arith
cells_at_most (o ∷ os) v =
    let rest = cells_at_most os v in
    elim (cases_Bool (has v (member_of o))) [
      | inl one ↦ rw one (omega arith)
      | inr none ↦ rw none (omega arith)
    ]

pub cells_of_site_at_most : (h : List OpData) (s k : ℕ) → cells_of_site h s k ≤ all_cells h
cells_of_site_at_most [] s k = omega arith
cells_of_site_at_most (o ∷ os) s k =
    let rest = cells_of_site_at_most os s k in
    elim (cases_Bool (is_insert_of s k o)) [
      | inl one ↦ rw one (omega arith)
      | inr none ↦ rw none (omega arith)
    ]

-- a next operation is none of the first k originals of a site, where the history has those k
beyond : (h : List OpData) → IsComplete h → (o : OpData) → IsNext h o → (s k : ℕ) → k ≤ count_of (context_of_all h) s
    → is_insert_of s k o ≡ false
beyond h w (inserting n p text c) next s k within =
    let after : n.number ≡ count_of (context_of_all h) n.site + 1 = next_member h (context_of_all h) (inserting n p text c) w.holds next in
    elim (cases_Bool (n.site == s)) [
      | inl same ↦
          let counts : count_of (context_of_all h) n.site ≡ count_of (context_of_all h) s =
          ap (count_of (context_of_all h)) (eqb-true n.site s same) in
          grind (arith, nat_tests)
      | inr other ↦ grind (arith, nat_tests)
    ]
beyond h w (deleting n p c) next s k within = refl
beyond h w (undoing a t g c) next s k within = refl

-- the cells of the first originals of a site stay the same when a next operation comes
pub cells_of_site_on : (h : List OpData) → IsComplete h → (o : OpData) → IsNext h o → (s k : ℕ) → k ≤ count_of (context_of_all h) s
    → cells_of_site (h ++ o ∷ []) s k ≡ cells_of_site h s k
cells_of_site_on h w o next s k within = cells_of_site_push h o s k ∙ rw (beyond h w o next s k within) (omega arith)

-- in a list that hasn't the last of them, the first k originals have the cells of the first k - 1
pub cells_of_site_less : (h : List OpData) (n : NameData) (k : ℕ) → is_known h (Original n) ≡ false → n.number ≡ k + 1
    → cells_of_site h n.site n.number ≡ cells_of_site h n.site k
cells_of_site_less [] n k new at = refl
cells_of_site_less (inserting m p text c ∷ os) n k new at =
    let parts = or_parts (name_eq m n) (is_known os (Original n)) new in
    let other : name_eq m n ≡ false = parts.0 in
    rw (cells_of_site_less os n k parts.1 at) (grind (arith, nat_tests))
cells_of_site_less (deleting m p c ∷ os) n k new at =
    rw (cells_of_site_less os n k (or_parts (name_eq m n) (is_known os (Original n)) new).1 at) refl
cells_of_site_less (undoing a t g c ∷ os) n k new at = rw (cells_of_site_less os n k new at) refl

bit_of : (o : OpData) (n : NameData) → member_of o ≡ Original n
    → ◌≡◌ {A = ℕ} (if is_insert_of n.site n.number o then cells_put o else 0) (cells_put o)
bit_of (inserting m p text c) n is =
    let same : m ≡ n = cc in
    let number : m.number ≡ n.number = ap (λ (x : NameData). x.number) same in
    let site : m.site ≡ n.site = ap (λ (x : NameData). x.site) same in
    grind (arith, nat_tests)
bit_of (deleting m p c) n is = refl
bit_of (undoing a t g c) n is = refl

-- a new original has the cells up to the one before it, and its own
pub cells_of_site_new : (h : List OpData) (o : OpData) (n : NameData) (k : ℕ) → member_of o ≡ Original n → is_known h (Original n) ≡ false
    → n.number ≡ k + 1 → cells_of_site (h ++ o ∷ []) n.site n.number ≡ cells_of_site h n.site k + cells_put o
cells_of_site_new h o n k is new at =
    cells_of_site_push h o n.site n.number ∙ (λ i. cells_of_site_less h n k new at i + bit_of o n is i)

-- ---- All cells of a history

pub all_cells_push : (h : List OpData) (o : OpData) → all_cells (h ++ o ∷ []) ≡ all_cells h + cells_put o
all_cells_push [] o = omega arith
all_cells_push (p ∷ ps) o = rw (all_cells_push ps o) (omega arith)

-- a context that has all members has all cells
pub cells_of_all : (h : List OpData) (c : ContextData) → ((o : OpData) → Contains h o → has c (member_of o) ≡ true)
    → cells_in h c ≡ all_cells h
cells_of_all [] c there = refl
cells_of_all (o ∷ os) c there =
    let rest = cells_of_all os c (λ q at. there q (contains_later o os q at)) in
    rw (there o (contains_here o os)) (omega (arith, rest))
