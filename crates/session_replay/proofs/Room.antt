-- What a history of few operations has room for: no site of it runs out of numbers, generations or undo entries.
use Rattle.std.proofs.Common.{◌≡◌, ℕ, ◌+◌, ◌≤◌, Bool, inl, inr, List, [], ◌∷◌, ◌++◌, ap, sym, subst, ◌∙◌, arith, length, length-append}
use Rattle.std.specs.Prelude.{Contains, ◌==◌, if◌then◌else◌}
use Rattle.std.proofs.lemmas.Bool.{cases_Bool, false≢true}
use Rattle.std.proofs.lemmas.List.Elements.{Contains-append_left, Contains-append_right, Contains-append_cases}
use Rattle.op_name.specs.declared.member.Member.{Member}
use Rattle.op_name.specs.declared.member.Member.TheVariants.{Original, Group}
use Rattle.op_name.specs.NameData.{NameData, name_eq}
use Rattle.context_vector.specs.Contexts.{ContextData, count_of, count_in, entry_of, entry_in, put_entry, put_count, raised, empty, IsNextMember}
use Rattle.context_vector.proofs.CallerLemmas.{count_put, entry_put}
use Rattle.context_diff.specs.Operations.{OpData, member_of}
use Rattle.context_diff.specs.Histories.{is_known, generation_in, context_of_all, IsValid}
use Rattle.context_diff.proofs.CallerLemmas.{by_pushes, complete, context_push, next_member, generation_is, known_member, contains_here, contains_none, contains_cases}

-- ---- a history within a list

-- a list with an element in the middle
record Split (ys : List OpData) (o : OpData) : Type 0 where
  before : List OpData
  after : List OpData
  parts : ys ≡ before ++ o ∷ after

split_at : (ys : List OpData) (o : OpData) → Contains ys o → Split ys o
split_at [] o at = absurd (contains_none o at)
split_at (y ∷ ys) o at =
    elim (contains_cases y ys o at) [
      | inl same ↦ record { before = []; after = ys; parts = ap (λ x. x ∷ ys) same }
      | inr later ↦ let rest =
          split_at ys o later in record { before = y ∷ rest.before; after = rest.after; parts = ap (λ xs. y ∷ xs) rest.parts }
    ]

others : (a b : List OpData) (o x : OpData) → (o ≡ x → ⊥) → Contains (a ++ o ∷ b) x → Contains (a ++ b) x
others a b o x apart at =
    elim (Contains-append_cases a (o ∷ b) x at) [
      | inl left ↦ Contains-append_left a b x left
      | inr right ↦ elim (contains_cases o b x right) [
        | inl same ↦ absurd (apart same)
        | inr later ↦ Contains-append_right a b x later
      ]
    ]

-- a valid history whose operations are all in a list is no longer than it
pub no_longer : (h : List OpData) → IsValid h → (ys : List OpData) → ((x : OpData) → Contains h x → Contains ys x) → length h ≤ length ys
no_longer h v =
    by_pushes (λ k. (ys : List OpData) → ((x : OpData) → Contains k x → Contains ys x) → length k ≤ length ys)
    (λ ys within. omega arith)
    (λ k o valid was next ys within.
    let last : Contains (k ++ o ∷ []) o = Contains-append_right k (o ∷ []) o (contains_here o []) in
    let cut = split_at ys o (within o last) in
    let apart : (x : OpData) → Contains k x → o ≡ x → ⊥ =
    λ x at same. false≢true (sym next.new ∙ (ap (λ y. is_known k (member_of y)) same ∙ known_member k x at)) in
    let fewer =
    was (cut.before ++ cut.after) (λ x at.
    others cut.before cut.after o x (apart x at)
    (subst (λ zs. Contains zs x) cut.parts (within x (Contains-append_left k (o ∷ []) x at)))) in
    omega (
      arith,
      fewer,
      length-append k (o ∷ []),
      length-append cut.before (o ∷ cut.after),
      length-append cut.before cut.after,
      ap length cut.parts,
    )) h v

-- ---- entries

-- ---- numbers and generations

count_raised : (c : ContextData) (m : Member) (k : ℕ) → IsNextMember c m → ((s : ℕ) → count_of c s ≤ k) → (s : ℕ)
    → count_of (raised c m) s ≤ k + 1
count_raised c (Original n) k next most s =
    elim (cases_Bool (n.site == s)) [
      | inl here ↦
          let is : count_in (put_count n.site n.number c.counts) s ≡ n.number =
          count_put n.site n.number c.counts s ∙ ap (λ (b : Bool). if b then n.number else count_in c.counts s) here in
          omega (arith, is, next, most n.site)
      | inr other ↦
          let is : count_in (put_count n.site n.number c.counts) s ≡ count_in c.counts s =
          count_put n.site n.number c.counts s ∙ ap (λ (b : Bool). if b then n.number else count_in c.counts s) other in
          omega (arith, is, most s)
    ]
count_raised c (Group n g) k next most s = omega (arith, most s)

entry_raised : (c : ContextData) (m : Member) (k : ℕ) → IsNextMember c m → ((t : NameData) → entry_of c t ≤ k) → (t : NameData)
    → entry_of (raised c m) t ≤ k + 1
entry_raised c (Original n) k next most t = omega (arith, most t)
entry_raised c (Group n g) k next most t =
    elim (cases_Bool (name_eq n t)) [
      | inl here ↦
          let is : entry_in (put_entry n g c.entries) t ≡ g =
          entry_put n g c.entries t ∙ ap (λ (b : Bool). if b then g else entry_in c.entries t) here in
          omega (arith, is, next, most n)
      | inr other ↦
          let is : entry_in (put_entry n g c.entries) t ≡ entry_in c.entries t =
          entry_put n g c.entries t ∙ ap (λ (b : Bool). if b then g else entry_in c.entries t) other in
          omega (arith, is, most t)
    ]

-- what rises by one at the most where a member is added is at most as many as the operations
few_by : (Few : ContextData → ℕ → Type 0) → Few empty 0
    → ((c : ContextData) (m : Member) (k : ℕ) → IsNextMember c m → Few c k → Few (raised c m) (k + 1))
    → (h : List OpData) → IsValid h → Few (context_of_all h) (length h)
few_by Few none more h v =
    by_pushes (λ k. Few (context_of_all k) (length k)) none
    (λ k o valid was next.
    let one = more (context_of_all k) (member_of o) (length k) (next_member k (context_of_all k) o (complete k valid).holds next) was in
    let count : length k + 1 ≡ length (k ++ o ∷ []) = omega (arith, length-append k (o ∷ [])) in
    subst (Few (context_of_all (k ++ o ∷ []))) count (subst (λ c. Few c (length k + 1)) (sym (context_push k o)) one)) h v

pub few_numbers : (h : List OpData) → IsValid h → (s : ℕ) → count_of (context_of_all h) s ≤ length h
few_numbers = few_by (λ c k. (s : ℕ) → count_of c s ≤ k) (λ s. omega arith) (λ c m k next most. count_raised c m k next most)

few_raised : (h : List OpData) → IsValid h → (t : NameData) → entry_of (context_of_all h) t ≤ length h
few_raised = few_by (λ c k. (t : NameData) → entry_of c t ≤ k) (λ t. omega arith) (λ c m k next most. entry_raised c m k next most)

pub few_generations : (h : List OpData) → IsValid h → (t : NameData) → generation_in h t ≤ length h
few_generations h v t = omega (arith, generation_is h v t, few_raised h v t)
