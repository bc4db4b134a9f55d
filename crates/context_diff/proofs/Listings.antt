-- The listing of a context: sites with their counts, names with their generations, each once and rising.
use Rattle.std.proofs.Common.{◌≡◌, ℕ, zero, suc, ◌+◌, ◌<◌, ◌≤◌, true, false, inl, inr, List, [], ◌∷◌, refl, ap, sym, subst, ◌∙◌, arith, length, take}
use Rattle.std.specs.Prelude.{◌==◌, Some, None, slice_get, if◌then◌else◌}
use Rattle.std.proofs.lemmas.Bool.Decides.{nat_tests}
use Rattle.std.proofs.lemmas.Bool.{cases_Bool, cases_lt, false≢true, eqb-true}
use Rattle.op_name.specs.declared.name.TheConstants.{SITES, NUMBERS}
use Rattle.op_name.specs.declared.member.TheConstants.{GENERATIONS}
use Rattle.op_name.specs.NameData.{NameData, IsName, name_eq, name_lt}
use Rattle.op_name.specs.declared.member.Member.TheVariants.{Original}
use Rattle.context_vector.specs.Contexts.{ContextData, AreCounts, AreEntries, IsBefore, count_in, entry_in, HasNoStray, has}
use Rattle.op_name.proofs.CallerLemmas.{name_order, name_less_other}
use Rattle.context_diff.proofs.Names.{name_same, name_itself}
use Rattle.context_diff.proofs.Raising.{has_generation, has_group}

-- what stands at a place of the counts
pub record IsCountAt (low : ℕ) (ps : List (ℕ × ℕ)) (p : ℕ × ℕ) : Type 0 where
  pub from : low ≤ p.0
  pub site : p.0 < SITES
  pub least : 1 ≤ p.1
  pub greatest : p.1 ≤ NUMBERS
  pub count : count_in ps p.0 ≡ p.1

pub count_at : (low : ℕ) (ps : List (ℕ × ℕ)) → AreCounts low ps → (i : ℕ) (p : ℕ × ℕ) → slice_get ps i ≡ Some p → IsCountAt low ps p
count_at low [] are i p at = let none : None ≡ Some p = at in cc
count_at low (q ∷ qs) are zero p at =
    let is : q ≡ p = cc in
    let self : (q.0 == q.0) ≡ true = grind (arith, nat_tests) in
    subst (λ (x : ℕ × ℕ). IsCountAt low (q ∷ qs) x) is
    (record { from = are.0; site = are.1; least = are.2; greatest = are.3; count = ap (λ b. if b then q.1 else count_in qs q.0) self })
count_at low (q ∷ qs) are (suc i) p at =
    let rest = count_at (q.0 + 1) qs are.4 i p at in
    let other : (q.0 == p.0) ≡ false = grind (arith, nat_tests, rest.from) in
    record {
      from = omega (arith, are.0, rest.from);
      site = rest.site;
      least = rest.least;
      greatest = rest.greatest;
      count = ap (λ b. if b then q.1 else count_in qs p.0) other ∙ rest.count;
    }

-- as many lesser sites as stand before it, a site has at least
pub place_at_most : (low : ℕ) (ps : List (ℕ × ℕ)) → AreCounts low ps → (i : ℕ) (p : ℕ × ℕ) → slice_get ps i ≡ Some p → low + i ≤ p.0
place_at_most low [] are i p at = let none : None ≡ Some p = at in cc
place_at_most low (q ∷ qs) are zero p at =
    let is : q.0 ≡ p.0 = cc in
    omega (arith, are.0, is)
place_at_most low (q ∷ qs) are (suc i) p at = omega (arith, are.0, place_at_most (q.0 + 1) qs are.4 i p at)

-- each site that is counted stands somewhere
pub record CountPlace (ps : List (ℕ × ℕ)) (s : ℕ) : Type 0 where
  pub place : ℕ
  pub within : place < length ps
  pub at : slice_get ps place ≡ Some (s, count_in ps s)

pub count_place : (ps : List (ℕ × ℕ)) (s : ℕ) → 1 ≤ count_in ps s → CountPlace ps s
count_place [] s some = absurd (omega arith)
count_place (q ∷ qs) s some =
    elim (cases_Bool (q.0 == s)) [
      | inl same ↦
          let is : q.0 ≡ s = eqb-true q.0 s same in
          record { place = 0; within = omega arith; at = λ i. Some (is i, ap (λ b. if b then q.1 else count_in qs s) (sym same) i) }
      | inr other ↦
          let skip : count_in (q ∷ qs) s ≡ count_in qs s = ap (λ b. if b then q.1 else count_in qs s) other in
          let rest = count_place qs s (omega arith) in
          record { place = suc rest.place; within = omega (arith, rest.within); at = rest.at ∙ ap (λ k. Some (s, k)) (sym skip) }
    ]

-- lesser sites stand before greater ones
pub count_order : (low : ℕ) (ps : List (ℕ × ℕ)) → AreCounts low ps → (i j : ℕ) (p q : ℕ × ℕ) → slice_get ps i ≡ Some p
    → slice_get ps j ≡ Some q → p.0 < q.0 → i < j
count_order low [] are i j p q at bt less = let none : None ≡ Some p = at in cc
count_order low (x ∷ xs) are zero zero p q at bt less =
    let one : x ≡ p = cc in
    let two : x ≡ q = cc in
    let same : p.0 ≡ q.0 = ap (λ (z : ℕ × ℕ). z.0) (sym one ∙ two) in
    absurd (omega arith)
count_order low (x ∷ xs) are zero (suc j) p q at bt less = omega arith
count_order low (x ∷ xs) are (suc i) zero p q at bt less =
    let two : x ≡ q = cc in
    let rest = count_at (x.0 + 1) xs are.4 i p at in
    let same : x.0 ≡ q.0 = ap (λ (z : ℕ × ℕ). z.0) two in
    absurd (omega (arith, rest.from))
count_order low (x ∷ xs) are (suc i) (suc j) p q at bt less = omega (arith, count_order (x.0 + 1) xs are.4 i j p q at bt less)

-- a site is not among those before its place
pub count_before : (low : ℕ) (ps : List (ℕ × ℕ)) → AreCounts low ps → (i : ℕ) (p : ℕ × ℕ) → slice_get ps i ≡ Some p
    → count_in (take i ps) p.0 ≡ 0
count_before low [] are i p at = let none : None ≡ Some p = at in cc
count_before low (q ∷ qs) are zero p at = refl
count_before low (q ∷ qs) are (suc i) p at =
    let rest = count_at (q.0 + 1) qs are.4 i p at in
    let other : (q.0 == p.0) ≡ false = grind (arith, nat_tests, rest.from) in
    ap (λ b. if b then q.1 else count_in (take i qs) p.0) other ∙ count_before (q.0 + 1) qs are.4 i p at

-- the counts with one more place
pub count_more : (low : ℕ) (ps : List (ℕ × ℕ)) → AreCounts low ps → (i : ℕ) (p : ℕ × ℕ) → slice_get ps i ≡ Some p → (s : ℕ)
    → count_in (take (suc i) ps) s ≡ (if p.0 == s then p.1 else count_in (take i ps) s)
count_more low [] are i p at s = let none : None ≡ Some p = at in cc
count_more low (q ∷ qs) are zero p at s =
    let is : q ≡ p = cc in
    ap (λ (x : ℕ × ℕ). if x.0 == s then x.1 else 0) is
count_more low (q ∷ qs) are (suc i) p at s =
    let rest = count_at (q.0 + 1) qs are.4 i p at in
    let more = count_more (q.0 + 1) qs are.4 i p at s in
    elim (cases_Bool (q.0 == s)) [
      | inl same ↦
          let other : (p.0 == s) ≡ false = grind (arith, nat_tests, rest.from) in
          rw (same, other) refl
      | inr apart ↦ rw apart more
    ]

-- names behind the first one are greater
entry_later : (n : NameData) (es : List (NameData × ℕ)) → IsBefore n es → AreEntries es → (i : ℕ) (x : NameData × ℕ)
    → slice_get es i ≡ Some x → name_lt n x.0 ≡ true
entry_later n [] before are i x at = let none : None ≡ Some x = at in cc
entry_later n (e ∷ es) before are zero x at =
    let is : e ≡ x = cc in
    ap (λ (z : NameData × ℕ). name_lt n z.0) (sym is) ∙ before
entry_later n (e ∷ es) before are (suc i) x at = name_order.transitive n e.0 x.0 before (entry_later e.0 es are.3 are.4 i x at)

-- what stands at a place of the entries
pub record IsEntryAt (es : List (NameData × ℕ)) (e : NameData × ℕ) : Type 0 where
  pub name : IsName e.0.site e.0.number
  pub least : 1 ≤ e.1
  pub greatest : e.1 ≤ GENERATIONS
  pub entry : entry_in es e.0 ≡ e.1

pub entry_at : (es : List (NameData × ℕ)) → AreEntries es → (i : ℕ) (e : NameData × ℕ) → slice_get es i ≡ Some e → IsEntryAt es e
entry_at [] are i e at = let none : None ≡ Some e = at in cc
entry_at (d ∷ ds) are zero e at =
    let is : d ≡ e = cc in
    subst (λ (x : NameData × ℕ). IsEntryAt (d ∷ ds) x) is
    (record { name = are.0; least = are.1; greatest = are.2; entry = ap (λ b. if b then d.1 else entry_in ds d.0) (name_itself d.0) })
entry_at (d ∷ ds) are (suc i) e at =
    let rest = entry_at ds are.4 i e at in
    let other = name_less_other d.0 e.0 (entry_later d.0 ds are.3 are.4 i e at) in
    record {
      name = rest.name;
      least = rest.least;
      greatest = rest.greatest;
      entry = ap (λ b. if b then d.1 else entry_in ds e.0) other ∙ rest.entry;
    }

-- each name that has a generation stands somewhere
pub record EntryPlace (es : List (NameData × ℕ)) (n : NameData) : Type 0 where
  pub place : ℕ
  pub within : place < length es
  pub at : slice_get es place ≡ Some (n, entry_in es n)

pub entry_place : (es : List (NameData × ℕ)) (n : NameData) → 1 ≤ entry_in es n → EntryPlace es n
entry_place [] n some = absurd (omega arith)
entry_place (d ∷ ds) n some =
    elim (cases_Bool (name_eq d.0 n)) [
      | inl same ↦
          let is : d.0 ≡ n = name_same d.0 n same in
          record { place = 0; within = omega arith; at = λ i. Some (is i, ap (λ b. if b then d.1 else entry_in ds n) (sym same) i) }
      | inr other ↦
          let skip : entry_in (d ∷ ds) n ≡ entry_in ds n = ap (λ b. if b then d.1 else entry_in ds n) other in
          let rest = entry_place ds n (omega arith) in
          record { place = suc rest.place; within = omega (arith, rest.within); at = rest.at ∙ ap (λ k. Some (n, k)) (sym skip) }
    ]

-- a name is not among those before its place
pub entry_before : (es : List (NameData × ℕ)) → AreEntries es → (i : ℕ) (e : NameData × ℕ) → slice_get es i ≡ Some e
    → entry_in (take i es) e.0 ≡ 0
entry_before [] are i e at = let none : None ≡ Some e = at in cc
entry_before (d ∷ ds) are zero e at = refl
entry_before (d ∷ ds) are (suc i) e at =
    let other = name_less_other d.0 e.0 (entry_later d.0 ds are.3 are.4 i e at) in
    ap (λ b. if b then d.1 else entry_in (take i ds) e.0) other ∙ entry_before ds are.4 i e at

-- the entries with one more place
pub entry_more : (es : List (NameData × ℕ)) → AreEntries es → (i : ℕ) (e : NameData × ℕ) → slice_get es i ≡ Some e → (n : NameData)
    → entry_in (take (suc i) es) n ≡ (if name_eq e.0 n then e.1 else entry_in (take i es) n)
entry_more [] are i e at n = let none : None ≡ Some e = at in cc
entry_more (d ∷ ds) are zero e at n =
    let is : d ≡ e = cc in
    ap (λ (x : NameData × ℕ). if name_eq x.0 n then x.1 else 0) is
entry_more (d ∷ ds) are (suc i) e at n =
    let more = entry_more ds are.4 i e at n in
    elim (cases_Bool (name_eq d.0 n)) [
      | inl same ↦
          let later = entry_later d.0 ds are.3 are.4 i e at in
          let is : d.0 ≡ n = name_same d.0 n same in
          let other : name_eq e.0 n ≡ false = ap (name_eq e.0) (sym is) ∙ turned d.0 e.0 (name_less_other d.0 e.0 later) in
          rw (same, other) refl
      | inr apart ↦ rw apart more
    ]
  where
    turned : (a b : NameData) → name_eq a b ≡ false → name_eq b a ≡ false
    turned a b e = elim (name_eq b a) as (λ v. name_eq b a ≡ v → v ≡ false) [
      | true ↦ λ f. absurd (false≢true (sym e ∙ (ap (name_eq a) (name_same b a f) ∙ name_itself a)))
      | false ↦ λ f. refl
    ] refl

-- what holds of each element before this one, and of this one, holds of each before the next
pub each_more : {A : Type 0} (P : A → Type 0) (xs : List A) (i : ℕ) (x : A) → slice_get xs i ≡ Some x → P x
    → ((j : ℕ) (y : A) → j < i → slice_get xs j ≡ Some y → P y) → (j : ℕ) (y : A) → j < i + 1 → slice_get xs j ≡ Some y → P y
each_more P xs i x at here each j y less read =
    elim (cases_lt j i) [
      | inl before ↦ each j y before read
      | inr past ↦
          let same : j ≡ i = omega arith in
          let both : Some x ≡ Some y = sym at ∙ (ap (slice_get xs) (sym same) ∙ read) in
          let one : x ≡ y = cc in
          subst P one here
    ]

-- where each entry's original is in the context, it keeps the rule on stray entries
pub stray_kept : (c : ContextData)
    → ((i : ℕ) (e : NameData × ℕ) → i < length c.entries → slice_get c.entries i ≡ Some e → has c (Original e.0) ≡ true) → HasNoStray c
stray_kept c each n g there =
    let range = has_generation c n g there in
    let at = entry_place c.entries n (omega (arith, range.0, range.1)) in
    each at.place (n, entry_in c.entries n) at.within at.at

-- an entry whose original the context hasn't breaks that rule
pub stray_broken : (c : ContextData) → AreEntries c.entries → (i : ℕ) (e : NameData × ℕ) → slice_get c.entries i ≡ Some e
    → has c (Original e.0) ≡ false → HasNoStray c → ⊥
stray_broken c are i e at lacks keeps =
    let here = entry_at c.entries are i e at in
    false≢true (sym lacks ∙ keeps e.0 1 (has_group c e.0 1 (omega arith) (omega (arith, here.least, here.entry))))
