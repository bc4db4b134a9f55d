-- Contexts as sets: what a member tells of counts and generations, sets within sets, equal sets, and the number of originals.
use Rattle.std.proofs.Common.{◌≡◌, ℕ, ◌+◌, ◌<◌, ◌≤◌, ◌≢◌, Bool, true, false, List, [], ◌∷◌, refl, sym, ap, subst, ◌∙◌, inl, inr, Some, None, arith}
use Rattle.std.specs.Prelude.{nat_le, ◌&&◌, nat_lt}
use Rattle.std.proofs.lemmas.Bool.{cases_lt, cases_order, eq-eqb, ne_eqb, lt-ltb, le-ltb}
use Rattle.std.proofs.lemmas.Bool.Decides.{nat_tests}
use mathlib.Core.Bool.{false≢true}
use Rattle.op_name.specs.declared.member.Member.{Member}
use Rattle.op_name.specs.declared.member.Member.TheVariants.{Original, Group}
use Rattle.op_name.specs.NameData.{NameData, IsName, name_eq, name_lt}
use Rattle.op_name.specs.Members.{member_lt}
use Rattle.context_vector.specs.Contexts.{ContextData, empty, count_in, entry_in, count_of, entry_of, has, raised, put_count, Within, sum_of_counts, rank_of, AreCounts, IsContext}
use Rattle.op_name.proofs.CallerLemmas.{number_order, name_order, cases_by_order}
use Rattle.context_vector.specs.Vectors.{IsFirstMissing}
use Rattle.context_vector.specs.Shortfalls.{first_short}
use Rattle.context_vector.proofs.Keyed.{value_at, same_values, none_short, some_short, IsFirstShort}
use Rattle.context_vector.proofs.Counts.{same_site, count_is, counts_rise, counted_below, count_at_most}
use Rattle.context_vector.proofs.Entries.{entry_is, entries_rise}
use Rattle.context_vector.proofs.Members.{among}

-- the k-th original of a site, and the group of a name at a generation
abbrev pub original : ℕ → ℕ → Member
original s k = Original (record { site = s; number = k })

among_from : (k v : ℕ) → 1 ≤ k → k ≤ v → among v k ≡ true
among_from k v least le = grind (arith, nat_tests)

among_to : (k v : ℕ) → among v k ≡ true → (1 ≤ k) × (k ≤ v)
among_to k v there = (grind (arith, nat_tests), grind (arith, nat_tests))

not_among : (k v : ℕ) → v < k → among v k ≡ false
not_among k v less = grind (arith, nat_tests)

not_among_to : (k v : ℕ) → among v k ≡ false → 1 ≤ k → v < k
not_among_to k v lacks least = grind (arith, nat_tests)

-- an original is in a context exactly where its number is 1 to the count of its site, a group likewise
pub has_original : (c : ContextData) (n : NameData) → 1 ≤ n.number → n.number ≤ count_of c n.site → has c (Original n) ≡ true
has_original c n least le = among_from n.number (count_of c n.site) least le

pub original_counted : (c : ContextData) (n : NameData) → has c (Original n) ≡ true → (1 ≤ n.number) × (n.number ≤ count_of c n.site)
original_counted c n there = among_to n.number (count_of c n.site) there

pub has_group : (c : ContextData) (n : NameData) (g : ℕ) → 1 ≤ g → g ≤ entry_of c n → has c (Group n g) ≡ true
has_group c n g least le = among_from g (entry_of c n) least le

pub group_entered : (c : ContextData) (n : NameData) (g : ℕ) → has c (Group n g) ≡ true → (1 ≤ g) × (g ≤ entry_of c n)
group_entered c n g there = among_to g (entry_of c n) there

-- one context is within another exactly where no count and no generation is greater
pub within_counts : (c d : ContextData) → Within c d → (s : ℕ) → count_of c s ≤ count_of d s
within_counts c d within s =
    elim (cases_lt 0 (count_of c s)) [
      | inl some ↦ let there =
          among_to (count_of c s) (count_of d s)
          (within (original s (count_of c s)) (among_from (count_of c s) (count_of c s) some (omega arith))) in there.1
      | inr none ↦ omega arith
    ]

pub within_entries : (c d : ContextData) → Within c d → (n : NameData) → entry_of c n ≤ entry_of d n
within_entries c d within n =
    elim (cases_lt 0 (entry_of c n)) [
      | inl some ↦ let there =
          among_to (entry_of c n) (entry_of d n)
          (within (Group n (entry_of c n)) (among_from (entry_of c n) (entry_of c n) some (omega arith))) in there.1
      | inr none ↦ omega arith
    ]

pub within_from : (c d : ContextData) → ((s : ℕ) → count_of c s ≤ count_of d s) → ((n : NameData) → entry_of c n ≤ entry_of d n)
    → Within c d
within_from c d counts entries (Original n) there =
    let at = among_to n.number (count_of c n.site) there in
    among_from n.number (count_of d n.site) at.0 (omega (arith, at.1, counts n.site))
within_from c d counts entries (Group n g) there =
    let at = among_to g (entry_of c n) there in among_from g (entry_of d n) at.0 (omega (arith, at.1, entries n))

-- contexts that have the same members are equal
within_from_same : (c d : ContextData) → ((m : Member) → has c m ≡ has d m) → Within c d
within_from_same c d same m there = sym (same m) ∙ there

pub same_context : (c d : ContextData) → IsContext c → IsContext d → ((m : Member) → has c m ≡ has d m) → c ≡ d
same_context c d is is' same =
    let there = within_from_same c d same in
    let back = within_from_same d c (λ m. sym (same m)) in
    let counts : c.counts ≡ d.counts =
    same_values same_site nat_lt number_order c.counts d.counts (counts_rise 0 c.counts is.counts) (counts_rise 0 d.counts is'.counts)
    (λ s. sym (count_is c.counts s)
    ∙ (both (count_of c s) (count_of d s) (within_counts c d there s) (within_counts d c back s) ∙ count_is d.counts s)) in
    let entries : c.entries ≡ d.entries =
    same_values name_eq name_lt name_order c.entries d.entries (entries_rise c.entries is.entries) (entries_rise d.entries is'.entries)
    (λ n. sym (entry_is c.entries n)
    ∙ (both (entry_of c n) (entry_of d n) (within_entries c d there n) (within_entries d c back n) ∙ entry_is d.entries n)) in
    λ i. record { counts = counts i; entries = entries i }
  where
    both : (a b : ℕ) → a ≤ b → b ≤ a → a ≡ b
    both a b p q = omega arith

-- sums of counts, where no count is greater
pub none_counted : (low s : ℕ) (ps : List (ℕ × ℕ)) → s < low → AreCounts low ps → count_in ps s ≡ 0
none_counted low s [] less are = refl
none_counted low s (p ∷ ps) less are = rw (ne_eqb p.0 s (omega (arith, are.0))) (none_counted (p.0 + 1) s ps (omega (arith, are.0)) are.4)

first_counted : (p : ℕ × ℕ) (ps : List (ℕ × ℕ)) → count_in (p ∷ ps) p.0 ≡ p.1
first_counted p ps = rw (eq-eqb p.0 p.0 refl) refl

past_first : (p : ℕ × ℕ) (ps : List (ℕ × ℕ)) (s : ℕ) → p.0 ≢ s → count_in (p ∷ ps) s ≡ count_in ps s
past_first p ps s other = rw (ne_eqb p.0 s other) refl

-- no count of the first list is above that of the second
abbrev NoneAbove : List (ℕ × ℕ) → List (ℕ × ℕ) → Type 0
NoneAbove ps qs = (s : ℕ) → count_in ps s ≤ count_in qs s

-- the tails, where both lists start with one site
tails_below : (p q : ℕ × ℕ) (ps qs : List (ℕ × ℕ)) → AreCounts (p.0 + 1) ps → p.0 ≡ q.0 → NoneAbove (p ∷ ps) (q ∷ qs) → NoneAbove ps qs
tails_below p q ps qs are one below s =
    elim (cases_order p.0 s) [
      | inl same ↦ omega (arith, none_counted (p.0 + 1) s ps (omega arith) are)
      | inr other ↦ omega (arith, below s, past_first p ps s (omega arith), past_first q qs s (omega arith))
    ]

-- the second list's tail, where it starts with a lesser site
rest_below : (low : ℕ) (q : ℕ × ℕ) (ps qs : List (ℕ × ℕ)) → AreCounts low ps → q.0 < low → NoneAbove ps (q ∷ qs) → NoneAbove ps qs
rest_below low q ps qs are less below s =
    elim (cases_order q.0 s) [
      | inl same ↦ omega (arith, none_counted low s ps (omega arith) are)
      | inr other ↦ omega (arith, below s, past_first q qs s (omega arith))
    ]

-- the first site of the one list is not below that of the other
not_first : (p q : ℕ × ℕ) (ps qs : List (ℕ × ℕ)) (low low' : ℕ) → AreCounts low (p ∷ ps) → AreCounts low' (q ∷ qs)
    → NoneAbove (p ∷ ps) (q ∷ qs) → q.0 ≤ p.0
not_first p q ps qs low low' are are' below =
    elim (cases_lt p.0 q.0) [
      | inl less ↦ absurd (omega (
        arith,
        are.2,
        below p.0,
        first_counted p ps,
        none_counted q.0 p.0 (q ∷ qs) less (omega arith, are'.1, are'.2, are'.3, are'.4),
      ))
      | inr le ↦ le
    ]

pub sums_below : (qs ps : List (ℕ × ℕ)) (low low' : ℕ) → AreCounts low ps → AreCounts low' qs → NoneAbove ps qs
    → sum_of_counts ps ≤ sum_of_counts qs
sums_below qs [] low low' are are' below = omega arith
sums_below [] (p ∷ ps) low low' are are' below = absurd (omega (arith, are.2, below p.0, first_counted p ps))
sums_below (q ∷ qs) (p ∷ ps) low low' are are' below =
    let order = not_first p q ps qs low low' are are' below in
    elim (cases_lt q.0 p.0) [
      | inl less ↦
          let from : AreCounts p.0 (p ∷ ps) = (omega arith, are.1, are.2, are.3, are.4) in
          omega (arith, sums_below qs (p ∷ ps) p.0 (q.0 + 1) from are'.4 (rest_below p.0 q (p ∷ ps) qs from less below))
      | inr le ↦
          let one : p.0 ≡ q.0 = omega (arith, order) in
          omega (
            arith,
            sums_below qs ps (p.0 + 1) (q.0 + 1) are.4 are'.4 (tails_below p q ps qs are.4 one below),
            first_counted p ps,
            subst (λ s. count_in (q ∷ qs) s ≡ q.1) (sym one) (first_counted q qs),
            below p.0,
          )
    ]

pub sums_less : (qs ps : List (ℕ × ℕ)) (low low' : ℕ) → AreCounts low ps → AreCounts low' qs → NoneAbove ps qs → (r : ℕ)
    → count_in ps r < count_in qs r → sum_of_counts ps < sum_of_counts qs
sums_less [] [] low low' are are' below r less = absurd (omega arith)
sums_less (q ∷ qs) [] low low' are are' below r less = omega (arith, are'.2)
sums_less [] (p ∷ ps) low low' are are' below r less = absurd (omega (arith, are.2, below p.0, first_counted p ps))
sums_less (q ∷ qs) (p ∷ ps) low low' are are' below r less =
    let order = not_first p q ps qs low low' are are' below in
    elim (cases_lt q.0 p.0) [
      | inl before ↦
          let from : AreCounts p.0 (p ∷ ps) = (omega arith, are.1, are.2, are.3, are.4) in
          omega (arith, are'.2, sums_below qs (p ∷ ps) p.0 (q.0 + 1) from are'.4 (rest_below p.0 q (p ∷ ps) qs from before below))
      | inr le ↦
          let one : p.0 ≡ q.0 = omega (arith, order) in
          let tails = tails_below p q ps qs are.4 one below in
          let first : count_in (q ∷ qs) p.0 ≡ q.1 = subst (λ s. count_in (q ∷ qs) s ≡ q.1) (sym one) (first_counted q qs) in
          elim (cases_order p.0 r) [
            | inl here ↦
                let greater : p.1 < q.1 =
                omega (arith, first, first_counted p ps, subst (λ s. count_in (p ∷ ps) s < count_in (q ∷ qs) s) (sym here) less) in
                omega (arith, greater, sums_below qs ps (p.0 + 1) (q.0 + 1) are.4 are'.4 tails)
            | inr other ↦
                let later : count_in ps r < count_in qs r =
                omega (arith, less, past_first p ps r (omega arith), past_first q qs r (omega arith)) in
                omega (arith, first, first_counted p ps, below p.0, sums_less qs ps (p.0 + 1) (q.0 + 1) are.4 are'.4 tails r later)
          ]
    ]

-- a context within another that lacks one of its originals has fewer
pub rank_less : (c d : ContextData) → IsContext c → IsContext d → Within c d → (n : NameData) → has d (Original n) ≡ true
    → has c (Original n) ≡ false → rank_of c < rank_of d
rank_less c d is is' within n there lacks =
    let at = original_counted d n there in
    sums_less d.counts c.counts 0 0 is.counts is'.counts (within_counts c d within) n.site
    (omega (arith, at.1, not_among_to n.number (count_of c n.site) lacks at.0))

and_false : (x : Bool) → (x && false) ≡ false
and_false true = refl
and_false false = refl

-- the walks over counts and entries find the first member that is missing
pub short_original : (c d : ContextData) → IsContext d → (q : ℕ × ℕ) → first_short (count_in c.counts) d.counts ≡ Some q
    → (IsFirstMissing c d (original q.0 q.1)) × IsName q.0 q.1
short_original c d is q found =
    let short = some_short same_site nat_lt number_order (count_in c.counts) d.counts (counts_rise 0 d.counts is.counts) q found in
    let count : value_at same_site nat_lt d.counts q.0 ≡ count_of d q.0 = sym (count_is d.counts q.0) in
    let le : q.1 ≤ count_of d q.0 = omega (arith, short.least, short.short, count) in (
      record {
        there = among_from q.1 (count_of d q.0) (omega (arith, short.least)) le;
        lacking = not_among q.1 (count_of c q.0) (omega (arith, short.least));
        first = first_original c d q short;
      },
      (
        counted_below 0 d.counts q.0 is.counts (omega (arith, le, short.least)),
        omega (arith, short.least),
        omega (arith, le, count_at_most 0 d.counts q.0 is.counts),
      ),
    )
  where
    first_original : (c d : ContextData) (q : ℕ × ℕ) → IsFirstShort same_site nat_lt number_order (count_in c.counts) d.counts q
        → (y : Member) → has d y ≡ true → has c y ≡ false → member_lt y (original q.0 q.1) ≡ false
    first_original c d q short (Group n g) there lacks = refl
    first_original c d q short (Original n) there lacks =
        let at = among_to n.number (count_of d n.site) there in
        let above : count_of c n.site < n.number = not_among_to n.number (count_of c n.site) lacks at.0 in
        let not_before : q.0 ≤ n.site = elim (cases_lt n.site q.0) [
          | inl less ↦ absurd (omega (arith, at.1, above, count_is d.counts n.site, short.first n.site (lt-ltb n.site q.0 less)))
          | inr le ↦ le
        ] in
        elim (cases_order n.site q.0) [
          | inl same ↦
              let more : q.1 ≤ n.number = omega (arith, short.least, subst (λ s. count_of c s < n.number) same above) in
              rw (le-ltb n.site q.0 not_before, le-ltb n.number q.1 more) (and_false _)
          | inr other ↦ rw (le-ltb n.site q.0 not_before, ne_eqb n.site q.0 (omega arith)) refl
        ]

pub short_group : (c d : ContextData) → IsContext d → first_short (count_in c.counts) d.counts ≡ None → (q : NameData × ℕ)
    → first_short (entry_in c.entries) d.entries ≡ Some q → (IsFirstMissing c d (Group q.0 q.1)) × (1 ≤ q.1)
short_group c d is none q found =
    let short = some_short name_eq name_lt name_order (entry_in c.entries) d.entries (entries_rise d.entries is.entries) q found in
    let entry : value_at name_eq name_lt d.entries q.0 ≡ entry_of d q.0 = sym (entry_is d.entries q.0) in
    let le : q.1 ≤ entry_of d q.0 = omega (arith, short.least, short.short, entry) in (
      record {
        there = among_from q.1 (entry_of d q.0) (omega (arith, short.least)) le;
        lacking = not_among q.1 (entry_of c q.0) (omega (arith, short.least));
        first = first_group c d q none short;
      },
      omega (arith, short.least),
    )
  where
    first_group : (c d : ContextData) (q : NameData × ℕ) → first_short (count_in c.counts) d.counts ≡ None
        → IsFirstShort name_eq name_lt name_order (entry_in c.entries) d.entries q → (y : Member) → has d y ≡ true → has c y ≡ false
        → member_lt y (Group q.0 q.1) ≡ false
    first_group c d q none short (Original n) there lacks =
        let at = among_to n.number (count_of d n.site) there in
        absurd (omega (
          arith,
          at.1,
          not_among_to n.number (count_of c n.site) lacks at.0,
          count_is d.counts n.site,
          none_short same_site nat_lt number_order (count_in c.counts) d.counts none n.site,
        ))
    first_group c d q none short (Group n g) there lacks =
        let at = among_to g (entry_of d n) there in
        let above : entry_of c n < g = not_among_to g (entry_of c n) lacks at.0 in
        let not_before : name_lt n q.0 ≡ true → ⊥ = λ less. omega (arith, at.1, above, entry_is d.entries n, short.first n less) in
        cases_by_order name_eq name_lt name_order n q.0 _
        (λ is e e' l l'.
        let more : q.1 ≤ g = omega (arith, short.least, subst (λ x. entry_of c x < g) is above) in
        rw (l, e, le-ltb g q.1 more) refl)
        (λ e e' l l'. absurd (not_before l))
        (λ e e' l l'. rw (l, e) refl)

pub none_missing : (c d : ContextData) → first_short (count_in c.counts) d.counts ≡ None → first_short (entry_in c.entries) d.entries ≡ None
    → Within d c
none_missing c d counts entries =
    within_from d c
    (λ s. omega (arith, count_is d.counts s, none_short same_site nat_lt number_order (count_in c.counts) d.counts counts s))
    (λ n. omega (arith, entry_is d.entries n, none_short name_eq name_lt name_order (entry_in c.entries) d.entries entries n))

-- a context with the same entries lacks no group
pub no_group_missing : (c d : ContextData) → first_short (count_in c.counts) d.counts ≡ None → c.entries ≡ d.entries → Within d c
no_group_missing c d counts same =
    within_from d c
    (λ s. omega (arith, count_is d.counts s, none_short same_site nat_lt number_order (count_in c.counts) d.counts counts s))
    (λ n. let one : entry_of d n ≡ entry_of c n = ap (λ es. entry_in es n) (sym same) in omega (arith, one))

-- a context that lacks a member of another doesn't cover it
pub missing_not_within : (c d : ContextData) (m : Member) → IsFirstMissing c d m → Within d c → ⊥
missing_not_within c d m missing within = false≢true (sym missing.lacking ∙ within m missing.there)

-- the empty context has no member
pub has_empty : (m : Member) → has empty m ≡ false
has_empty (Original n) = grind (arith, nat_tests)
has_empty (Group n g) = grind (arith, nat_tests)

-- an added original is one more, and an added group none
sum_put : (low s k : ℕ) (ps : List (ℕ × ℕ)) → AreCounts low ps → sum_of_counts (put_count s k ps) + count_in ps s ≡ sum_of_counts ps + k
sum_put low s k [] are = omega arith
sum_put low s k (p ∷ ps) are =
    elim (cases_order p.0 s) [
      | inl one ↦ rw (eq-eqb p.0 s one) (omega arith)
      | inr (inl less) ↦ rw (ne_eqb p.0 s (omega arith), not_le s p.0 less) (omega (arith, sum_put (p.0 + 1) s k ps are.4))
      | inr (inr more) ↦
          let none = none_counted (p.0 + 1) s ps (omega arith) are.4 in
          rw (ne_eqb p.0 s (omega arith), is_le s p.0 more) (omega (arith, none))
    ]
  where
    not_le : (a b : ℕ) → b < a → nat_le a b ≡ false
    not_le a b less = grind (arith, nat_tests)

    is_le : (a b : ℕ) → a < b → nat_le a b ≡ true
    is_le a b less = grind (arith, nat_tests)

pub rank_raised : (c : ContextData) (n : NameData) → IsContext c → n.number ≡ count_of c n.site + 1
    → rank_of (raised c (Original n)) ≡ rank_of c + 1
rank_raised c n is next = omega (arith, next, sum_put 0 n.site n.number c.counts is.counts)
