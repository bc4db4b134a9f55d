-- How the places of a difference are gathered: number by number, site by site, and name by name.
use Rattle.std.proofs.Common.{◌≡◌, ℕ, zero, suc, ◌+◌, ◌-◌, ◌<◌, ◌≤◌, Bool, true, false, inl, inr, List, [], ◌∷◌, ◌++◌, refl, ap, sym, ◌∙◌, arith, length, take, take_all}
use Rattle.std.specs.Prelude.{◌==◌, ◌&&◌, ◌||◌, not, nat_le, nat_lt, Option, Some, None, slice_get, if◌then◌else◌}
use Rattle.std.proofs.lemmas.Bool.Decides.{nat_tests}
use Rattle.std.proofs.lemmas.Bool.{cases_Bool, false≢true, eqb-true, or_right, and_parts}
use Rattle.op_name.specs.NameData.{NameData, name_eq}
use Rattle.op_name.specs.declared.member.Member.{Member}
use Rattle.op_name.specs.declared.member.Member.TheVariants.{Original, Group}
use Rattle.op_name.specs.Members.{member_eq}
use Rattle.context_vector.specs.Contexts.{ContextData, AreCounts, AreEntries, Within, count_in, entry_in, count_of, entry_of, has}
use Rattle.context_diff.specs.Operations.{OpData, member_of}
use Rattle.context_diff.specs.Histories.{is_known, members_in, IsValid, IsValidAfter}
use Rattle.context_diff.specs.Code.Places.{times, passes_at, ArePlacesOf, is_between, is_group_between, is_missing, first_sites, first_names}
use Rattle.context_diff.proofs.Names.{member_same, member_itself, name_same, name_itself}
use Rattle.context_diff.proofs.Order.{known_end, later_new_after}
use Rattle.context_diff.proofs.Listings.{count_at, count_before, count_more, entry_at, entry_before, entry_more}
use Rattle.context_diff.proofs.Raising.{has_original, has_group, has_number, has_generation}

passes_is : (t : Member → Bool) (ms : List Member) (p : ℕ) (y : Member) → slice_get ms p ≡ Some y → passes_at t ms p ≡ t y
passes_is t [] p y at = let none : None ≡ Some y = at in cc
passes_is t (m ∷ ms) zero y at = let is : m ≡ y = cc in ap t is
passes_is t (m ∷ ms) (suc p) y at = passes_is t ms p y at

passes_none : (t : Member → Bool) (ms : List Member) (p : ℕ) → slice_get ms p ≡ None → passes_at t ms p ≡ false
passes_none t [] p at = refl
passes_none t (m ∷ ms) zero at = let none : Some m ≡ None = at in cc
passes_none t (m ∷ ms) (suc p) at = passes_none t ms p at

passes_same : (t u : Member → Bool) (ms : List Member) (p : ℕ) → ((y : Member) → t y ≡ u y) → passes_at t ms p ≡ passes_at u ms p
passes_same t u [] p same = refl
passes_same t u (m ∷ ms) zero same = same m
passes_same t u (m ∷ ms) (suc p) same = passes_same t u ms p same

-- tests that agree have the same places
pub places_same : (ms : List Member) (t u : Member → Bool) (ps : List ℕ) → ((y : Member) → t y ≡ u y) → ArePlacesOf ms t ps
    → ArePlacesOf ms u ps
places_same ms t u ps same are p = are p ∙ ap (λ b. if b then 1 else 0) (passes_same t u ms p same)

-- no places where nothing passes
pub places_nothing : (ms : List Member) (t : Member → Bool) → ((y : Member) → t y ≡ false) → ArePlacesOf ms t []
places_nothing ms t none p = ap (λ b. if b then 1 else 0) (sym (fails ms p))
  where
    fails : (ms : List Member) (p : ℕ) → passes_at t ms p ≡ false
    fails [] p = refl
    fails (m ∷ ms) zero = none m
    fails (m ∷ ms) (suc p) = fails ms p

-- what stands in a history is known
pub known_at : (h : List OpData) (p : ℕ) (m : Member) → slice_get (members_in h) p ≡ Some m → is_known h m ≡ true
known_at [] p m at = let none : None ≡ Some m = at in cc
known_at (o ∷ os) zero m at =
    let is : member_of o ≡ m = cc in ap (λ b. b || is_known os m) (ap (member_eq (member_of o)) (sym is) ∙ member_itself (member_of o))
known_at (o ∷ os) (suc p) m at = or_right (member_eq (member_of o) m) (is_known os m) (known_at os p m at)

places_once_after : (b os : List OpData) → IsValidAfter b os → (p q : ℕ) (m : Member) → slice_get (members_in os) p ≡ Some m
    → slice_get (members_in os) q ≡ Some m → p ≡ q
places_once_after b [] v p q m at bt = let none : None ≡ Some m = at in cc
places_once_after b (o ∷ os) v zero zero m at bt = refl
places_once_after b (o ∷ os) v zero (suc q) m at bt =
    let is : member_of o ≡ m = cc in
    absurd (false≢true (sym (later_new_after (b ++ o ∷ []) os m (ap (is_known (b ++ o ∷ [])) (sym is) ∙ known_end b o) v.1)
    ∙ known_at os q m bt))
places_once_after b (o ∷ os) v (suc p) zero m at bt =
    let is : member_of o ≡ m = cc in
    absurd (false≢true (sym (later_new_after (b ++ o ∷ []) os m (ap (is_known (b ++ o ∷ [])) (sym is) ∙ known_end b o) v.1)
    ∙ known_at os p m at))
places_once_after b (o ∷ os) v (suc p) (suc q) m at bt = ap suc (places_once_after (b ++ o ∷ []) os v.1 p q m at bt)

-- each member of a valid history stands at one place
pub places_once : (h : List OpData) → IsValid h → (p q : ℕ) (m : Member) → slice_get (members_in h) p ≡ Some m
    → slice_get (members_in h) q ≡ Some m → p ≡ q
places_once h v p q m at bt = places_once_after [] h v p q m at bt

times_push : (q : ℕ) (ps : List ℕ) (p : ℕ) → times q (ps ++ p ∷ []) ≡ times q ps + (if p == q then 1 else 0)
times_push q [] p = omega arith
times_push q (x ∷ xs) p = rw (times_push q xs p) (omega arith)

more_at : (h : List OpData) → IsValid h → (t : Member → Bool) (p : ℕ) (m : Member) → slice_get (members_in h) p ≡ Some m → t m ≡ false
    → (q : ℕ) (o : Option Member) → slice_get (members_in h) q ≡ o
    → (if passes_at t (members_in h) q then 1 else 0) + (if p == q then 1 else 0)
    ≡ (if passes_at (λ y. t y || member_eq m y) (members_in h) q then 1 else 0)
more_at h v t p m at outside q None bt =
    let apart : (p == q) ≡ false = elim (cases_Bool (p == q)) [
      | inl same ↦ let is : p ≡ q =
          eqb-true p q same in let clash : None ≡ Some m = sym bt ∙ (ap (slice_get (members_in h)) (sym is) ∙ at) in cc
      | inr other ↦ other
    ] in
    rw (passes_none t (members_in h) q bt, passes_none (λ y. t y || member_eq m y) (members_in h) q bt, apart) refl
more_at h v t p m at outside q (Some y) bt =
    let old = passes_is t (members_in h) q y bt in
    let new = passes_is (λ y. t y || member_eq m y) (members_in h) q y bt in
    elim (cases_Bool (member_eq m y)) [
      | inl same ↦
          let is : m ≡ y = member_same m y same in
          let one : p ≡ q = places_once h v p q m at (bt ∙ ap (λ (x : Member). Some x) (sym is)) in
          let here : (p == q) ≡ true = grind (arith, nat_tests) in
          let out : t y ≡ false = ap t (sym is) ∙ outside in
          rw (old, new, out, same, here) refl
      | inr other ↦
          let apart : (p == q) ≡ false = elim (cases_Bool (p == q)) [
            | inl e ↦
                let is : p ≡ q = eqb-true p q e in
                let both : Some m ≡ Some y = sym at ∙ (ap (slice_get (members_in h)) is ∙ bt) in
                let one : m ≡ y = cc in
                absurd (false≢true (sym other ∙ (ap (member_eq m) (sym one) ∙ member_itself m)))
            | inr e ↦ e
          ] in
          rw (old, new, other, apart) (or_plus (t y))
    ]
  where
    or_plus : (b : Bool) → ◌≡◌ {A = ℕ} ((if b then 1 else 0) + 0) (if b || false then 1 else 0)
    or_plus true = refl
    or_plus false = refl

-- one more member, at its place
pub place_more : (h : List OpData) → IsValid h → (t : Member → Bool) (ps : List ℕ) (p : ℕ) (m : Member)
    → slice_get (members_in h) p ≡ Some m → t m ≡ false → ArePlacesOf (members_in h) t ps
    → ArePlacesOf (members_in h) (λ y. t y || member_eq m y) (ps ++ p ∷ [])
place_more h v t ps p m at outside are q =
    times_push q ps p ∙ (ap (λ n. n + (if p == q then 1 else 0)) (are q) ∙ more_at h v t p m at outside q (slice_get (members_in h) q) refl)

-- with the next number one more original is between the bounds
pub between_more : (s low high : ℕ) → low ≤ high → (y : Member)
    → is_between s low (suc high) y ≡ (is_between s low high y || member_eq (Original (record { site = s; number = suc high })) y)
between_more s low high le (Original n) = grind (arith, nat_tests)
between_more s low high le (Group t g) = refl

pub group_between_more : (t : NameData) (low high : ℕ) → low ≤ high → (y : Member)
    → is_group_between t low (suc high) y ≡ (is_group_between t low high y || member_eq (Group t (suc high)) y)
group_between_more t low high le (Original n) = refl
group_between_more t low high le (Group n g) = grind (arith, nat_tests)

-- nothing is missing of no sites
pub no_sites_missing : (from to : ContextData) (y : Member) → is_missing from (first_sites to 0) y ≡ false
no_sites_missing from to (Original n) = grind (arith, nat_tests)
no_sites_missing from to (Group t g) = grind (arith, nat_tests)

-- the next site brings its numbers beyond those that are there
pub sites_more : (from to : ContextData) → AreCounts 0 to.counts → (i : ℕ) (p : ℕ × ℕ) → slice_get to.counts i ≡ Some p → (y : Member)
    → is_missing from (first_sites to (suc i)) y ≡ (is_missing from (first_sites to i) y || is_between p.0 (count_of from p.0) p.1 y)
sites_more from to are i p at (Original n) =
    let more = count_more 0 to.counts are i p at n.site in
    let before = count_before 0 to.counts are i p at in
    rw more (elim (cases_Bool (p.0 == n.site)) [
      | inl same ↦
          let is : p.0 ≡ n.site = eqb-true p.0 n.site same in
          let none : count_in (take i to.counts) n.site ≡ 0 = ap (count_in (take i to.counts)) (sym is) ∙ before in
          let counts : count_of from p.0 ≡ count_of from n.site = ap (count_of from) is in
          rw (same, none, counts) (grind (arith, nat_tests))
      | inr other ↦
          let back : (n.site == p.0) ≡ false = grind (arith, nat_tests) in
          rw (other, back) (grind (arith, nat_tests))
    ])
sites_more from to are i p at (Group t g) = grind (arith, nat_tests)

pub site_is_new : (from to : ContextData) → AreCounts 0 to.counts → (i : ℕ) (p : ℕ × ℕ) → slice_get to.counts i ≡ Some p → (y : Member)
    → is_between p.0 (count_of from p.0) p.1 y ≡ true → is_missing from (first_sites to i) y ≡ false
site_is_new from to are i p at (Original n) e =
    let before = count_before 0 to.counts are i p at in
    let parts = and_parts (n.site == p.0) (nat_lt (count_of from p.0) n.number && nat_le n.number p.1) e in
    let is : n.site ≡ p.0 = eqb-true n.site p.0 parts.0 in
    let none : count_in (take i to.counts) n.site ≡ 0 = ap (count_in (take i to.counts)) is ∙ before in
    rw none (grind (arith, nat_tests))
site_is_new from to are i p at (Group t g) e = absurd (false≢true e)

-- all sites and no names yet
pub sites_all : (from to : ContextData) (i : ℕ) → length to.counts ≤ i → (y : Member)
    → is_missing from (first_sites to i) y ≡ is_missing from (first_names to 0) y
sites_all from to i past y =
    ap (λ (ps : List (ℕ × ℕ)). is_missing from (record { counts = ps; entries = [] }) y) (take_all i to.counts past)

pub names_more : (from to : ContextData) → AreEntries to.entries → (i : ℕ) (e : NameData × ℕ) → slice_get to.entries i ≡ Some e
    → (y : Member)
    → is_missing from (first_names to (suc i)) y ≡ (is_missing from (first_names to i) y || is_group_between e.0 (entry_of from e.0) e.1 y)
names_more from to are i e at (Original n) = grind (arith, nat_tests)
names_more from to are i e at (Group n g) =
    let more = entry_more to.entries are i e at n in
    let before = entry_before to.entries are i e at in
    rw more (elim (cases_Bool (name_eq e.0 n)) [
      | inl same ↦
          let is : e.0 ≡ n = name_same e.0 n same in
          let none : entry_in (take i to.entries) n ≡ 0 = ap (entry_in (take i to.entries)) (sym is) ∙ before in
          let entries : entry_of from e.0 ≡ entry_of from n = ap (entry_of from) is in
          let back : name_eq n e.0 ≡ true = ap (name_eq n) is ∙ name_itself n in
          rw (same, none, entries, back) (grind (arith, nat_tests))
      | inr other ↦
          let back : name_eq n e.0 ≡ false = grind (arith, nat_tests) in
          rw (other, back) (grind (arith, nat_tests))
    ])

pub name_is_new : (from to : ContextData) → AreEntries to.entries → (i : ℕ) (e : NameData × ℕ) → slice_get to.entries i ≡ Some e
    → (y : Member) → is_group_between e.0 (entry_of from e.0) e.1 y ≡ true → is_missing from (first_names to i) y ≡ false
name_is_new from to are i e at (Original n) f = absurd (false≢true f)
name_is_new from to are i e at (Group n g) f =
    let before = entry_before to.entries are i e at in
    let parts = and_parts (name_eq n e.0) (nat_lt (entry_of from e.0) g && nat_le g e.1) f in
    let is : n ≡ e.0 = name_same n e.0 parts.0 in
    let none : entry_in (take i to.entries) n ≡ 0 = ap (entry_in (take i to.entries)) is ∙ before in
    rw none (grind (arith, nat_tests))

pub names_all : (from to : ContextData) (i : ℕ) → length to.entries ≤ i → (y : Member)
    → is_missing from (first_names to i) y ≡ is_missing from to y
names_all from to i past y =
    ap (λ (es : List (NameData × ℕ)). is_missing from (record { counts = to.counts; entries = es }) y) (take_all i to.entries past)

-- where both undo the same, no group is missing
pub no_names_missing : (from to : ContextData) → from.entries ≡ to.entries → (y : Member)
    → is_missing from (first_names to 0) y ≡ is_missing from to y
no_names_missing from to same (Original n) = refl
no_names_missing from to same (Group n g) =
    let one : entry_of to n ≡ entry_of from n = ap (λ (es : List (NameData × ℕ)). entry_in es n) (sym same) in
    rw one (grind (arith, nat_tests))

-- a site or a name of which more is there than the other context has
pub site_is_short : (from to : ContextData) → AreCounts 0 to.counts → (i : ℕ) (p : ℕ × ℕ) → slice_get to.counts i ≡ Some p
    → count_of from p.0 < p.1 → ¬ Within to from
site_is_short from to are i p at less within =
    let n : NameData = record { site = p.0; number = p.1 } in
    let there = has_original to n (omega arith) (omega (arith, (count_at 0 to.counts are i p at).count)) in
    let counted = has_number from n (within (Original n) there) in
    omega (arith, counted.1)

pub name_is_short : (from to : ContextData) → AreEntries to.entries → (i : ℕ) (e : NameData × ℕ) → slice_get to.entries i ≡ Some e
    → entry_of from e.0 < e.1 → ¬ Within to from
name_is_short from to are i e at less within =
    let there = has_group to e.0 e.1 (omega arith) (omega (arith, (entry_at to.entries are i e at).entry)) in
    let entered = has_generation from e.0 e.1 (within (Group e.0 e.1) there) in
    omega (arith, entered.1)

passes_somewhere : (t : Member → Bool) (ms : List Member) (p : ℕ) → passes_at t ms p ≡ true → (y : Member) × (t y ≡ true)
passes_somewhere t [] p e = absurd (false≢true e)
passes_somewhere t (m ∷ ms) zero e = (m, e)
passes_somewhere t (m ∷ ms) (suc p) e = passes_somewhere t ms p e

one_passes : (t : Member → Bool) (ms : List Member) (p n : ℕ) → 1 + n ≡ (if passes_at t ms p then 1 else 0) → (y : Member) × (t y ≡ true)
one_passes t ms p n one =
    elim (cases_Bool (passes_at t ms p)) [
      | inl passes ↦ passes_somewhere t ms p passes
      | inr fails ↦ absurd (omega (arith, one ∙ ap (λ b. if b then 1 else 0) fails))
    ]

-- where something is missing, the one context isn't within the other
pub places_missing : (ms : List Member) (from to : ContextData) (ps : List ℕ) → ArePlacesOf ms (is_missing from to) ps → 0 < length ps
    → ¬ Within to from
places_missing ms from to [] are some within = omega arith
places_missing ms from to (p ∷ ps) are some within =
    let here : (p == p) ≡ true = grind (arith, nat_tests) in
    let one = one_passes (is_missing from to) ms p (times p ps) (ap (λ b. (if b then 1 else 0) + times p ps) (sym here) ∙ are p) in
    let parts = and_parts (has to one.0) (not (has from one.0)) one.1 in
    absurd (false≢true (ap not (sym (within one.0 parts.0)) ∙ parts.1))

and_or : (b c d e : Bool) → (c || d) ≡ e → ((b || c) || d) ≡ (b || e)
and_or true c d e is = refl
and_or false c d e is = is

-- one more number
pub between_step : (h : List OpData) → IsValid h → (t : Member → Bool) (s low high step : ℕ) (ps : List ℕ) (p : ℕ)
    → slice_get (members_in h) p ≡ Some (Original (record { site = s; number = (low + step) + 1 })) → step < high - low
    → ((y : Member) → is_between s low high y ≡ true → t y ≡ false)
    → ArePlacesOf (members_in h) (λ y. t y || is_between s low (low + step) y) ps
    → ArePlacesOf (members_in h) (λ y. t y || is_between s low (low + (step + 1)) y) (ps ++ p ∷ [])
between_step h v t s low high step ps p at less apart are =
    let m = Original (record { site = s; number = (low + step) + 1 }) in
    let inside : is_between s low high m ≡ true = grind (arith, nat_tests) in
    let outside : is_between s low (low + step) m ≡ false = grind (arith, nat_tests) in
    let fresh : (t m || is_between s low (low + step) m) ≡ false = (λ i. apart m inside i || outside i) in
    let next : (low + step) + 1 ≡ suc (low + step) = omega arith in
    let far : suc (low + step) ≡ low + (step + 1) = omega arith in
    let same : (y : Member) → ((t y || is_between s low (low + step) y) || member_eq m y) ≡ (t y || is_between s low (low + (step + 1)) y) =
    λ y.
    and_or (t y) (is_between s low (low + step) y) (member_eq m y) (is_between s low (low + (step + 1)) y)
    (ap (λ k. is_between s low (low + step) y || member_eq (Original (record { site = s; number = k })) y) next
    ∙ (sym (between_more s low (low + step) (omega arith) y) ∙ ap (λ k. is_between s low k y) far)) in
    places_same (members_in h) (λ y. (t y || is_between s low (low + step) y) || member_eq m y)
    (λ y. t y || is_between s low (low + (step + 1)) y) (ps ++ p ∷ []) same
    (place_more h v (λ y. t y || is_between s low (low + step) y) ps p m at fresh are)

-- all numbers
pub between_end : (ms : List Member) (t : Member → Bool) (s low high step : ℕ) (ps : List ℕ) → high - low ≤ step → step ≤ high - low
    → ArePlacesOf ms (λ y. t y || is_between s low (low + step) y) ps → ArePlacesOf ms (λ y. t y || is_between s low high y) ps
between_end ms t s low high step ps most least are =
    places_same ms (λ y. t y || is_between s low (low + step) y) (λ y. t y || is_between s low high y) ps (λ y. ap (λ b. t y || b) (same y))
    are
  where
    same : (y : Member) → is_between s low (low + step) y ≡ is_between s low high y
    same (Original n) = grind (arith, nat_tests)
    same (Group x g) = refl

pub groups_step : (h : List OpData) → IsValid h → (t : Member → Bool) (n : NameData) (low high step : ℕ) (ps : List ℕ) (p : ℕ)
    → slice_get (members_in h) p ≡ Some (Group n ((low + step) + 1)) → step < high - low
    → ((y : Member) → is_group_between n low high y ≡ true → t y ≡ false)
    → ArePlacesOf (members_in h) (λ y. t y || is_group_between n low (low + step) y) ps
    → ArePlacesOf (members_in h) (λ y. t y || is_group_between n low (low + (step + 1)) y) (ps ++ p ∷ [])
groups_step h v t n low high step ps p at less apart are =
    let m = Group n ((low + step) + 1) in
    let inside : is_group_between n low high m ≡ true = grind (arith, nat_tests) in
    let outside : is_group_between n low (low + step) m ≡ false = grind (arith, nat_tests) in
    let fresh : (t m || is_group_between n low (low + step) m) ≡ false = (λ i. apart m inside i || outside i) in
    let next : (low + step) + 1 ≡ suc (low + step) = omega arith in
    let far : suc (low + step) ≡ low + (step + 1) = omega arith in
    let same : (y : Member) → ((t y || is_group_between n low (low + step) y) || member_eq m y)
    ≡ (t y || is_group_between n low (low + (step + 1)) y) = λ y.
    and_or (t y) (is_group_between n low (low + step) y) (member_eq m y) (is_group_between n low (low + (step + 1)) y)
    (ap (λ k. is_group_between n low (low + step) y || member_eq (Group n k) y) next
    ∙ (sym (group_between_more n low (low + step) (omega arith) y) ∙ ap (λ k. is_group_between n low k y) far)) in
    places_same (members_in h) (λ y. (t y || is_group_between n low (low + step) y) || member_eq m y)
    (λ y. t y || is_group_between n low (low + (step + 1)) y) (ps ++ p ∷ []) same
    (place_more h v (λ y. t y || is_group_between n low (low + step) y) ps p m at fresh are)

pub groups_end : (ms : List Member) (t : Member → Bool) (n : NameData) (low high step : ℕ) (ps : List ℕ) → high - low ≤ step
    → step ≤ high - low → ArePlacesOf ms (λ y. t y || is_group_between n low (low + step) y) ps
    → ArePlacesOf ms (λ y. t y || is_group_between n low high y) ps
groups_end ms t n low high step ps most least are =
    places_same ms (λ y. t y || is_group_between n low (low + step) y) (λ y. t y || is_group_between n low high y) ps
    (λ y. ap (λ b. t y || b) (same y)) are
  where
    same : (y : Member) → is_group_between n low (low + step) y ≡ is_group_between n low high y
    same (Original x) = refl
    same (Group x g) = grind (arith, nat_tests)
