-- The members of a context after each change of it, by the count of a site and the greatest generation of a name.
use Rattle.std.proofs.Common.{◌≡◌, ℕ, ◌+◌, ◌-◌, ◌≤◌, Bool, true, false, not, List, if◌then◌else◌, refl, sym, ap, subst, ◌∙◌, inl, inr, arith}
use Rattle.std.specs.Prelude.{◌==◌, ◌&&◌, ◌||◌, nat_lt, nat_le}
use Rattle.std.proofs.lemmas.Bool.{cases_order, eq-eqb, ne_eqb}
use Rattle.std.proofs.lemmas.Bool.Decides.{nat_tests}
use Rattle.op_name.specs.declared.name.TheConstants.{NUMBERS}
use Rattle.op_name.specs.declared.member.TheConstants.{GENERATIONS}
use Rattle.op_name.specs.declared.member.Member.{Member}
use Rattle.op_name.specs.declared.member.Member.TheVariants.{Original, Group}
use Rattle.op_name.specs.NameData.{NameData, IsName, name_eq, name_lt}
use Rattle.op_name.specs.Members.{IsMember, target_of, member_eq}
use Rattle.context_vector.specs.Contexts.{ContextData, count_in, entry_in, count_of, entry_of, has, put_count, put_entry, AreCounts, AreEntries, IsContext, raised, IsNextMember}
use Rattle.op_name.proofs.CallerLemmas.{number_order, name_order, name_same}
use Rattle.context_vector.specs.Vectors.{without_site, without_name, lower_count, lower_entry, lowered, IsLastMember, up_to}
use Rattle.context_vector.proofs.Keyed.{value_at, value_put, value_take_out}
use Rattle.context_vector.proofs.Counts.{same_site, count_is, put_count_is, without_site_is, counts_rise, counts_put, counts_lower}
use Rattle.context_vector.proofs.Entries.{entry_is, put_entry_is, without_name_is, entries_rise, entries_put, entries_lower}

-- a put sets the count of its site alone, and the generation of its name alone
pub count_put : (s k : ℕ) (ps : List (ℕ × ℕ)) (t : ℕ) → count_in (put_count s k ps) t ≡ (if s == t then k else count_in ps t)
count_put s k ps t =
    count_is (put_count s k ps) t
    ∙ ap (λ qs. value_at same_site nat_lt qs t) (put_count_is s k ps)
    ∙ value_put same_site nat_lt number_order s k ps t
    ∙ ap (λ v. if s == t then k else v) (sym (count_is ps t))

pub entry_put : (n : NameData) (g : ℕ) (es : List (NameData × ℕ)) (m : NameData)
    → entry_in (put_entry n g es) m ≡ (if name_eq n m then g else entry_in es m)
entry_put n g es m =
    entry_is (put_entry n g es) m
    ∙ ap (λ qs. value_at name_eq name_lt qs m) (put_entry_is n g es)
    ∙ value_put name_eq name_lt name_order n g es m
    ∙ ap (λ v. if name_eq n m then g else v) (sym (entry_is es m))

pub count_without : (s : ℕ) (ps : List (ℕ × ℕ)) → AreCounts 0 ps → (t : ℕ)
    → count_in (without_site s ps) t ≡ (if s == t then 0 else count_in ps t)
count_without s ps are t =
    count_is (without_site s ps) t
    ∙ ap (λ qs. value_at same_site nat_lt qs t) (without_site_is s ps)
    ∙ value_take_out same_site nat_lt number_order s ps (counts_rise 0 ps are) t
    ∙ ap (λ v. if s == t then 0 else v) (sym (count_is ps t))

pub entry_without : (n : NameData) (es : List (NameData × ℕ)) → AreEntries es → (m : NameData)
    → entry_in (without_name n es) m ≡ (if name_eq n m then 0 else entry_in es m)
entry_without n es are m =
    entry_is (without_name n es) m
    ∙ ap (λ qs. value_at name_eq name_lt qs m) (without_name_is n es)
    ∙ value_take_out name_eq name_lt name_order n es (entries_rise es are) m
    ∙ ap (λ v. if name_eq n m then 0 else v) (sym (entry_is es m))

pub count_lower : (s k : ℕ) (ps : List (ℕ × ℕ)) → AreCounts 0 ps → 1 ≤ k → (t : ℕ)
    → count_in (lower_count s k ps) t ≡ (if s == t then k - 1 else count_in ps t)
count_lower s k ps are least t =
    elim (cases_order k 1) [
      | inl one ↦ rw (eq-eqb k 1 one)
          (count_without s ps are t ∙ ap (λ v. if s == t then v else count_in ps t) (let none : 0 ≡ k - 1 = omega arith in none))
      | inr other ↦ rw (ne_eqb k 1 (omega arith)) (count_put s (k - 1) ps t)
    ]

pub entry_lower : (n : NameData) (g : ℕ) (es : List (NameData × ℕ)) → AreEntries es → 1 ≤ g → (m : NameData)
    → entry_in (lower_entry n g es) m ≡ (if name_eq n m then g - 1 else entry_in es m)
entry_lower n g es are least m =
    elim (cases_order g 1) [
      | inl one ↦ rw (eq-eqb g 1 one)
          (entry_without n es are m ∙ ap (λ v. if name_eq n m then v else entry_in es m) (let none : 0 ≡ g - 1 = omega arith in none))
      | inr other ↦ rw (ne_eqb g 1 (omega arith)) (entry_put n (g - 1) es m)
    ]

-- whether a number is among the first v
abbrev pub among : ℕ → ℕ → Bool
among v j = nat_le 1 j && nat_le j v

among_next : (j v k : ℕ) → k ≡ v + 1 → among k j ≡ (among v j || (k == j))
among_next j v k is = grind (arith, nat_tests)

among_less : (j v k : ℕ) → v ≤ k → among k j ≡ (among v j || among k j)
among_less j v k le = grind (arith, nat_tests)

among_last : (j v k : ℕ) → k ≡ v → among (k - 1) j ≡ (among v j && not (k == j))
among_last j v k is = grind (arith, nat_tests)

or_false : (x : Bool) → x ≡ (x || false)
or_false true = refl
or_false false = refl

and_true : (x : Bool) → x ≡ (x && not false)
and_true true = refl
and_true false = refl

-- a fact of a value that a test chooses, from the fact of each
chosen : (t : Bool) (v k : ℕ) (P : Bool → ℕ → Type 0) → (t ≡ true → P true k) → (t ≡ false → P false v) → P t (if t then k else v)
chosen true v k P at_true at_false = at_true refl
chosen false v k P at_true at_false = at_false refl

-- the number of an original, the generation of a group, and the greatest that each may have
abbrev pub size_of : Member → ℕ
size_of (Original n) = n.number
size_of (Group n g) = g

abbrev pub greatest_of : Member → ℕ
greatest_of (Original n) = NUMBERS
greatest_of (Group n g) = GENERATIONS

lacks_above : (k v : ℕ) → 1 ≤ k → among v k ≡ false → v ≤ k
lacks_above k v least lacks = grind (arith, nat_tests)

same_tests : (a b : ℕ) → (a == b) ≡ (b == a)
same_tests a b = grind (arith, nat_tests)

same_names : (a b : NameData) → name_eq a b ≡ name_eq b a
same_names a b = grind (arith, nat_tests)

-- the members of a context to which the next member was added: that one more
pub has_raised : (c : ContextData) (m : Member) → IsNextMember c m → (y : Member) → has (raised c m) y ≡ (has c y || member_eq m y)
has_raised c (Original n) next (Original y) =
    rw (count_put n.site n.number c.counts y.site)
    (chosen (n.site == y.site) (count_of c y.site) n.number
    (λ t k. among k y.number ≡ (among (count_of c y.site) y.number || (t && (n.number == y.number))))
    (λ one. among_next y.number (count_of c y.site) n.number
    (subst (λ s. n.number ≡ count_of c s + 1) (number_order.same n.site y.site one) next))
    (λ other. or_false _))
has_raised c (Original n) next (Group y h) = or_false _
has_raised c (Group n g) next (Original y) = or_false _
has_raised c (Group n g) next (Group y h) =
    rw (entry_put n g c.entries y)
    (chosen (name_eq n y) (entry_of c y) g (λ t k. among k h ≡ (among (entry_of c y) h || (t && (g == h))))
    (λ one. among_next h (entry_of c y) g (subst (λ x. g ≡ entry_of c x + 1) (name_same n y one) next))
    (λ other. or_false _))

-- a member that is not in the context, and all below it, were added
pub has_raised_up_to : (c : ContextData) (m : Member) → has c m ≡ false → 1 ≤ size_of m → (y : Member)
    → has (raised c m) y ≡ (has c y || up_to y m)
has_raised_up_to c (Original n) lacks least (Original y) =
    rw (count_put n.site n.number c.counts y.site, same_tests y.site n.site)
    (chosen (n.site == y.site) (count_of c y.site) n.number
    (λ t k. among k y.number ≡ (among (count_of c y.site) y.number || (t && among n.number y.number)))
    (λ one. among_less y.number (count_of c y.site) n.number
    (subst (λ s. count_of c s ≤ n.number) (number_order.same n.site y.site one) (lacks_above n.number (count_of c n.site) least lacks)))
    (λ other. or_false _))
has_raised_up_to c (Original n) lacks least (Group y h) = or_false _
has_raised_up_to c (Group n g) lacks least (Original y) = or_false _
has_raised_up_to c (Group n g) lacks least (Group y h) =
    rw (entry_put n g c.entries y, same_names y n)
    (chosen (name_eq n y) (entry_of c y) g (λ t k. among k h ≡ (among (entry_of c y) h || (t && among g h)))
    (λ one. among_less h (entry_of c y) g (subst (λ x. entry_of c x ≤ g) (name_same n y one) (lacks_above g (entry_of c n) least lacks)))
    (λ other. or_false _))

-- the last member of a site or a name was taken out: that one alone
pub has_lowered : (c : ContextData) (m : Member) → IsContext c → IsLastMember c m → 1 ≤ size_of m → (y : Member)
    → has (lowered c m) y ≡ (has c y && not (member_eq m y))
has_lowered c (Original n) is last least (Original y) =
    rw (count_lower n.site n.number c.counts is.counts least y.site)
    (chosen (n.site == y.site) (count_of c y.site) (n.number - 1)
    (λ t k. among k y.number ≡ (among (count_of c y.site) y.number && not (t && (n.number == y.number))))
    (λ one. among_last y.number (count_of c y.site) n.number
    (subst (λ s. n.number ≡ count_of c s) (number_order.same n.site y.site one) last))
    (λ other. and_true _))
has_lowered c (Original n) is last least (Group y h) = and_true _
has_lowered c (Group n g) is last least (Original y) = and_true _
has_lowered c (Group n g) is last least (Group y h) =
    rw (entry_lower n g c.entries is.entries least y)
    (chosen (name_eq n y) (entry_of c y) (g - 1) (λ t k. among k h ≡ (among (entry_of c y) h && not (t && (g == h))))
    (λ one. among_last h (entry_of c y) g (subst (λ x. g ≡ entry_of c x) (name_same n y one) last))
    (λ other. and_true _))

-- the form and the ranges of a context stay
pub raised_is_context : (c : ContextData) (m : Member) → IsContext c → IsName (target_of m).site (target_of m).number → IsMember m
    → size_of m ≤ greatest_of m → IsContext (raised c m)
raised_is_context c (Original n) is name member most =
    record { counts = counts_put 0 n.site n.number c.counts (omega arith) name.0 name.1 name.2 is.counts; entries = is.entries }
raised_is_context c (Group n g) is name member most =
    record { counts = is.counts; entries = entries_put n g c.entries name member most is.entries }

pub lowered_is_context : (c : ContextData) (m : Member) → IsContext c → IsName (target_of m).site (target_of m).number → IsMember m
    → size_of m ≤ greatest_of m → IsContext (lowered c m)
lowered_is_context c (Original n) is name member most =
    record { counts = counts_lower n.site n.number c.counts name.0 name.1 name.2 is.counts; entries = is.entries }
lowered_is_context c (Group n g) is name member most =
    record { counts = is.counts; entries = entries_lower n g c.entries name member most is.entries }

-- numbers and generations start at 1
pub size_least : (m : Member) → IsName (target_of m).site (target_of m).number → IsMember m → 1 ≤ size_of m
size_least (Original n) name member = name.1
size_least (Group n g) name member = member
