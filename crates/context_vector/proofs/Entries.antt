-- Lists of entries: names that rise with their greatest generations.
use Rattle.std.proofs.Common.{◌≡◌, ℕ, ◌+◌, ◌-◌, ◌*◌, ◌<◌, ◌≤◌, ◌≢◌, set, true, false, List, [], ◌∷◌, ◌++◌, length, if◌then◌else◌, refl, sym, ap, subst, ◌∙◌, inl, inr, arith}
use Rattle.std.proofs.lemmas.Bool.{cases_order, eq-eqb, ne_eqb}
use Rattle.std.proofs.lemmas.Bool.Decides.{nat_tests}
use Rattle.op_name.specs.declared.name.TheConstants.{SITES, NUMBERS}
use Rattle.op_name.specs.declared.member.TheConstants.{GENERATIONS}
use Rattle.op_name.specs.NameData.{NameData, IsName, name_eq, name_lt}
use Rattle.context_vector.specs.Contexts.{entry_in, put_entry, IsBefore, AreEntries}
use Rattle.op_name.proofs.CallerLemmas.{name_order, name_transitive, cases_by_order}
use Rattle.context_vector.specs.Vectors.{without_name, lower_entry, NamesBelow}
use Rattle.context_vector.proofs.Keyed.{value_at, put_at, take_out, AllAfter, IsRising, gap_value, gap_put, put_is_set, take_out_is_remove}
use Rattle.context_vector.specs.Code.Places.{IsPlace, IsGap}
use Rattle.std.specs.List.{insert, remove}

-- entries are pairs with keys that rise, read and written as such
pub entry_is : (es : List (NameData × ℕ)) (n : NameData) → entry_in es n ≡ value_at name_eq name_lt es n
entry_is [] n = refl
entry_is (e ∷ es) n = ap (λ v. if name_eq e.0 n then e.1 else v) (entry_is es n)

pub put_entry_is : (n : NameData) (g : ℕ) (es : List (NameData × ℕ)) → put_entry n g es ≡ put_at name_eq name_lt n g es
put_entry_is n g [] = refl
put_entry_is n g (e ∷ es) =
    ap (λ v. if name_eq e.0 n then (n, g) ∷ es else if name_lt n e.0 then (n, g) ∷ (e ∷ es) else e ∷ v) (put_entry_is n g es)

pub without_name_is : (n : NameData) (es : List (NameData × ℕ)) → without_name n es ≡ take_out name_eq name_lt n es
without_name_is n [] = refl
without_name_is n (e ∷ es) = ap (λ v. if name_eq e.0 n then es else e ∷ v) (without_name_is n es)

-- a name before the first is before all
pub entries_after : (n : NameData) (es : List (NameData × ℕ)) → IsBefore n es → AreEntries es → AllAfter name_eq name_lt n es
entries_after n [] before are = tt
entries_after n (e ∷ []) before are = (before, tt)
entries_after n (e ∷ (f ∷ es)) before are = (before, entries_after n (f ∷ es) (name_transitive n e.0 f.0 before are.3) are.4)

pub entries_rise : (es : List (NameData × ℕ)) → AreEntries es → IsRising name_eq name_lt es
entries_rise [] are = tt
entries_rise (e ∷ es) are = (are.1, entries_after e.0 es are.3 are.4, entries_rise es are.4)

before_put : (m n : NameData) (g : ℕ) (es : List (NameData × ℕ)) → IsBefore m es → name_lt m n ≡ true → IsBefore m (put_entry n g es)
before_put m n g [] before less = less
before_put m n g (e ∷ es) before less =
    elim (name_eq e.0 n) as (λ t. IsBefore m (if t then (n, g) ∷ es else if name_lt n e.0 then (n, g) ∷ (e ∷ es) else e ∷ put_entry n g es)) [
      | true ↦ less
      | false ↦ elim (name_lt n e.0) as (λ t. IsBefore m (if t then (n, g) ∷ (e ∷ es) else e ∷ put_entry n g es))
          [ true ↦ less | false ↦ before ]
    ]

pub entries_put : (n : NameData) (g : ℕ) (es : List (NameData × ℕ)) → IsName n.site n.number → 1 ≤ g → g ≤ GENERATIONS → AreEntries es
    → AreEntries (put_entry n g es)
entries_put n g [] name least most are = (name, least, most, tt, tt)
entries_put n g (e ∷ es) name least most are =
    cases_by_order name_eq name_lt name_order e.0 n _
    (λ is q q' l l'. rw q (name, least, most, subst (λ x. IsBefore x es) is are.3, are.4))
    (λ q q' l l'. rw (q, l') (are.0, are.1, are.2, before_put e.0 n g es are.3 l, entries_put n g es name least most are.4))
    (λ q q' l l'. rw (q, l') (name, least, most, l', (are.0, are.1, are.2, are.3, are.4)))

before_later : (n m : NameData) (es : List (NameData × ℕ)) → name_lt n m ≡ true → IsBefore m es → IsBefore n es
before_later n m [] less before = tt
before_later n m (e ∷ es) less before = name_transitive n m e.0 less before

before_without : (m n : NameData) (es : List (NameData × ℕ)) → AreEntries es → IsBefore m es → IsBefore m (without_name n es)
before_without m n [] are before = tt
before_without m n (e ∷ es) are before =
    elim (name_eq e.0 n) as (λ t. IsBefore m (if t then es else e ∷ without_name n es))
    [ true ↦ before_later m e.0 es before are.3 | false ↦ before ]

pub entries_without : (n : NameData) (es : List (NameData × ℕ)) → AreEntries es → AreEntries (without_name n es)
entries_without n [] are = tt
entries_without n (e ∷ es) are =
    elim (name_eq e.0 n) as (λ t. AreEntries (if t then es else e ∷ without_name n es)) [
      | true ↦ are.4
      | false ↦ (are.0, are.1, are.2, before_without e.0 n es are.4 are.3, entries_without n es are.4)
    ]

pub entries_lower : (n : NameData) (g : ℕ) (es : List (NameData × ℕ)) → IsName n.site n.number → 1 ≤ g → g ≤ GENERATIONS → AreEntries es
    → AreEntries (lower_entry n g es)
entries_lower n g es name least most are =
    elim (cases_order g 1) [
      | inl one ↦ rw (eq-eqb g 1 one) (entries_without n es are)
      | inr (inl less) ↦ absurd (omega arith)
      | inr (inr more) ↦ rw (ne_eqb g 1 (omega arith)) (entries_put n (g - 1) es name (omega arith) (omega arith) are)
    ]

before_push : (m n : NameData) (g : ℕ) (es : List (NameData × ℕ)) → name_lt m n ≡ true → IsBefore m es → IsBefore m (es ++ (n, g) ∷ [])
before_push m n g [] less before = less
before_push m n g (e ∷ es) less before = before

-- an entry after the last may be appended
pub entries_push : (n : NameData) (g : ℕ) (es : List (NameData × ℕ)) → IsName n.site n.number → 1 ≤ g → g ≤ GENERATIONS → NamesBelow es n
    → AreEntries es → AreEntries (es ++ (n, g) ∷ [])
entries_push n g [] name least most below are = (name, least, most, tt, tt)
entries_push n g (e ∷ es) name least most below are =
    (are.0, are.1, are.2, before_push e.0 n g es below.0 are.3, entries_push n g es name least most below.1 are.4)

-- the generations and the names of entries are in range
pub entry_at_most : (es : List (NameData × ℕ)) (n : NameData) → AreEntries es → entry_in es n ≤ GENERATIONS
entry_at_most [] n are = omega arith
entry_at_most (e ∷ es) n are =
    elim (name_eq e.0 n) as (λ t. (if t then e.1 else entry_in es n) ≤ GENERATIONS) [ true ↦ are.2 | false ↦ entry_at_most es n are.4 ]

-- names in range rise with the number that their site and number make
places_rise : (n m : NameData) → IsName n.site n.number → IsName m.site m.number → name_lt n m ≡ true
    → n.site * NUMBERS + n.number < m.site * NUMBERS + m.number
places_rise n m is_name is_name' less = grind (arith, nat_tests)

-- names rise, so there are at most as many entries as names
pub entries_at_most : (e : NameData × ℕ) (es : List (NameData × ℕ)) → AreEntries (e ∷ es)
    → length (e ∷ es) + (e.0.site * NUMBERS + e.0.number) ≤ SITES * NUMBERS + 1
entries_at_most e [] are = omega (arith, are.0.0, are.0.1, are.0.2)
entries_at_most e (f ∷ es) are = omega (arith, entries_at_most f es are.4, places_rise e.0 f.0 are.0 are.4.0 are.3)

pub length_at_most : (es : List (NameData × ℕ)) → AreEntries es → length es ≤ SITES * NUMBERS
length_at_most [] are = omega arith
length_at_most (e ∷ es) are = omega (arith, entries_at_most e es are, are.0.1)

-- what a write at the place of a name, an insert at its gap and a removal make
pub entry_in_gap : (es : List (NameData × ℕ)) (n : NameData) (i : ℕ) → IsGap name_lt es n i → entry_in es n ≡ 0
entry_in_gap es n i gap = entry_is es n ∙ gap_value name_eq name_lt name_order es n i gap

pub put_in_gap : (es : List (NameData × ℕ)) (n : NameData) (g i : ℕ) → IsGap name_lt es n i → insert es i (n, g) ≡ put_entry n g es
put_in_gap es n g i gap = sym (put_entry_is n g es ∙ gap_put name_eq name_lt name_order es n g i gap)

pub put_at_place : (es : List (NameData × ℕ)) (n : NameData) (g i : ℕ) → AreEntries es → IsPlace es n i → set es i (n, g) ≡ put_entry n g es
put_at_place es n g i are place = sym (put_entry_is n g es ∙ put_is_set name_eq name_lt name_order es (entries_rise es are) n g i place)

pub lower_at_place : (es : List (NameData × ℕ)) (n : NameData) (g i : ℕ) → AreEntries es → IsPlace es n i → g ≢ 1
    → set es i (n, g - 1) ≡ lower_entry n g es
lower_at_place es n g i are place more = put_at_place es n (g - 1) i are place ∙ rw (ne_eqb g 1 more) refl

pub remove_at_place : (es : List (NameData × ℕ)) (n : NameData) (g i : ℕ) → AreEntries es → IsPlace es n i → g ≡ 1
    → remove es i ≡ lower_entry n g es
remove_at_place es n g i are place one =
    sym (rw (eq-eqb g 1 one) (without_name_is n es ∙ take_out_is_remove name_eq name_lt name_order es (entries_rise es are) n i place))
