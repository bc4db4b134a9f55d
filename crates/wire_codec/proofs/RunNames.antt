-- Runs of undone names: a list of names is cut into just one list of runs, and what holds of the names is told run by run.
use Rattle.std.proofs.Common.{◌≡◌, ℕ, zero, suc, ◌+◌, ◌-◌, ◌≤◌, Bool, true, false, not, ◌&&◌, List, [], ◌∷◌, ◌++◌, length, if◌then◌else◌, refl, sym, ap, subst, ◌∙◌, append_assoc, arith}
use Rattle.std.specs.List.{flat_map}
use Rattle.std.proofs.lemmas.Bool.{not-true, and_parts, and_from, not_from_false}
use Rattle.std.proofs.lemmas.Bool.Decides.{nat_tests}
use Rattle.std.proofs.lemmas.List.{length-append}
use Rattle.std.proofs.lemmas.List.Concat.{flat_map-cons}
use Rattle.op_name.specs.declared.name.TheConstants.{NUMBERS}
use Rattle.op_name.specs.declared.member.TheConstants.{GENERATIONS}
use Rattle.op_name.specs.NameData.{NameData, IsName, IsBefore, name_eq, name_lt}
use Rattle.op_name.proofs.CallerLemmas.{same_parts}
use Rattle.context_vector.specs.Contexts.{AreEntries, entry_in}
use Rattle.wire_codec.specs.declared.listing.Listing.{Listing}
use Rattle.wire_codec.specs.declared.listing.Listing.TheVariants.{Names, Runs, LongRuns}
use Rattle.wire_codec.specs.Runs.{RunData, run_of, further, names_from, names_in, last_name, joins, goes_on, in_front, runs_of}
use Rattle.wire_codec.specs.Code.RunLists.{HasNames, StandsBelow, AreRuns, HasLength, StandsApart, AreApart, holds}

-- ---- the names of one run

pub further_none : (n : NameData) → further n 0 ≡ n
further_none n = same_parts (further n 0) n refl (omega arith)

pub further_further : (n : NameData) (j k m : ℕ) → j + k ≡ m → further (further n j) k ≡ further n m
further_further n j k m sum = same_parts (further (further n j) k) (further n m) refl (omega (arith, sum))

length-names_from : (n : NameData) (k g : ℕ) → length (names_from n k g) ≡ k
unfolding names_from
length-names_from n zero g = refl
length-names_from n (suc k) g = ap suc (length-names_from (further n 1) k g)

pub names_none : (n : NameData) (g : ℕ) → names_from n 0 g ≡ []
unfolding names_from
names_none n g = refl

pub names_some : (n : NameData) (k g : ℕ) → 1 ≤ k → names_from n k g ≡ (n, g) ∷ names_from (further n 1) (k - 1) g
unfolding names_from
names_some n zero g some = absurd (omega arith)
names_some n (suc k) g some = let back : k ≡ suc k - 1 = omega arith in ap (λ (j : ℕ). (n, g) ∷ names_from (further n 1) j g) back

-- the first names and the others
names_split : (n : NameData) (j k g : ℕ) → names_from n (j + k) g ≡ names_from n j g ++ names_from (further n j) k g
unfolding names_from
names_split n zero k g =
    let whole : zero + k ≡ k = omega arith in
    ap (λ (i : ℕ). names_from n i g) whole ∙ ap (λ (m : NameData). names_from m k g) (sym (further_none n))
names_split n (suc j) k g =
    let whole : suc j + k ≡ suc (j + k) = omega arith in
    ap (λ (i : ℕ). names_from n i g) whole
    ∙ ap (λ (es : List (NameData × ℕ)). (n, g) ∷ es)
    (names_split (further n 1) j k g
    ∙ ap (λ (m : NameData). names_from (further n 1) j g ++ names_from m k g) (further_further n 1 j (suc j) (omega arith)))

-- one more name
pub names_more : (n : NameData) (i g : ℕ) → names_from n (i + 1) g ≡ names_from n i g ++ (further n i, g) ∷ []
unfolding names_from
names_more n i g = names_split n i 1 g

-- ---- a run that goes on another

-- what the second run of two is, where it goes on the first
record GoesOn (a b : RunData) : Type 0 where
  first : further a.first a.len ≡ b.first
  generation : a.generation ≡ b.generation

goes_parts : (a b : RunData) → goes_on a b ≡ true → GoesOn a b
goes_parts a b e =
    let site : a.first.site ≡ b.first.site = grind (arith, nat_tests) in
    let number : a.first.number + a.len ≡ b.first.number = grind (arith, nat_tests) in
    record { first = same_parts (further a.first a.len) b.first site number; generation = grind (arith, nat_tests) }

-- the two as one
abbrev pub joined : RunData → RunData → RunData
joined a b = run_of a.first (a.len + b.len) a.generation

names_joined : (a b : RunData) → GoesOn a b → names_in (joined a b) ≡ names_in a ++ names_in b
names_joined a b on =
    names_split a.first a.len b.len a.generation
    ∙ (ap (λ (n : NameData). names_in a ++ names_from n b.len a.generation) on.first
    ∙ ap (λ (g : ℕ). names_in a ++ names_from b.first b.len g) on.generation)

-- what goes on the second of two goes on both
goes_both : (a b c : RunData) → GoesOn a b → goes_on (joined a b) c ≡ goes_on b c
goes_both a b c on =
    let site : a.first.site ≡ b.first.site = ap (λ (n : NameData). n.site) on.first in
    let start : a.first.number + a.len ≡ b.first.number = ap (λ (n : NameData). n.number) on.first in
    let number : a.first.number + (a.len + b.len) ≡ b.first.number + b.len = omega (arith, start) in
    let generation : a.generation ≡ b.generation = on.generation in
    rw (site, number, generation) refl

-- what is said of a test by each of its answers
pub by_test : (P : Bool → Type 0) (b : Bool) → (b ≡ true → P true) → (b ≡ false → P false) → P b
by_test P true on off = on refl
by_test P false on off = off refl

-- ---- a run in front of others

module _ (k : Listing) where
  goes_first : (a b : RunData) → (joins k && goes_on a b) ≡ true → GoesOn a b
  goes_first a b e = goes_parts a b (and_parts (joins k) (goes_on a b) e).1

  goes_joins : (a b : RunData) → (joins k && goes_on a b) ≡ true → joins k ≡ true
  goes_joins a b e = (and_parts (joins k) (goes_on a b) e).0

  both_go : (a b c : RunData) → (joins k && goes_on a b) ≡ true → (joins k && goes_on (joined a b) c) ≡ (joins k && goes_on b c)
  both_go a b c e = ap (λ (t : Bool). joins k && t) (goes_both a b c (goes_first a b e))

  front_alone : (a b : RunData) (rs : List RunData) → (joins k && goes_on a b) ≡ false → in_front k a (b ∷ rs) ≡ a ∷ (b ∷ rs)
  front_alone a b rs e = rw e refl

  front_goes : (a b : RunData) (rs : List RunData) → (joins k && goes_on a b) ≡ true → in_front k a (b ∷ rs) ≡ joined a b ∷ rs
  front_goes a b rs e = rw e refl

  -- two runs in front of others, of which the second goes on the first
  pub front_joined : (a b : RunData) (rs : List RunData) → (joins k && goes_on a b) ≡ true
      → in_front k a (in_front k b rs) ≡ in_front k (joined a b) rs
  front_joined a b [] e = front_goes a b [] e
  front_joined a b (c ∷ rs) e =
      by_test (λ t. in_front k a (if t then joined b c ∷ rs else b ∷ (c ∷ rs)) ≡ in_front k (joined a b) (c ∷ rs))
      (joins k && goes_on b c)
      (λ on. let sum : a.len + (b.len + c.len) ≡ (a.len + b.len) + c.len = omega arith in
      front_goes a (joined b c) rs e
      ∙ (ap (λ (n : ℕ). run_of a.first n a.generation ∷ rs) sum ∙ sym (front_goes (joined a b) c rs (both_go a b c e ∙ on))))
      (λ off. front_goes a b (c ∷ rs) e ∙ sym (front_alone (joined a b) c rs (both_go a b c e ∙ off)))

  -- and of which it doesn't
  pub front_apart : (a b : RunData) (rs : List RunData) → (joins k && goes_on a b) ≡ false
      → in_front k a (in_front k b rs) ≡ a ∷ in_front k b rs
  front_apart a b [] e = front_alone a b [] e
  front_apart a b (c ∷ rs) e =
      by_test (λ t. in_front k a (if t then joined b c ∷ rs else b ∷ (c ∷ rs)) ≡ a ∷ (if t then joined b c ∷ rs else b ∷ (c ∷ rs)))
      (joins k && goes_on b c)
      (λ on. front_alone a (joined b c) rs e)
      (λ off. front_alone a b (c ∷ rs) e)

  -- the names stay
  names_front : (a : RunData) (rs : List RunData) → flat_map names_in (in_front k a rs) ≡ names_in a ++ flat_map names_in rs
  names_front a [] = flat_map-cons names_in a []
  names_front a (b ∷ rs) =
      by_test (λ t. flat_map names_in (if t then joined a b ∷ rs else a ∷ (b ∷ rs)) ≡ names_in a ++ flat_map names_in (b ∷ rs))
      (joins k && goes_on a b)
      (λ on. flat_map-cons names_in (joined a b) rs
      ∙ (ap (λ es. es ++ flat_map names_in rs) (names_joined a b (goes_first a b on))
      ∙ (append_assoc (names_in a) (names_in b) (flat_map names_in rs)
      ∙ ap (λ es. names_in a ++ es) (sym (flat_map-cons names_in b rs)))))
      (λ off. flat_map-cons names_in a (b ∷ rs))

  -- ---- names cut into runs, and back

  -- the names of the runs of a list are the list
  pub names_of_runs : (es : List (NameData × ℕ)) → flat_map names_in (runs_of k es) ≡ es
  unfolding runs_of names_from
  names_of_runs [] = refl
  names_of_runs (e ∷ es) = names_front (run_of e.0 1 e.1) (runs_of k es) ∙ ap (λ xs. e ∷ xs) (names_of_runs es)

  -- a run's names, in front of others
  runs_joined : joins k ≡ true → (n : NameData) (m g : ℕ) (es : List (NameData × ℕ))
      → runs_of k (names_from n (suc m) g ++ es) ≡ in_front k (run_of n (suc m) g) (runs_of k es)
  unfolding runs_of names_from
  runs_joined may n zero g es = refl
  runs_joined may n (suc m) g es =
      let one = run_of n 1 g in
      let others = run_of (further n 1) (suc m) g in
      let on : goes_on one others ≡ true = grind (arith, nat_tests) in
      let sum : 1 + suc m ≡ suc (suc m) = omega arith in
      ap (in_front k one) (runs_joined may (further n 1) m g es)
      ∙ (front_joined one others (runs_of k es) (and_from (joins k) (goes_on one others) may on)
      ∙ ap (λ (i : ℕ). in_front k (run_of n i g) (runs_of k es)) sum)

joined_run : (k : Listing) → joins k ≡ true → (r : RunData) → 1 ≤ r.len → (es : List (NameData × ℕ))
    → runs_of k (names_in r ++ es) ≡ in_front k r (runs_of k es)
joined_run k may r some es =
    let back : suc (r.len - 1) ≡ r.len = omega (arith, some) in
    subst (λ (n : ℕ). runs_of k (names_from r.first n r.generation ++ es) ≡ in_front k (run_of r.first n r.generation) (runs_of k es)) back
    (runs_joined k may r.first (r.len - 1) r.generation es)

runs_front : (k : Listing) (r : RunData) (es : List (NameData × ℕ)) → HasLength k r.len
    → runs_of k (names_in r ++ es) ≡ in_front k r (runs_of k es)
unfolding runs_of names_from
runs_front Names r es one =
    subst
    (λ (n : ℕ). runs_of Names (names_from r.first n r.generation ++ es) ≡ in_front Names (run_of r.first n r.generation) (runs_of Names es))
    (sym one) refl
runs_front Runs r es some = joined_run Runs refl r some es
runs_front LongRuns r es some = joined_run LongRuns refl r some es

front_of_apart : (k : Listing) (r : RunData) (rs : List RunData) → StandsApart k r rs → in_front k r rs ≡ r ∷ rs
front_of_apart k r [] apart = refl
front_of_apart k r (s ∷ rs) apart = front_alone k r s rs (not-true (joins k && goes_on r s) apart)

-- the runs of the names of runs that stand apart are these runs
pub runs_of_names : (k : Listing) (rs : List RunData) → AreApart k rs → runs_of k (flat_map names_in rs) ≡ rs
unfolding runs_of
runs_of_names k [] apart = refl
runs_of_names k (r ∷ rs) apart =
    ap (runs_of k) (flat_map-cons names_in r rs)
    ∙ (runs_front k r (flat_map names_in rs) apart.0
    ∙ (ap (in_front k r) (runs_of_names k rs apart.2) ∙ front_of_apart k r rs apart.1))

-- ---- names that rise

pub further_less : (n : NameData) → name_lt n (further n 1) ≡ true
further_less n = grind (arith, nat_tests)

names_rise : (n : NameData) (m g : ℕ) (es : List (NameData × ℕ)) → IsName n.site n.number → n.number + suc m ≤ NUMBERS + 1
    → 1 ≤ g → g ≤ GENERATIONS → IsBefore (further n m) es → AreEntries es → AreEntries (names_from n (suc m) g ++ es)
unfolding names_from
names_rise n zero g es named most some generation before are =
    (named, some, generation, subst (λ (x : NameData). IsBefore x es) (further_none n) before, are)
names_rise n (suc m) g es named most some generation before are =
    let next : IsName n.site (n.number + 1) = (named.0, omega arith, omega (arith, most)) in
    let last : further n (suc m) ≡ further (further n 1) m = sym (further_further n 1 m (suc m) (omega arith)) in (
      named,
      some,
      generation,
      further_less n,
      names_rise (further n 1) m g es next (omega (arith, most)) some generation (subst (λ (x : NameData). IsBefore x es) last before) are,
    )

run_rises : (r : RunData) (es : List (NameData × ℕ)) → HasNames r → 1 ≤ r.generation → r.generation ≤ GENERATIONS
    → IsBefore (last_name r) es → AreEntries es → AreEntries (names_in r ++ es)
run_rises r es has some most before are =
    let back : suc (r.len - 1) ≡ r.len = omega (arith, has.some) in
    subst (λ (n : ℕ). AreEntries (names_from r.first n r.generation ++ es)) back
    (names_rise r.first (r.len - 1) r.generation es has.first (omega (arith, has.last, back)) some most before are)

before_runs : (n : NameData) (r : RunData) (rs : List RunData) → 1 ≤ r.len → name_lt n r.first ≡ true
    → IsBefore n (flat_map names_in (r ∷ rs))
before_runs n r rs some less =
    let front : flat_map names_in (r ∷ rs)
    ≡ (r.first, r.generation) ∷ (names_from (further r.first 1) (r.len - 1) r.generation ++ flat_map names_in rs) =
    flat_map-cons names_in r rs
    ∙ ap (λ es. es ++ flat_map names_in rs) (names_some r.first r.len r.generation some) in
    subst (IsBefore n) (sym front) less

below_before : (r : RunData) (rs : List RunData) → StandsBelow r rs → AreRuns rs → IsBefore (last_name r) (flat_map names_in rs)
below_before r [] below are = tt
below_before r (s ∷ rs) below are = before_runs (last_name r) s rs are.0.some below

-- the names of runs that rise are entries
pub runs_rise : (rs : List RunData) → AreRuns rs → AreEntries (flat_map names_in rs)
runs_rise [] are = tt
runs_rise (r ∷ rs) are =
    subst AreEntries (sym (flat_map-cons names_in r rs))
    (run_rises r (flat_map names_in rs) are.0 are.1 are.2 (below_before r rs are.3 are.4) (runs_rise rs are.4))

-- ---- the runs of entries

-- a run that goes on: what is told of the first, of the second and of the two as one
module _ (k : Listing) (a b : RunData) (e : (joins k && goes_on a b) ≡ true) where
  on : GoesOn a b
  on = goes_first k a b e

  joined_last : 1 ≤ b.len → last_name (joined a b) ≡ last_name b
  joined_last some =
      let site : a.first.site ≡ b.first.site = ap (λ (n : NameData). n.site) on.first in
      let start : a.first.number + a.len ≡ b.first.number = ap (λ (n : NameData). n.number) on.first in
      same_parts (last_name (joined a b)) (last_name b) site (omega (arith, start, some))

  joined_has : HasNames a → HasNames b → HasNames (joined a b)
  joined_has x y =
      let start : a.first.number + a.len ≡ b.first.number = ap (λ (n : NameData). n.number) on.first in
      record { first = x.first; some = omega (arith, x.some); last = omega (arith, start, y.last) }

  joined_below : (rs : List RunData) → 1 ≤ b.len → StandsBelow b rs → StandsBelow (joined a b) rs
  joined_below [] some below = tt
  joined_below (c ∷ rs) some below = subst (λ (n : NameData). name_lt n c.first ≡ true) (sym (joined_last some)) below

  joined_apart : (rs : List RunData) → StandsApart k b rs → StandsApart k (joined a b) rs
  joined_apart [] apart = tt
  joined_apart (c ∷ rs) apart = subst (λ (t : Bool). not t ≡ true) (sym (both_go k a b c e)) apart

joined_length : (k : Listing) (m n : ℕ) → joins k ≡ true → HasLength k n → HasLength k (m + n)
joined_length Names m n e some = absurd (let no = e in cc)
joined_length Runs m n e some = omega (arith, some)
joined_length LongRuns m n e some = omega (arith, some)

one_length : (k : Listing) → HasLength k 1
one_length Names = refl
one_length Runs = omega arith
one_length LongRuns = omega arith

-- runs in range that rise and stand apart
abbrev pub AreWhole : Listing → List RunData → Type 0
AreWhole k rs = AreRuns rs × AreApart k rs

front_whole : (k : Listing) (a : RunData) (rs : List RunData) → HasNames a → 1 ≤ a.generation → a.generation ≤ GENERATIONS
    → HasLength k a.len → StandsBelow a rs → AreWhole k rs → AreWhole k (in_front k a rs)
front_whole k a [] has some most length below are = ((has, some, most, tt, tt), (length, tt, tt))
front_whole k a (b ∷ rs) has some most length below are =
    by_test (λ t. AreWhole k (if t then joined a b ∷ rs else a ∷ (b ∷ rs))) (joins k && goes_on a b)
    (λ on. (
      (joined_has k a b on has are.0.0, some, most, joined_below k a b on rs are.0.0.some are.0.3, are.0.4),
      (joined_length k a.len b.len (goes_joins k a b on) are.1.0, joined_apart k a b on rs are.1.1, are.1.2),
    ))
    (λ off. ((has, some, most, below, are.0), (length, not_from_false (joins k && goes_on a b) off, are.1)))

-- the first name of the first run is the first name
front_first : (k : Listing) (n : NameData) (a : RunData) (rs : List RunData) → name_lt n a.first ≡ true
    → (r : RunData) → last_name r ≡ n → StandsBelow r (in_front k a rs)
front_first k n a [] less r last = subst (λ (x : NameData). name_lt x a.first ≡ true) (sym last) less
front_first k n a (b ∷ rs) less r last =
    by_test (λ t. StandsBelow r (if t then joined a b ∷ rs else a ∷ (b ∷ rs))) (joins k && goes_on a b)
    (λ on. subst (λ (x : NameData). name_lt x a.first ≡ true) (sym last) less)
    (λ off. subst (λ (x : NameData). name_lt x a.first ≡ true) (sym last) less)

first_below : (k : Listing) (e : NameData × ℕ) (es : List (NameData × ℕ)) → IsBefore e.0 es
    → StandsBelow (run_of e.0 1 e.1) (runs_of k es)
unfolding runs_of
first_below k e [] before = tt
first_below k e (f ∷ es) before = front_first k e.0 (run_of f.0 1 f.1) (runs_of k es) before (run_of e.0 1 e.1) (further_none e.0)

one_name : (e : NameData × ℕ) → IsName e.0.site e.0.number → HasNames (run_of e.0 1 e.1)
one_name e named = record { first = named; some = omega arith; last = omega (arith, named.2) }

-- entries are cut into runs that rise and stand apart
pub whole_runs : (k : Listing) (es : List (NameData × ℕ)) → AreEntries es → AreWhole k (runs_of k es)
unfolding runs_of
whole_runs k [] are = (tt, tt)
whole_runs k (e ∷ es) are =
    front_whole k (run_of e.0 1 e.1) (runs_of k es) (one_name e are.0) are.1 are.2 (one_length k) (first_below k e es are.3)
    (whole_runs k es are.4)

-- ---- how many

-- the names of runs, counted run by run
unfoldable pub count_names : List RunData → ℕ
count_names [] = 0
count_names (r ∷ rs) = r.len + count_names rs

pub length-names : (rs : List RunData) → length (flat_map names_in rs) ≡ count_names rs
unfolding count_names
length-names [] = refl
length-names (r ∷ rs) =
    omega (
      arith,
      ap length (flat_map-cons names_in r rs),
      length-append (names_in r) (flat_map names_in rs),
      length-names_from r.first r.len r.generation,
      length-names rs,
    )

pub names_counted : (k : Listing) (es : List (NameData × ℕ)) → count_names (runs_of k es) ≡ length es
names_counted k es = sym (length-names (runs_of k es)) ∙ ap length (names_of_runs k es)

pub front_len : (k : Listing) (a : RunData) (rs : List RunData) → length (in_front k a rs) ≤ suc (length rs)
front_len k a [] = omega arith
front_len k a (b ∷ rs) =
    by_test (λ t. length (if t then joined a b ∷ rs else a ∷ (b ∷ rs)) ≤ suc (length (b ∷ rs))) (joins k && goes_on a b)
    (λ on. omega arith) (λ off. omega arith)

pub length-runs : (k : Listing) (es : List (NameData × ℕ)) → length (runs_of k es) ≤ length es
unfolding runs_of
length-runs k [] = omega arith
length-runs k (e ∷ es) = omega (arith, front_len k (run_of e.0 1 e.1) (runs_of k es), length-runs k es)

-- ---- the generation of a name

entry_from : (m : NameData) (k g : ℕ) (es : List (NameData × ℕ)) (n : NameData)
    → entry_in (names_from m k g ++ es) n ≡ (if holds (run_of m k g) n then g else entry_in es n)
unfolding names_from
entry_from m zero g es n =
    let none : holds (run_of m 0 g) n ≡ false = grind (arith, nat_tests) in
    rw none refl
entry_from m (suc k) g es n =
    by_test (λ t. (if t then g else entry_in (names_from (further m 1) k g ++ es) n)
    ≡ (if holds (run_of m (suc k) g) n then g else entry_in es n)) (name_eq m n)
    (λ here. let held : holds (run_of m (suc k) g) n ≡ true = grind (arith, nat_tests) in rw held refl)
    (λ off. let same : holds (run_of (further m 1) k g) n ≡ holds (run_of m (suc k) g) n = grind (arith, nat_tests) in
    entry_from (further m 1) k g es n ∙ ap (λ (t : Bool). if t then g else entry_in es n) same)

-- the generation of a name, looked for run by run
pub entry_by_run : (r : RunData) (rs : List RunData) (n : NameData)
    → entry_in (flat_map names_in (r ∷ rs)) n ≡ (if holds r n then r.generation else entry_in (flat_map names_in rs) n)
entry_by_run r rs n =
    ap (λ es. entry_in es n) (flat_map-cons names_in r rs)
    ∙ entry_from r.first r.len r.generation (flat_map names_in rs) n
