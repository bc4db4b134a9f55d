-- Lists of tallies whose sites rise: what a search finds among them, and what an edit there does to the lists of each site.
use Rattle.std.proofs.Common.{◌≡◌, ℕ, zero, suc, ◌+◌, ◌-◌, ◌<◌, ◌≤◌, inl, inr, List, [], ◌∷◌, length, take, get_or, set, if◌then◌else◌, Result, Ok, Err, IfOk, IfErr, refl, ap, sym, subst, ◌∙◌, arith}
use Rattle.std.specs.Prelude.{◌==◌, ◌≢◌, None}
use Rattle.std.specs.List.{insert}
use Rattle.std.specs.List.Sorted.{IsSearchInRange, IsBinarySearchResult, IsNonDecreasingBy}
use Rattle.std.specs.Ordering.{nat_cmp, ordering_index}
use Rattle.std.proofs.lemmas.Bool.{cases_Bool, eq-eqb, eqb-true}
use Rattle.std.proofs.lemmas.List.{get_or_default}
use Rattle.std.proofs.lemmas.Bool.Decides.{nat_tests}
use Rattle.std.proofs.lemmas.Cmp.{ranked}
use Rattle.std.proofs.lemmas.Grind.{common_steps}
use Rattle.std.proofs.lemmas.List.Edits.{length-insert, get_or-insert_below, get_or-insert_at, get_or-insert_above}
use Rattle.std.proofs.lemmas.List.Sorted.{IsNonDecreasingBy-from_default}
use Rattle.context_vector.specs.Contexts.{count_in}
use Rattle.context_diff.specs.Code.Tallies.{TallyData, no_tally, tally_of, site_at, AreRising, StandsAt, GoesTo, spares_of, entry_at, place_at}

-- none of the first i lists are the site's
abbrev NoneBefore : List TallyData → ℕ → ℕ → Type 0
NoneBefore ts s i = (j : ℕ) → j < i → site_at ts j ≢ s

none_in_tail : (t : TallyData) (ts : List TallyData) (s i : ℕ) → NoneBefore (t ∷ ts) s (suc i) → NoneBefore ts s i
none_in_tail t ts s i none j less = none (suc j) (omega arith)

stands_in_tail : (t : TallyData) (ts : List TallyData) (s i : ℕ) → StandsAt (t ∷ ts) s (suc i) → StandsAt ts s i
stands_in_tail t ts s i at = record { within = omega (arith, at.within); site = at.site }

absent : (ts : List TallyData) (s : ℕ) → NoneBefore ts s (length ts) → tally_of ts s ≡ no_tally
absent [] s none = refl
absent (t ∷ ts) s none = grind (arith, nat_tests, none 0 (omega arith), absent ts s (none_in_tail t ts s _ none))

present : (ts : List TallyData) (s i : ℕ) → StandsAt ts s i → NoneBefore ts s i → tally_of ts s ≡ get_or ts i no_tally
present [] s i at none = absurd (omega (arith, at.within))
present (t ∷ ts) s zero at none = grind (arith, nat_tests, at.site)
present (t ∷ ts) s (suc i) at none =
    let rest = present ts s i (stands_in_tail t ts s i at) (none_in_tail t ts s i none) in
    grind (arith, nat_tests, none 0 (omega arith), rest)

-- the room of a site's lists, as it is read from those of all sites
pub spare_is : (ts : List TallyData) (s : ℕ) → count_in (spares_of ts) s ≡ (tally_of ts s).spare
spare_is [] s = refl
spare_is (t ∷ ts) s =
    elim (cases_Bool (t.site == s)) [
      | inl here ↦ rw here refl
      | inr other ↦ rw other (spare_is ts s)
    ]

-- the new lists have t at the site, and at each other site what the old ones have
abbrev pub HaveAlso : List TallyData → List TallyData → ℕ → TallyData → Type 0
HaveAlso old new s t = (q : ℕ) → tally_of new q ≡ (if s == q then t else tally_of old q)

put : (ts : List TallyData) (t : TallyData) (s i : ℕ) → StandsAt ts s i → NoneBefore ts s i → t.site ≡ s → HaveAlso ts (set ts i t) s t
put [] t s i at none is q = absurd (omega (arith, at.within))
put (x ∷ xs) t s zero at none is q = grind (arith, nat_tests, at.site, is)
put (x ∷ xs) t s (suc i) at none is q =
    let rest = put xs t s i (stands_in_tail x xs s i at) (none_in_tail x xs s i none) is q in
    grind (arith, nat_tests, none 0 (omega arith), rest)

inserted : (ts : List TallyData) (t : TallyData) (s i : ℕ) → NoneBefore ts s i → t.site ≡ s → HaveAlso ts (insert ts i t) s t
inserted ts t s zero none is q = grind (arith, nat_tests, is)
inserted [] t s (suc i) none is q = grind (arith, nat_tests, is)
inserted (x ∷ xs) t s (suc i) none is q =
    let rest = inserted xs t s i (none_in_tail x xs s i none) is q in
    grind (arith, nat_tests, none 0 (omega arith), rest)

-- what a search for a site answers
pub record Searched (ts : List TallyData) (s : ℕ) (r : Result ℕ ℕ) : Type 0 where
  pub found : IfOk r (StandsAt ts s)
  pub absent : IfErr r (GoesTo ts s)

module _ (ts : List TallyData) (rising : AreRising ts) (s : ℕ) where
  -- the comparisons with the site rise along the lists, as a binary search asks
  comparisons_rise : IsNonDecreasingBy (λ (t : TallyData). ordering_index (nat_cmp t.site s)) ts
  comparisons_rise = IsNonDecreasingBy-from_default (λ (t : TallyData). ordering_index (nat_cmp t.site s)) ts no_tally (λ i j le within.
      let sites_rise : site_at ts i ≤ site_at ts j = grind (arith, rising i j, λ (same : i ≡ j). ap (site_at ts) same) in
      grind (arith, nat_tests))

  -- a binary search ends at the lists of the site, or where they would go
  pub searched : (r : Result ℕ ℕ) → IsSearchInRange r (length ts) → IsBinarySearchResult (λ (t : TallyData). nat_cmp t.site s) ts r
      → Searched ts s r
  searched (Ok at) within equal = record { found = record { within = within; site = ranked _ s _ (sym (equal no_tally)) }; absent = tt }
  searched (Err at) within parted = record {
    found = tt;
    absent = record {
      within = within;
      before = λ j less. ranked _ s _ (sym ((parted comparisons_rise).0 j no_tally (omega arith) less));
      after = λ j from less. ranked _ s _ (sym ((parted comparisons_rise).1 j no_tally from less));
    };
  }

  module _ (i : ℕ) (at : StandsAt ts s i) where
    none_before : NoneBefore ts s i
    none_before j less same = omega (arith, rising j i less at.within, at.site)

    -- what is read at the place of a site is its lists
    pub read_at : (t : TallyData) → t ≡ get_or ts i t → t ≡ tally_of ts s
    read_at t is = is ∙ (get_or_default ts i t no_tally at.within ∙ sym (present ts s i at none_before))

    site_kept : (t new : TallyData) → t ≡ get_or ts i t → new.site ≡ t.site → new.site ≡ s
    site_kept t new is same = same ∙ (ap (λ (x : TallyData). x.site) (is ∙ get_or_default ts i t no_tally at.within) ∙ at.site)

    -- what is written back there are its lists then
    pub put_at : (t new : TallyData) → t ≡ get_or ts i t → new.site ≡ t.site → HaveAlso ts (set ts i new) s new
    put_at t new is same = put ts new s i at none_before (site_kept t new is same)

    pub rising_put : (t new : TallyData) → t ≡ get_or ts i t → new.site ≡ t.site → AreRising (set ts i new)
    rising_put t new is same j k less within =
        grind (arith, common_steps, site_kept t new is same, rising j k, rising j i, rising i k, at.within, at.site)

module _ (ts : List TallyData) (s i : ℕ) (gap : GoesTo ts s i) where
  -- a site whose lists would go somewhere has none
  pub tally_absent : tally_of ts s ≡ no_tally
  tally_absent = absent ts s (λ j less same. grind (arith, gap.before j, gap.after j))

  -- lists come in there
  pub inserted_at : (t : TallyData) → t.site ≡ s → HaveAlso ts (insert ts i t) s t
  inserted_at t is = inserted ts t s i (λ j less same. omega (arith, gap.before j less)) is

  pub rising_inserted : (t : TallyData) → t.site ≡ s → AreRising ts → AreRising (insert ts i t)
  rising_inserted t is rising j k less within =
      let new = insert ts i t in
      let site = λ (x : TallyData). x.site in
      let longer = length-insert ts i t gap.within in
      let below : (j : ℕ) → j < i → site_at new j ≡ site_at ts j =
      λ j less. ap site (get_or-insert_below ts i t no_tally j less gap.within) in
      let here : (j : ℕ) → j ≡ i → site_at new j ≡ s = λ j same. rw same (ap site (get_or-insert_at ts i t no_tally gap.within) ∙ is) in
      let above : (j : ℕ) → i < j → site_at new j ≡ site_at ts (j - 1) =
      λ j more. subst (λ q. site_at new q ≡ site_at ts (j - 1)) {x = j - 1 + 1} (omega arith)
      (ap site (get_or-insert_above ts i t no_tally (j - 1) (omega arith) gap.within)) in
      grind (
        arith,
        below j,
        here j,
        above j,
        below k,
        here k,
        above k,
        rising j k,
        rising j (k - 1),
        rising (j - 1) (k - 1),
        gap.before j,
        gap.after (k - 1),
      )

-- the site has them then
pub at_site : (old new : List TallyData) (s : ℕ) (t : TallyData) → HaveAlso old new s t → tally_of new s ≡ t
at_site old new s t have = have s ∙ ap (λ b. if b then t else tally_of old s) (eq-eqb s s refl)

-- what is read of the lists of each site stays where it stays for the one that changes
pub same_lists : (f : TallyData → List ℕ) (old new : List TallyData) (s : ℕ) (t : TallyData) → HaveAlso old new s t
    → f t ≡ f (tally_of old s) → (q : ℕ) → f (tally_of new q) ≡ f (tally_of old q)
same_lists f old new s t have same q =
    elim (cases_Bool (s == q)) [
      | inl here ↦ ap f (have q) ∙ rw here (same ∙ ap (λ x. f (tally_of old x)) (eqb-true s q here))
      | inr other ↦ ap f (have q) ∙ rw other refl
    ]

-- and changes for this site alone
pub one_list : (f : TallyData → List ℕ) (g : List ℕ → List ℕ) (old new : List TallyData) (s : ℕ) (t : TallyData)
    → HaveAlso old new s t → f t ≡ g (f (tally_of old s)) → (q : ℕ)
    → f (tally_of new q) ≡ (if s == q then g (f (tally_of old q)) else f (tally_of old q))
one_list f g old new s t have is q =
    elim (cases_Bool (s == q)) [
      | inl here ↦ ap f (have q) ∙ rw here (is ∙ ap (λ x. g (f (tally_of old x))) (eqb-true s q here))
      | inr other ↦ ap f (have q) ∙ rw other refl
    ]

-- where a site has no list, nothing is taken out of one
pub no_list : (f : TallyData → List ℕ) (ts : List TallyData) (s : ℕ) → f (tally_of ts s) ≡ [] → (q : ℕ)
    → f (tally_of ts q) ≡ (if s == q then take (length (f (tally_of ts q)) - 1) (f (tally_of ts q)) else f (tally_of ts q))
no_list f ts s none q =
    elim (cases_Bool (s == q)) [
      | inl here ↦
          let empty : f (tally_of ts q) ≡ [] = ap (λ x. f (tally_of ts x)) (sym (eqb-true s q here)) ∙ none in
          rw here (empty ∙ sym (ap (λ (xs : List ℕ). take (length xs - 1) xs) empty))
      | inr other ↦ rw other refl
    ]

-- an empty list has no entry, and no place
pub no_entry : (n : ℕ) → entry_at [] n ≡ 0
no_entry zero = refl
no_entry (suc n) = refl

pub no_place : (n : ℕ) → place_at [] n ≡ None
no_place zero = refl
no_place (suc n) = refl
