-- The originals of a history in the order of names.
use Rattle.std.proofs.Common.{◌≡◌, ℕ, zero, suc, ◌+◌, ◌-◌, ◌<◌, ◌≤◌, true, false, inl, inr, List, [], ◌∷◌, ◌++◌, refl, ap, sym, ◌∙◌}
use Rattle.std.proofs.Common.{arith, length, length-append, drop, subst}
use Rattle.std.specs.Prelude.{Some, None, slice_get, option_map, ◌==◌}
use Rattle.std.specs.List.{range_with_len}
use Rattle.std.proofs.lemmas.Bool.{cases_lt}
use Rattle.std.proofs.lemmas.Bool.Decides.{nat_tests}
use Rattle.std.proofs.lemmas.Option.{slice_get-get_or, slice_get-map, slice_get_past}
use Rattle.std.proofs.lemmas.List.FromFn.{length-range_with_len, get_or-range_with_len, length-map-range_with_len}
use Rattle.op_name.specs.NameData.{NameData}
use Rattle.op_name.specs.declared.name.TheConstants.{SITES, NUMBERS}
use Rattle.context_vector.specs.Contexts.{AreCounts, count_in, sum_of_counts}
use Rattle.session_replay.specs.Generating.{first_names, names_in}

name_of : ℕ → ℕ → NameData
name_of s k = record { site = s; number = k }

-- ---- the names of one site

first_length : (s n : ℕ) → length (first_names s n) ≡ n
first_length s n = length-map-range_with_len (λ k. record { site = s; number = k }) 1 n

first_at : (s n i : ℕ) → i < n → slice_get (first_names s n) i ≡ Some (record { site = s; number = i + 1 })
first_at s n i within =
    slice_get-map (λ k. record { site = s; number = k }) (range_with_len 1 n) i
    ∙ ap (option_map (λ k. record { site = s; number = k })) number
  where
    numbers : 1 + i ≡ i + 1
    numbers = omega arith

    number : slice_get (range_with_len 1 n) i ≡ Some (i + 1)
    number = slice_get-get_or (range_with_len 1 n) i 0 (omega (arith, within, length-range_with_len 1 n))
        ∙ ap Some (get_or-range_with_len 1 n i 0 within ∙ numbers)

-- ---- the names of all sites

pub get_left : {X : Type 0} (xs ys : List X) (i : ℕ) → i < length xs → slice_get (xs ++ ys) i ≡ slice_get xs i
get_left [] ys i within = absurd (omega (arith, within))
get_left (x ∷ xs) ys zero within = refl
get_left (x ∷ xs) ys (suc i) within = get_left xs ys i (omega (arith, within))

pub get_right : {X : Type 0} (xs ys : List X) (i : ℕ) → length xs ≤ i → slice_get (xs ++ ys) i ≡ slice_get ys (i - length xs)
get_right [] ys i past = let same : i ≡ i - 0 = omega arith in ap (slice_get ys) same
get_right (x ∷ xs) ys zero past = absurd (omega (arith, past))
get_right (x ∷ xs) ys (suc i) past =
    let same : i - length xs ≡ suc i - suc (length xs) = omega arith in
    get_right xs ys i (omega (arith, past)) ∙ ap (slice_get ys) same

-- the first originals of the first site come first
pub name_here : (p : ℕ × ℕ) (ps : List (ℕ × ℕ)) (i : ℕ) → i < p.1
    → slice_get (names_in (p ∷ ps)) i ≡ Some (record { site = p.0; number = i + 1 })
name_here p ps i within =
    get_left (first_names p.0 p.1) (names_in ps) i (omega (arith, within, first_length p.0 p.1)) ∙ first_at p.0 p.1 i within

-- then come those of the others
pub name_later : (p : ℕ × ℕ) (ps : List (ℕ × ℕ)) (i : ℕ) → p.1 ≤ i → slice_get (names_in (p ∷ ps)) i ≡ slice_get (names_in ps) (i - p.1)
name_later p ps i past =
    get_right (first_names p.0 p.1) (names_in ps) i (omega (arith, past, first_length p.0 p.1))
    ∙ ap (λ n. slice_get (names_in ps) (i - n)) (first_length p.0 p.1)

pub names_number : (ps : List (ℕ × ℕ)) → length (names_in ps) ≡ sum_of_counts ps
names_number [] = refl
names_number (p ∷ ps) = length-append (first_names p.0 p.1) (names_in ps) ∙ (λ i. first_length p.0 p.1 i + names_number ps i)

-- ---- what the names tell

-- a name of the list is one of the first originals that its site counts
pub record IsCounted (low : ℕ) (ps : List (ℕ × ℕ)) (t : NameData) : Type 0 where
  pub from : low ≤ t.site
  pub least : 1 ≤ t.number
  pub most : t.number ≤ count_in ps t.site

pub name_counted : (low : ℕ) (ps : List (ℕ × ℕ)) → AreCounts low ps → (i : ℕ) (t : NameData) → slice_get (names_in ps) i ≡ Some t
    → IsCounted low ps t
name_counted low [] are i t at = let none : None ≡ Some t = sym (slice_get_past [] i (omega arith)) ∙ at in cc
name_counted low (p ∷ ps) are i t at =
    elim (cases_lt i p.1) [
      | inl here ↦ first here (sym (name_here p ps i here) ∙ at)
      | inr past ↦ later (name_counted (p.0 + 1) ps are.4 (i - p.1) t (sym (name_later p ps i past) ∙ at))
    ]
  where
    first : i < p.1 → ◌≡◌ (Some (record { site = p.0; number = i + 1 })) (Some t) → IsCounted low (p ∷ ps) t
    first here is =
        let same : record { site = p.0; number = i + 1 } ≡ t = cc in
        let site : p.0 ≡ t.site = ap (λ (x : NameData). x.site) same in
        let number : i + 1 ≡ t.number = ap (λ (x : NameData). x.number) same in
        let self : (p.0 == t.site) ≡ true = grind (arith, nat_tests, site) in
        record {
          from = omega (arith, are.0, site);
          least = omega (arith, number);
          most = rw self (omega (arith, number, here));
        }

    later : IsCounted (p.0 + 1) ps t → IsCounted low (p ∷ ps) t
    later rest =
        let other : (p.0 == t.site) ≡ false = grind (arith, nat_tests, rest.from) in
        record {
          from = omega (arith, are.0, rest.from);
          least = rest.least;
          most = rw other rest.most;
        }

-- ---- a walk over the counts

-- a name among the first originals of the first site
pub found_here : (ps : List (ℕ × ℕ)) (p : ℕ × ℕ) (left : ℕ) → Some p ≡ slice_get ps 0 → left < p.1
    → slice_get (names_in ps) left ≡ Some (record { site = p.0; number = left + 1 })
found_here [] p left at less = let none : Some p ≡ None = at in cc
found_here (q ∷ qs) p left at less =
    let same : q ≡ p = cc in
    ap (λ (x : ℕ × ℕ). slice_get (names_in (x ∷ qs)) left) same ∙ name_here p qs left less

-- a name behind them
pub found_later : (ps rest : List (ℕ × ℕ)) (p : ℕ × ℕ) (left : ℕ) → Some p ≡ slice_get ps 0 → rest ≡ drop 1 ps → p.1 ≤ left
    → slice_get (names_in ps) left ≡ slice_get (names_in rest) (left - p.1)
found_later [] rest p left at is past = let none : Some p ≡ None = at in cc
found_later (q ∷ qs) rest p left at is past =
    let same : q ≡ p = cc in
    ap (λ (x : ℕ × ℕ). slice_get (names_in (x ∷ qs)) left) same
    ∙ (name_later p qs left past ∙ ap (λ rs. slice_get (names_in rs) (left - p.1)) (sym is))

pub found_none : (ps : List (ℕ × ℕ)) (left : ℕ) → None ≡ slice_get ps 0 → slice_get (names_in ps) left ≡ None
found_none [] left at = slice_get_past [] left (omega arith)
found_none (q ∷ qs) left at = let some : None ≡ Some q = at in cc

-- the range of the first site's names, and the form of what is left behind them
pub record IsFirstSite (p : ℕ × ℕ) (rest : List (ℕ × ℕ)) : Type 0 where
  pub site : p.0 < SITES
  pub greatest : p.1 ≤ NUMBERS
  pub others : AreCounts (p.0 + 1) rest

pub found_range : (low : ℕ) (ps rest : List (ℕ × ℕ)) (p : ℕ × ℕ) → AreCounts low ps → Some p ≡ slice_get ps 0 → rest ≡ drop 1 ps
    → IsFirstSite p rest
found_range low [] rest p are at is = let none : Some p ≡ None = at in cc
found_range low (q ∷ qs) rest p are at is =
    let same : q ≡ p = cc in
    let others : AreCounts (q.0 + 1) rest = subst (AreCounts (q.0 + 1)) (sym is) are.4 in
    subst (λ (x : ℕ × ℕ). IsFirstSite x rest) same (record { site = are.1; greatest = are.3; others = others })
