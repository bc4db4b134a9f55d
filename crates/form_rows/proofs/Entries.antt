-- Rows under their authors: what is left where one is taken out, and what is there once one was put in.
use Rattle.std.proofs.Common.{◌≡◌, ℕ, ◌+◌, ◌-◌, ◌≤◌, Bool, true, false, cond, ◌⊎◌, inl, inr, List, [], ◌∷◌, Contains, length, get_or, sum_by, swap_remove, Option, Some, None, IsPermutation, if◌then◌else◌, refl, sym, ap, subst, ◌∙◌, arith}
use Rattle.std.specs.Prelude.{slice_get}
use Rattle.std.specs.Map.{values_of, lookup}
use Rattle.std.proofs.lemmas.List.Sorted.{IsPermutation-map, IsPermutation-sym, IsPermutation-swap_remove, Contains-permutation, sum_by-IsPermutation}
use Rattle.std.proofs.lemmas.List.Sums.{sum_by-cons}
use Rattle.std.proofs.lemmas.Option.{slice_get_within, get_or_from_slice_get}
use Rattle.indexmap.specs.IndexMap.{insert_entry}
use Rattle.context_diff.proofs.CallerLemmas.{contains_cases, contains_here, contains_later, contains_none}
use Rattle.form_rows.specs.Kept.{forms_in}
use Rattle.form_rows.specs.declared.rows.AuthorRow.{AuthorRow}

module _ {F : Type 0} where
  abbrev size : AuthorRow F → ℕ
  size k = length k.row.forms

  forms_by : (rows : List (AuthorRow F)) → forms_in rows ≡ sum_by size rows
  forms_by [] = refl
  forms_by (k ∷ ks) = ap (λ (n : ℕ). length k.row.forms + n) (forms_by ks) ∙ sym (sum_by-cons size k ks)

  -- ---- one row less

  -- the row was one of them, and the others are left
  pub record IsWithout (es new : List (ℕ × AuthorRow F)) (own : AuthorRow F) : Type 0 where
    pub found : Contains (values_of es) own
    pub left : (k : AuthorRow F) → Contains (values_of new) k → Contains (values_of es) k
    pub forms : forms_in (values_of new) + length own.row.forms ≡ forms_in (values_of es)

  pub without_row : (es new : List (ℕ × AuthorRow F)) (i : ℕ) (p : ℕ × AuthorRow F) → slice_get es i ≡ Some p → new ≡ swap_remove es i p
      → IsWithout es new p.1
  without_row es new i p at is =
      let here : p ≡ get_or es i p = sym (get_or_from_slice_get es i p p at) in
      let moves : IsPermutation (values_of es) (p.1 ∷ values_of (swap_remove es i p)) =
      IsPermutation-map (λ e. e.1) es (p ∷ swap_remove es i p) (IsPermutation-swap_remove es i p (slice_get_within es i p at) here) in
      let whole : IsPermutation (values_of es) (p.1 ∷ values_of new) =
      subst (λ (l : List (ℕ × AuthorRow F)). IsPermutation (values_of es) (p.1 ∷ values_of l)) (sym is) moves in
      let back = IsPermutation-sym (values_of es) (p.1 ∷ values_of new) whole in
      let sum : sum_by size (values_of es) ≡ sum_by size (p.1 ∷ values_of new) =
      sym (sum_by-IsPermutation size (values_of es) (p.1 ∷ values_of new) whole) in
      let more = sum_by-cons size p.1 (values_of new) in
      record {
        found = Contains-permutation (p.1 ∷ values_of new) (values_of es) p.1 back (contains_here p.1 (values_of new));
        left = λ k c. Contains-permutation (p.1 ∷ values_of new) (values_of es) k back (contains_later p.1 (values_of new) k c);
        forms = omega (arith, sum, more, forms_by (values_of es), forms_by (values_of new));
      }

  -- ---- one row more

  abbrev forms_of : Option (AuthorRow F) → ℕ
  forms_of None = 0
  forms_of (Some k) = length k.row.forms

  module _ (eq : ℕ → ℕ → Bool) (s : ℕ) (row : AuthorRow F) where
    put_forms : (es : List (ℕ × AuthorRow F))
        → forms_in (values_of (insert_entry eq es s row)) + forms_of (lookup (eq s) es) ≡ forms_in (values_of es) + length row.row.forms
    put_forms [] = omega arith
    put_forms (e ∷ es) = by (put_forms es) (eq s e.0)
      where
        by : forms_in (values_of (insert_entry eq es s row)) + forms_of (lookup (eq s) es) ≡ forms_in (values_of es) + length row.row.forms
            → (b : Bool) → forms_in (values_of (if b then (e.0, row) ∷ es else e ∷ insert_entry eq es s row)) + forms_of
            (cond b (Some e.1) (lookup (eq s) es)) ≡ (length e.1.row.forms + forms_in (values_of es)) + length row.row.forms
        by rest true = omega arith
        by rest false = omega (arith, rest)

    put_rows : (es : List (ℕ × AuthorRow F)) (k : AuthorRow F) → Contains (values_of (insert_entry eq es s row)) k
        → Contains (values_of es) k ⊎ (row ≡ k)
    put_rows [] k c = elim (contains_cases row [] k c) [ inl is ↦ inr is | inr none ↦ absurd (contains_none k none) ]
    put_rows (e ∷ es) k c = by (put_rows es k) (eq s e.0) c
      where
        by : (Contains (values_of (insert_entry eq es s row)) k → Contains (values_of es) k ⊎ (row ≡ k))
            → (b : Bool) → Contains (values_of (if b then (e.0, row) ∷ es else e ∷ insert_entry eq es s row)) k
            → Contains (e.1 ∷ values_of es) k ⊎ (row ≡ k)
        by rest true c =
            elim (contains_cases row (values_of es) k c) [ inl is ↦ inr is | inr later ↦ inl (contains_later e.1 (values_of es) k later) ]
        by rest false c = elim (contains_cases e.1 (values_of (insert_entry eq es s row)) k c) [
          | inl is ↦ inl (subst (λ (l : AuthorRow F). Contains (e.1 ∷ values_of es) l) is (contains_here e.1 (values_of es)))
          | inr later ↦ elim (rest later) [ inl there ↦ inl (contains_later e.1 (values_of es) k there) | inr is ↦ inr is ]
        ]

    -- the rows after one was put in, and the forms in them, where it came in the place of another one or of none
    pub rows_with : (es new : List (ℕ × AuthorRow F)) → new ≡ insert_entry eq es s row → (k : AuthorRow F) → Contains (values_of new) k
        → Contains (values_of es) k ⊎ (row ≡ k)
    rows_with es new is k c = put_rows es k (subst (λ (l : List (ℕ × AuthorRow F)). Contains (values_of l) k) is c)

    -- by numbers: all forms before, those of the row, and those of the one that it came for
    pub forms_with_other : (es new : List (ℕ × AuthorRow F)) (other : AuthorRow F) → new ≡ insert_entry eq es s row
        → Some other ≡ lookup (eq s) es
        → (old more less : ℕ) → old ≡ forms_in (values_of es) → more ≡ length row.row.forms → less ≡ length other.row.forms
        → (less ≤ old + more) × ((old + more) - less ≡ forms_in (values_of new))
    forms_with_other es new other is at old more less eo em el =
        let sum : forms_in (values_of (insert_entry eq es s row)) + length other.row.forms
        ≡ forms_in (values_of es) + length row.row.forms =
        ap (λ (o : Option (AuthorRow F)). forms_in (values_of (insert_entry eq es s row)) + forms_of o) at ∙ put_forms es in
        let same : forms_in (values_of new) ≡ forms_in (values_of (insert_entry eq es s row)) =
        ap (λ (l : List (ℕ × AuthorRow F)). forms_in (values_of l)) is in
        (omega (arith, sum, same, eo, em, el), omega (arith, sum, same, eo, em, el))

    pub forms_with_one : (es new : List (ℕ × AuthorRow F)) → new ≡ insert_entry eq es s row → None ≡ lookup (eq s) es → (old more : ℕ)
        → old ≡ forms_in (values_of es) → more ≡ length row.row.forms → old + more ≡ forms_in (values_of new)
    forms_with_one es new is at old more eo em =
        let sum : forms_in (values_of (insert_entry eq es s row)) + 0 ≡ forms_in (values_of es) + length row.row.forms =
        ap (λ (o : Option (AuthorRow F)). forms_in (values_of (insert_entry eq es s row)) + forms_of o) at ∙ put_forms es in
        let same : forms_in (values_of new) ≡ forms_in (values_of (insert_entry eq es s row)) =
        ap (λ (l : List (ℕ × AuthorRow F)). forms_in (values_of l)) is in
        omega (arith, sum, same, eo, em)
