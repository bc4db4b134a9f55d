-- The turns of a pass and of a way back, over lists.
use Rattle.std.proofs.Common.{◌≡◌, ℕ, ◌+◌, ◌<◌, ◌≤◌, List, [], ◌∷◌, ◌++◌, length, get_or, set, take, drop, refl, sym, ap, ap₂, subst, ◌∙◌, arith, append_assoc}
use Rattle.std.proofs.lemmas.List.{drop_more, drop_all, drop-set-lt, take_more, take_more_set, take-append-drop}
use Rattle.form_rows.specs.RowSets.{form_after, row_after, front_of, PassFits}

-- a pass that has come to the place i of a row
pub record IsPassing {F : Type 0} (over : F → F → F) (place extent : F → ℕ) (f0 : F) (all : List F) (f : F) (i : ℕ) (row : List F) : Type 0
  where
    pub fits : PassFits over place extent f (drop i row)
    pub form : form_after over f (drop i row) ≡ form_after over f0 all
    pub made : take i row ++ row_after over f (drop i row) ≡ row_after over f0 all

module _ {F : Type 0} (over : F → F → F) (place extent : F → ℕ) (f0 : F) (all : List F) where
  pub passing_start : PassFits over place extent f0 all → IsPassing over place extent f0 all f0 0 all
  passing_start h = record { fits = h; form = refl; made = refl }

  next_of : (k : F) (i : ℕ) (row : List F) → i < length row → k ≡ get_or row i k → drop i row ≡ k ∷ drop (i + 1) row
  next_of k i row less is = drop_more row i k less ∙ ap (λ (y : F). y ∷ drop (i + 1) row) (sym is)

  fits_next : (f k : F) (i : ℕ) (row : List F) → i < length row → k ≡ get_or row i k → IsPassing over place extent f0 all f i row
      → PassFits over place extent f (k ∷ drop (i + 1) row)
  fits_next f k i row less is p = subst (λ (l : List F). PassFits over place extent f l) (next_of k i row less is) p.fits

  pub passing_one : (f k : F) (i : ℕ) (row : List F) → i < length row → k ≡ get_or row i k → IsPassing over place extent f0 all f i row
      → place f + extent k ≤ 4294967295
  passing_one f k i row less is p = (fits_next f k i row less is p).0

  pub passing_other : (f k : F) (i : ℕ) (row : List F) → i < length row → k ≡ get_or row i k → IsPassing over place extent f0 all f i row
      → place k + extent f ≤ 4294967295
  passing_other f k i row less is p = (fits_next f k i row less is p).1.0

  pub passing_on : (f k : F) (i : ℕ) (row : List F) → i < length row → k ≡ get_or row i k → IsPassing over place extent f0 all f i row
      → IsPassing over place extent f0 all (over f k) (i + 1) (set row i (over k f))
  passing_on f k i row less is p =
      let v = over k f in
      let e : drop i row ≡ k ∷ drop (i + 1) row = next_of k i row less is in
      let d : drop (i + 1) (set row i v) ≡ drop (i + 1) row = drop-set-lt (i + 1) row i v (omega arith) in
      let t : take (i + 1) (set row i v) ≡ take i row ++ v ∷ [] = take_more_set row i v less in
      let rest : List F = drop (i + 1) row in
      record {
        fits = subst (λ (l : List F). PassFits over place extent (over f k) l) (sym d) (fits_next f k i row less is p).1.1;
        form = ap (form_after over (over f k)) d ∙ (sym (ap (form_after over f) e) ∙ p.form);
        made = ap₂ (λ (a b : List F). a ++ row_after over (over f k) b) t d
            ∙ (append_assoc (take i row) (v ∷ []) (row_after over (over f k) rest)
            ∙ (sym (ap (λ (l : List F). take i row ++ row_after over f l) e) ∙ p.made));
      }

  pub passing_form : (f : F) (i : ℕ) (row : List F) → length row ≤ i → IsPassing over place extent f0 all f i row
      → f ≡ form_after over f0 all
  passing_form f i row past p = sym (ap (form_after over f) (drop_all i row past)) ∙ p.form

  pub passing_row : (f : F) (i : ℕ) (row : List F) → length row ≤ i → IsPassing over place extent f0 all f i row
      → row ≡ row_after over f0 all
  passing_row f i row past p =
      let e : drop i row ≡ [] = drop_all i row past in
      sym (take-append-drop i row) ∙ (ap (λ (l : List F). take i row ++ l) (e ∙ sym (ap (row_after over f) e)) ∙ p.made)

module _ {F : Type 0} (back : F → F → F) where
  front_last : (f k : F) (xs : List F) → front_of back f (xs ++ k ∷ []) ≡ front_of back (back f k) xs
  front_last f k [] = refl
  front_last f k (x ∷ xs) = ap (λ (h : F). back h x) (front_last f k xs)

  pub front_on : (f k : F) (i j : ℕ) (row : List F) (end : F) → i ≡ j + 1 → j < length row → k ≡ get_or row j k
      → front_of back f (take i row) ≡ end → front_of back (back f k) (take j row) ≡ end
  front_on f k i j row end e less is p =
      let t : take i row ≡ take j row ++ k ∷ [] =
      ap (λ (n : ℕ). take n row) e ∙ (take_more row j k less ∙ ap (λ (y : F). take j row ++ y ∷ []) (sym is)) in
      sym (front_last f k (take j row)) ∙ (sym (ap (front_of back f) t) ∙ p)
