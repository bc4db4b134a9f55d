-- A form whose place is smaller or greater than those of all forms that it passes, and rows in parts.
use Rattle.std.proofs.Common.{◌≡◌, ℕ, suc, ◌+◌, ◌<◌, ◌≤◌, min, inl, inr, List, [], ◌∷◌, ◌++◌, Option, map, length, refl, sym, ap, ap₂, subst, ◌∙◌, arith, append_assoc}
use Rattle.op_name.specs.NameData.{NameData}
use Rattle.ttf_form.specs.Families.{IsIn, total_by}
use Rattle.form_rows.specs.RowSets.{form_after, row_after, PassFits}
use Rattle.form_rows.specs.Code.Blocks.{joined, AreWithin, AreFrom, IsBlock}

module _ {F : Type 0} (over : F → F → F) (place extent : F → ℕ) (shifted : F → ℕ → F) (stays : (a b : F) → place a < place b → over a b ≡ a)
    (moves : (a b : F) → place b < place a → over a b ≡ shifted a (extent b)) where
  -- a form in front of all others stays, and these move by its cells
  pub front_stays : (f : F) (ks : List F) → ((k : F) → IsIn k ks → place f < place k) → form_after over f ks ≡ f
  front_stays f [] h = refl
  front_stays f (k ∷ ks) h = ap (λ (g : F). form_after over g ks) (stays f k (h k (inl refl))) ∙ front_stays f ks (λ x i. h x (inr i))

  pub front_moves : (f : F) (ks : List F) → ((k : F) → IsIn k ks → place f < place k)
      → row_after over f ks ≡ map (λ (k : F). shifted k (extent f)) ks
  front_moves f [] h = refl
  front_moves f (k ∷ ks) h =
      ap₂ (λ (a : F) (b : List F). a ∷ b) (moves k f (h k (inl refl)))
      (ap (λ (g : F). row_after over g ks) (stays f k (h k (inl refl))) ∙ front_moves f ks (λ x i. h x (inr i)))

  pub front_fits : (f : F) (ks : List F) → ((k : F) → IsIn k ks → place f < place k) → PassFits over place extent f ks → (x : F) → IsIn x ks
      → place x + extent f ≤ 4294967295
  front_fits f [] h p x i = absurd i
  front_fits f (k ∷ ks) h p x (inl e) = subst (λ (y : F). place y + extent f ≤ 4294967295) (sym e) p.1.0
  front_fits f (k ∷ ks) h p x (inr i) =
      front_fits f ks (λ y j. h y (inr j)) (subst (λ (g : F). PassFits over place extent g ks) (stays f k (h k (inl refl))) p.1.1) x i

  module _ (at : (a : F) (n : ℕ) → place (shifted a n) ≡ place a + n) (none : (a : F) → shifted a 0 ≡ a)
      (twice : (a : F) (m n : ℕ) → shifted (shifted a m) n ≡ shifted a (m + n)) where
    more : (a b n : ℕ) → a < b → a < b + n
    more a b n h = omega arith

    further : (f : F) (n : ℕ) (ks : List F) → ((k : F) → IsIn k ks → place k < place f) → (x : F) → IsIn x ks
        → place x < place (shifted f n)
    further f n ks h x i = subst (λ (m : ℕ). place x < m) (sym (at f n)) (more (place x) (place f) n (h x i))

    -- a form after all others moves by their cells, and these stay
    pub last_moves : (f : F) (ks : List F) → ((k : F) → IsIn k ks → place k < place f)
        → form_after over f ks ≡ shifted f (total_by extent ks)
    last_moves f [] h = sym (none f)
    last_moves f (k ∷ ks) h =
        ap (λ (g : F). form_after over g ks) (moves f k (h k (inl refl)))
        ∙ (last_moves (shifted f (extent k)) ks (further f (extent k) ks (λ x i. h x (inr i))) ∙ twice f (extent k) (total_by extent ks))

    pub last_stays : (f : F) (ks : List F) → ((k : F) → IsIn k ks → place k < place f) → row_after over f ks ≡ ks
    last_stays f [] h = refl
    last_stays f (k ∷ ks) h =
        ap₂ (λ (a : F) (b : List F). a ∷ b) (stays k f (h k (inl refl)))
        (ap (λ (g : F). row_after over g ks) (moves f k (h k (inl refl)))
        ∙ last_stays (shifted f (extent k)) ks (further f (extent k) ks (λ x i. h x (inr i))))

    pub last_fits : (f : F) (ks : List F) → ((k : F) → IsIn k ks → place k < place f) → place f ≤ 4294967295
        → PassFits over place extent f ks → place f + total_by extent ks ≤ 4294967295
    last_fits f [] h le p = omega arith
    last_fits f (k ∷ ks) h le p =
        let e = at f (extent k) in
        let ih = last_fits (shifted f (extent k)) ks (further f (extent k) ks (λ x i. h x (inr i)))
        (subst (λ (m : ℕ). m ≤ 4294967295) (sym e) p.0)
        (subst (λ (g : F). PassFits over place extent g ks) (moves f k (h k (inl refl))) p.1.1) in
        omega (arith, ih, e)

module _ {F : Type 0} (over : F → F → F) where
  pub length-row : (f : F) (ks : List F) → length (row_after over f ks) ≡ length ks
  length-row f [] = refl
  length-row f (k ∷ ks) = ap suc (length-row (over f k) ks)

  -- what an inclusion keeps of each form stays the same of a row
  pub total_row : (extent : F → ℕ) → ((a b : F) → extent (over a b) ≡ extent a) → (f : F) (ks : List F)
      → total_by extent (row_after over f ks) ≡ total_by extent ks
  total_row extent same f [] = refl
  total_row extent same f (k ∷ ks) = ap₂ (λ (a b : ℕ). a + b) (same k f) (total_row extent same (over f k) ks)

  pub from_row : (named : F → Option NameData) → ((a b : F) → named (over a b) ≡ named a) → (site least : ℕ) (f : F) (ks : List F)
      → AreFrom named site least ks → AreFrom named site least (row_after over f ks)
  from_row named keeps site least f [] h x n i e s = absurd i
  from_row named keeps site least f (k ∷ ks) h x n (inl p) e s = h k n (inl refl) (sym (keeps k f) ∙ (ap named (sym p) ∙ e)) s
  from_row named keeps site least f (k ∷ ks) h x n (inr j) e s =
      from_row named keeps site least (over f k) ks (λ y m q. h y m (inr q)) x n j e s

  -- a pass over two lists, one after the other
  pub form-append : (f : F) (xs ys : List F) → form_after over f (xs ++ ys) ≡ form_after over (form_after over f xs) ys
  form-append f [] ys = refl
  form-append f (x ∷ xs) ys = form-append (over f x) xs ys

  pub row-append : (f : F) (xs ys : List F) → row_after over f (xs ++ ys) ≡ row_after over f xs ++ row_after over (form_after over f xs) ys
  row-append f [] ys = refl
  row-append f (x ∷ xs) ys = ap (λ (l : List F). over x f ∷ l) (row-append (over f x) xs ys)

  pub fits_left : (place extent : F → ℕ) (f : F) (xs ys : List F) → PassFits over place extent f (xs ++ ys)
      → PassFits over place extent f xs
  fits_left place extent f [] ys p = tt
  fits_left place extent f (x ∷ xs) ys p = (p.0, (p.1.0, fits_left place extent (over f x) xs ys p.1.1))

  pub fits_right : (place extent : F → ℕ) (f : F) (xs ys : List F) → PassFits over place extent f (xs ++ ys)
      → PassFits over place extent (form_after over f xs) ys
  fits_right place extent f [] ys p = p
  fits_right place extent f (x ∷ xs) ys p = fits_right place extent (over f x) xs ys p.1.1

pub joined-append : {F : Type 0} (bs cs : List (List F)) → joined (bs ++ cs) ≡ joined bs ++ joined cs
joined-append [] cs = refl
joined-append {F} (b ∷ bs) cs = ap (λ (l : List F). b ++ l) (joined-append bs cs) ∙ sym (append_assoc b (joined bs) (joined cs))

-- bounds of places say on which side of a form they are
pub all_before : {F : Type 0} (place : F → ℕ) (high : ℕ) (f : F) (ks : List F) → high < place f → ((k : F) → IsIn k ks → place k ≤ high)
    → (k : F) → IsIn k ks → place k < place f
all_before place high f ks less h k i = let p = h k i in omega (arith, less, p)

pub all_after : {F : Type 0} (place : F → ℕ) (low : ℕ) (f : F) (ks : List F) → place f < low → ((k : F) → IsIn k ks → low ≤ place k)
    → (k : F) → IsIn k ks → place f < place k
all_after place low f ks less h k i = let p = h k i in omega (arith, less, p)

-- a pass over two lists, in parts
pub passed_parts : {F : Type 0} (over : F → F → F) (f g : F) (xs ys xs2 ys2 : List F) → g ≡ form_after over f xs → xs2 ≡ row_after over f xs
    → ys2 ≡ row_after over g ys → xs2 ++ ys2 ≡ row_after over f (xs ++ ys)
passed_parts {F} over f g xs ys xs2 ys2 e d h =
    ap₂ (λ (a b : List F). a ++ b) d (h ∙ ap (λ (k : F). row_after over k ys) e) ∙ sym (row-append over f xs ys)

-- the places of forms that moved on, within bounds that moved with them
within_shifted : {F : Type 0} (place : F → ℕ) (shifted : F → ℕ → F) → ((a : F) (n : ℕ) → place (shifted a n) ≡ place a + n)
    → (low high low2 high2 by : ℕ) → low2 ≡ min (low + by) 4294967295 → high2 ≡ min (high + by) 4294967295
    → (ks : List F) → AreWithin place low high ks → ((k : F) → IsIn k ks → place k + by ≤ 4294967295)
    → AreWithin place low2 high2 (map (λ (k : F). shifted k by) ks)
within_shifted place shifted at low high low2 high2 by e d [] h fits x i = absurd i
within_shifted place shifted at low high low2 high2 by e d (k ∷ ks) h fits x (inl p) =
    let w = h k (inl refl) in
    let b = fits k (inl refl) in
    let q = ap place p ∙ at k by in
    (lower (place k) (place x) low low2 by e w.0 b q, upper (place k) (place x) high high2 by d w.1 b q)
  where
    lower : (k x low low2 by : ℕ) → low2 ≡ min (low + by) 4294967295 → low ≤ k → k + by ≤ 4294967295 → x ≡ k + by → low2 ≤ x
    lower k x low low2 by e w b q = omega arith

    upper : (k x high high2 by : ℕ) → high2 ≡ min (high + by) 4294967295 → k ≤ high → k + by ≤ 4294967295 → x ≡ k + by → x ≤ high2
    upper k x high high2 by e w b q = omega arith
within_shifted place shifted at low high low2 high2 by e d (k ∷ ks) h fits x (inr i) =
    within_shifted place shifted at low high low2 high2 by e d ks (λ y j. h y (inr j)) (λ y j. fits y (inr j)) x i

-- what is known of a block after a pass
module _ {F : Type 0} (over : F → F → F) (place extent : F → ℕ) (named : F → Option NameData)
    (same : (a b : F) → extent (over a b) ≡ extent a) (keeps : (a b : F) → named (over a b) ≡ named a) where
  pub block_passed : (f : F) (ks new : List F) (low high low2 high2 cells site least : ℕ)
      → IsBlock place extent named low high cells site least ks → new ≡ row_after over f ks → AreWithin place low2 high2 new
      → IsBlock place extent named low2 high2 cells site least new
  block_passed f ks new low high low2 high2 cells site least b e w =
      let size = ap length e ∙ length-row over f ks in
      record {
        some = subst (λ (n : ℕ). 0 < n) (sym size) b.some;
        within = w;
        counted = λ less. ap (total_by extent) e ∙ (total_row over extent same f ks ∙ b.counted less);
        from = subst (λ (l : List F). AreFrom named site least l) (sym e) (from_row over named keeps site least f ks b.from);
      }

  pub block_moved : (shifted : F → ℕ → F) → ((a b : F) → place a < place b → over a b ≡ a)
      → ((a b : F) → place b < place a → over a b ≡ shifted a (extent b)) → ((a : F) (n : ℕ) → place (shifted a n) ≡ place a + n)
      → (f : F) (ks new : List F) (low high low2 high2 cells site least one two : ℕ)
      → IsBlock place extent named low high cells site least ks → place f < low → PassFits over place extent f ks
      → new ≡ row_after over f ks
      → one ≡ extent f → two ≡ extent f → low2 ≡ min (low + one) 4294967295 → high2 ≡ min (high + two) 4294967295
      → IsBlock place extent named low2 high2 cells site least new
  block_moved shifted stays moves at f ks new low high low2 high2 cells site least one two b less fits e o t l h =
      let after = all_after place low f ks less (λ k i. (b.within k i).0) in
      let is : new ≡ map (λ (k : F). shifted k (extent f)) ks = e ∙ front_moves over place extent shifted stays moves f ks after in
      let low_is : low2 ≡ min (low + extent f) 4294967295 = l ∙ ap (λ (n : ℕ). min (low + n) 4294967295) o in
      let high_is : high2 ≡ min (high + extent f) 4294967295 = h ∙ ap (λ (n : ℕ). min (high + n) 4294967295) t in
      block_passed f ks new low high low2 high2 cells site least b e
      (subst (λ (l : List F). AreWithin place low2 high2 l) (sym is)
      (within_shifted place shifted at low high low2 high2 (extent f) low_is high_is ks b.within
      (front_fits over place extent shifted stays moves f ks after fits)))
