-- One turn of each loop over the forms of a block, and over blocks.
use Rattle.std.proofs.Common.{◌≡◌, ℕ, ◌+◌, ◌<◌, ◌≤◌, inl, inr, List, [], ◌∷◌, ◌++◌, Option, Some, map, min, length, get_or, set, slice_get, take, drop, ◌-◌, refl, sym, ap, ap₂, subst, ◌∙◌, arith, append_assoc, append-nil}
use Rattle.std.proofs.Math.Seq.{take-add}
use Rattle.std.proofs.lemmas.Option.{none-some}
use Rattle.std.proofs.lemmas.List.{drop_more, drop_all, drop-set-lt, take_more, take_more_set, take-append-drop}
use Rattle.op_name.specs.NameData.{NameData}
use Rattle.ttf_form.specs.Families.{IsIn, total_by}
use Rattle.transform_rec.proofs.CallerLemmas.{in_cases}
use Rattle.form_rows.specs.RowSets.{form_after, row_after, PassFits}
use Rattle.form_rows.specs.Code.Blocks.{joined, AreWithin, AreCounted, AreFrom}
use Rattle.form_rows.proofs.BlockPasses.{form-append, row-append, fits_left, fits_right, joined-append}

-- what all forms up to a place have, and the one at the place
pub each_more : {F : Type 0} (P : F → Type 0) (row : List F) (i : ℕ) (f : F) → i < length row → f ≡ get_or row i f → P f
    → ((k : F) → IsIn k (take i row) → P k) → (k : F) → IsIn k (take (i + 1) row) → P k
each_more {F} P row i f less is here h k j =
    let e : take (i + 1) row ≡ take i row ++ f ∷ [] = take_more row i f less ∙ ap (λ (y : F). take i row ++ y ∷ []) (sym is) in
    elim (in_cases k (take i row) (f ∷ []) (subst (λ (l : List F). IsIn k l) e j)) [
      | inl a ↦ h k a
      | inr (inl s) ↦ subst P (sym s) here
      | inr (inr a) ↦ absurd a
    ]

pub total-append : {F : Type 0} (extent : F → ℕ) (xs ys : List F) → total_by extent (xs ++ ys) ≡ total_by extent xs + total_by extent ys
total-append extent [] ys = omega arith
total-append extent (x ∷ xs) ys = let rest = total-append extent xs ys in omega (arith, rest)

-- the cells of two lists are those of both in one
pub counted-append : {F : Type 0} (extent : F → ℕ) (xs ys : List F) (a b s : ℕ) → AreCounted extent a xs → AreCounted extent b ys
    → s ≡ min (a + b) 4294967295 → AreCounted extent s (xs ++ ys)
counted-append extent xs ys a b s h g e less =
    let total = total-append extent xs ys in
    let one = h (omega (arith, e, less)) in
    let two = g (omega (arith, e, less)) in
    omega (arith, total, one, two, e, less)

pub counted-one : {F : Type 0} (extent : F → ℕ) (xs : List F) (f : F) (a b s : ℕ) → AreCounted extent a xs → b ≡ extent f
    → s ≡ min (a + b) 4294967295 → AreCounted extent s (xs ++ f ∷ [])
counted-one extent xs f a b s h e = counted-append extent xs (f ∷ []) a b s h (λ less. omega (arith, e))

module _ {F : Type 0} (row : List F) (i : ℕ) (f : F) (less : i < length row) (is : f ≡ get_or row i f) where
  pub within_more : (place : F → ℕ) (low high low2 high2 : ℕ) → low2 ≤ low → low2 ≤ place f → high ≤ high2 → place f ≤ high2
      → AreWithin place low high (take i row) → AreWithin place low2 high2 (take (i + 1) row)
  within_more place low high low2 high2 a b c d h =
      each_more (λ (k : F). (low2 ≤ place k) × (place k ≤ high2)) row i f less is (b, d)
      (λ k j. (lower low2 low (place k) a (h k j).0, lower (place k) high high2 (h k j).1 c))
    where
      lower : (a b c : ℕ) → a ≤ b → b ≤ c → a ≤ c
      lower a b c h k = omega arith

  pub counted_more : (extent : F → ℕ) (cells more cells2 : ℕ) → more ≡ extent f → cells2 ≡ min (cells + more) 4294967295
      → AreCounted extent cells (take i row) → AreCounted extent cells2 (take (i + 1) row)
  counted_more extent cells more cells2 e s h less2 =
      let t : take (i + 1) row ≡ take i row ++ f ∷ [] = take_more row i f less ∙ ap (λ (y : F). take i row ++ y ∷ []) (sym is) in
      ap (total_by extent) t ∙ counted-one extent (take i row) f cells more cells2 h e s less2

  pub from_more : (named : F → Option NameData) (site least least2 : ℕ) → least2 ≤ least
      → ((n : NameData) → named f ≡ Some n → 0 < least2 → (n.site ≡ site) × (least2 ≤ n.number)) → AreFrom named site least (take i row)
      → AreFrom named site least2 (take (i + 1) row)
  from_more named site least least2 le here h k n j e s =
      each_more (λ (x : F). (m : NameData) → named x ≡ Some m → 0 < least2 → (m.site ≡ site) × (least2 ≤ m.number)) row i f less is here
      (λ x q m p z. earlier x q m p z) k j n e s
    where
      earlier : (x : F) → IsIn x (take i row) → (m : NameData) → named x ≡ Some m → 0 < least2 → (m.site ≡ site) × (least2 ≤ m.number)
      earlier x q m p z = let r = h x m q p (omega (arith, le, z)) in (r.0, omega (arith, le, r.1))

-- forms that are moved on, up to the place i of a list
pub record IsShifting {F : Type 0} (place : F → ℕ) (shifted : F → ℕ → F) (by : ℕ) (all : List F) (i : ℕ) (row : List F) : Type 0 where
  pub fits : (k : F) → IsIn k (drop i row) → place k + by ≤ 4294967295
  pub made : take i row ++ map (λ (k : F). shifted k by) (drop i row) ≡ map (λ (k : F). shifted k by) all

module _ {F : Type 0} (place : F → ℕ) (shifted : F → ℕ → F) (by : ℕ) (all : List F) where
  next_of : (k : F) (i : ℕ) (row : List F) → i < length row → k ≡ get_or row i k → drop i row ≡ k ∷ drop (i + 1) row
  next_of k i row less is = drop_more row i k less ∙ ap (λ (y : F). y ∷ drop (i + 1) row) (sym is)

  pub shifting_start : ((k : F) → IsIn k all → place k + by ≤ 4294967295) → IsShifting place shifted by all 0 all
  shifting_start h = record { fits = h; made = refl }

  pub shifting_one : (k : F) (i : ℕ) (row : List F) → i < length row → k ≡ get_or row i k → IsShifting place shifted by all i row
      → place k + by ≤ 4294967295
  shifting_one k i row less is p = p.fits k (subst (λ (l : List F). IsIn k l) (sym (next_of k i row less is)) (inl refl))

  pub shifting_on : (k : F) (i : ℕ) (row : List F) → i < length row → k ≡ get_or row i k → IsShifting place shifted by all i row
      → IsShifting place shifted by all (i + 1) (set row i (shifted k by))
  shifting_on k i row less is p =
      let v = shifted k by in
      let e : drop i row ≡ k ∷ drop (i + 1) row = next_of k i row less is in
      let d : drop (i + 1) (set row i v) ≡ drop (i + 1) row = drop-set-lt (i + 1) row i v (omega arith) in
      let t : take (i + 1) (set row i v) ≡ take i row ++ v ∷ [] = take_more_set row i v less in
      record {
        fits = λ x j. p.fits x (subst (λ (l : List F). IsIn x l) (sym e) (inr (subst (λ (l : List F). IsIn x l) d j)));
        made = ap₂ (λ (a b : List F). a ++ map (λ (k : F). shifted k by) b) t d
            ∙ (append_assoc (take i row) (v ∷ []) (map (λ (k : F). shifted k by) (drop (i + 1) row))
            ∙ (sym (ap (λ (l : List F). take i row ++ map (λ (k : F). shifted k by) l) e) ∙ p.made));
      }

  pub shifting_end : (i : ℕ) (row : List F) → length row ≤ i → IsShifting place shifted by all i row
      → row ≡ map (λ (k : F). shifted k by) all
  shifting_end i row past p =
      let e : drop i row ≡ [] = drop_all i row past in
      sym (take-append-drop i row) ∙ (ap (λ (l : List F). take i row ++ l) (e ∙ sym (ap (map (λ (k : F). shifted k by)) e)) ∙ p.made)

-- a pass that has come to the place i of a list of blocks
pub record IsPassingBlocks {F : Type 0} (over : F → F → F) (place extent : F → ℕ) (f0 : F) (all : List (List F)) (f : F) (i : ℕ)
    (bs : List (List F)) : Type 0 where
  pub fits : PassFits over place extent f (joined (drop i bs))
  pub form : form_after over f (joined (drop i bs)) ≡ form_after over f0 (joined all)
  pub made : joined (take i bs) ++ row_after over f (joined (drop i bs)) ≡ row_after over f0 (joined all)

module _ {F : Type 0} (over : F → F → F) (place extent : F → ℕ) (f0 : F) (all : List (List F)) where
  pub blocks_start : PassFits over place extent f0 (joined all) → IsPassingBlocks over place extent f0 all f0 0 all
  blocks_start h = record { fits = h; form = refl; made = refl }

  block_next : (b : List F) (i : ℕ) (bs : List (List F)) → i < length bs → b ≡ get_or bs i b
      → joined (drop i bs) ≡ b ++ joined (drop (i + 1) bs)
  block_next b i bs less is = ap joined (drop_more bs i b less) ∙ ap (λ (y : List F). y ++ joined (drop (i + 1) bs)) (sym is)

  block_fits : (f : F) (b : List F) (i : ℕ) (bs : List (List F)) → i < length bs → b ≡ get_or bs i b
      → IsPassingBlocks over place extent f0 all f i bs → PassFits over place extent f (b ++ joined (drop (i + 1) bs))
  block_fits f b i bs less is p = subst (λ (l : List F). PassFits over place extent f l) (block_next b i bs less is) p.fits

  pub blocks_one : (f : F) (b : List F) (i : ℕ) (bs : List (List F)) → i < length bs → b ≡ get_or bs i b
      → IsPassingBlocks over place extent f0 all f i bs → PassFits over place extent f b
  blocks_one f b i bs less is p = fits_left over place extent f b (joined (drop (i + 1) bs)) (block_fits f b i bs less is p)

  pub blocks_on : (f g : F) (b c : List F) (i : ℕ) (bs : List (List F)) → i < length bs → b ≡ get_or bs i b → g ≡ form_after over f b
      → c ≡ row_after over f b → IsPassingBlocks over place extent f0 all f i bs
      → IsPassingBlocks over place extent f0 all g (i + 1) (set bs i c)
  blocks_on f g b c i bs less is fe ce p =
      let rest : List F = joined (drop (i + 1) bs) in
      let e : joined (drop i bs) ≡ b ++ rest = block_next b i bs less is in
      let d : joined (drop (i + 1) (set bs i c)) ≡ rest = ap joined (drop-set-lt (i + 1) bs i c (omega arith)) in
      let t : joined (take (i + 1) (set bs i c)) ≡ joined (take i bs) ++ c =
      ap joined (take_more_set bs i c less)
      ∙ (joined-append (take i bs) (c ∷ []) ∙ ap (λ (l : List F). joined (take i bs) ++ l) (append-nil c)) in
      let turn : row_after over f (b ++ rest) ≡ c ++ row_after over g rest =
      row-append over f b rest ∙ ap₂ (λ (l : List F) (h : F). l ++ row_after over h rest) (sym ce) (sym fe) in
      record {
        fits = subst (λ (l : List F). PassFits over place extent g l) (sym d)
            (subst (λ (h : F). PassFits over place extent h rest) (sym fe)
            (fits_right over place extent f b rest (block_fits f b i bs less is p)));
        form = ap (form_after over g) d
            ∙ (ap (λ (h : F). form_after over h rest) fe ∙ (sym (form-append over f b rest) ∙ (sym (ap (form_after over f) e) ∙ p.form)));
        made = ap₂ (λ (l m : List F). l ++ row_after over g m) t d
            ∙ (append_assoc (joined (take i bs)) c (row_after over g rest)
            ∙ (ap (λ (l : List F). joined (take i bs) ++ l) (sym turn)
            ∙ (sym (ap (λ (l : List F). joined (take i bs) ++ row_after over f l) e) ∙ p.made)));
      }

  pub blocks_form : (f : F) (i : ℕ) (bs : List (List F)) → length bs ≤ i → IsPassingBlocks over place extent f0 all f i bs
      → f ≡ form_after over f0 (joined all)
  blocks_form f i bs past p = sym (ap (λ (l : List (List F)). form_after over f (joined l)) (drop_all i bs past)) ∙ p.form

  pub blocks_row : (f : F) (i : ℕ) (bs : List (List F)) → length bs ≤ i → IsPassingBlocks over place extent f0 all f i bs
      → joined bs ≡ row_after over f0 (joined all)
  blocks_row f i bs past p =
      let e : drop i bs ≡ [] = drop_all i bs past in
      let whole : joined bs ≡ joined (take i bs) ++ joined (drop i bs) =
      ap joined (sym (take-append-drop i bs)) ∙ joined-append (take i bs) (drop i bs) in
      whole ∙ (ap (λ (l : List (List F)). joined (take i bs) ++ joined l) e
      ∙ (sym (ap (λ (l : List (List F)). joined (take i bs) ++ row_after over f (joined l)) e) ∙ p.made))

-- the forms of the blocks up to a place, and those of the block at the place
pub joined_more : {F : Type 0} (bs : List (List F)) (i : ℕ) (b : List F) → i < length bs → b ≡ get_or bs i b
    → joined (take (i + 1) bs) ≡ joined (take i bs) ++ b
joined_more {F} bs i b less is =
    ap joined (take_more bs i b less ∙ ap (λ (y : List F). take i bs ++ y ∷ []) (sym is))
    ∙ (joined-append (take i bs) (b ∷ []) ∙ ap (λ (l : List F). joined (take i bs) ++ l) (append-nil b))

-- what all forms of two lists have
pub both_parts : {F : Type 0} (P : F → Type 0) (xs ys : List F) → ((k : F) → IsIn k xs → P k) → ((k : F) → IsIn k ys → P k) → (k : F)
    → IsIn k (xs ++ ys) → P k
both_parts P xs ys h g k j = elim (in_cases k xs ys j) [ inl a ↦ h k a | inr a ↦ g k a ]

pub joined_each : {F : Type 0} (P : F → Type 0) (bs : List (List F)) (i : ℕ) (b : List F) → i < length bs → b ≡ get_or bs i b
    → ((k : F) → IsIn k (joined (take i bs)) → P k) → ((k : F) → IsIn k b → P k) → (k : F) → IsIn k (joined (take (i + 1) bs)) → P k
joined_each {F} P bs i b less is h g k j =
    both_parts P (joined (take i bs)) b h g k (subst (λ (l : List F). IsIn k l) (joined_more bs i b less is) j)

-- blocks of a list up to a place, and one more of the forms from there on
pub cut_more : {F : Type 0} (forms : List F) (i size : ℕ) (bs new : List (List F)) (b : List F) → b ≡ take ((i + size) - i) (drop i forms)
    → new ≡ bs ++ b ∷ [] → joined bs ≡ take i forms → joined new ≡ take (i + size) forms
cut_more {F} forms i size bs new b e n h =
    ap joined n
    ∙ (joined-append bs (b ∷ [])
    ∙ (ap₂ (λ (l m : List F). l ++ m) h (append-nil b ∙ (e ∙ ap (λ (k : ℕ). take k (drop i forms)) (rest i size)))
    ∙ sym (take-add i size forms)))
  where
    rest : (i size : ℕ) → (i + size) - i ≡ size
    rest i size = omega arith

-- blocks of the last forms, put behind the others
pub moved_blocks : {F : Type 0} (bs more new : List (List F)) (rest left : List F) → new ≡ bs ++ more → left ≡ [] → joined more ≡ rest
    → joined new ++ left ≡ joined bs ++ rest
moved_blocks {F} bs more new rest left n l h =
    ap₂ (λ (c : List (List F)) (r : List F). joined c ++ r) n l
    ∙ (append-nil (joined (bs ++ more)) ∙ (joined-append bs more ∙ ap (λ (r : List F). joined bs ++ r) h))

get_left : {F : Type 0} (xs ys zs : List F) (x : F) → slice_get xs 0 ≡ Some x → slice_get ((xs ++ ys) ++ zs) 0 ≡ Some x
get_left [] ys zs x h = absurd (none-some x h)
get_left (y ∷ xs) ys zs x h = h

-- the first form of the first block is the first of all
pub first_joined : {F : Type 0} (bs : List (List F)) (rest b : List F) (x : F) → 0 < length bs → b ≡ get_or bs 0 b → slice_get b 0 ≡ Some x
    → slice_get (joined bs ++ rest) 0 ≡ Some x
first_joined [] rest b x less is h = absurd (omega (arith, less))
first_joined {F} (c ∷ cs) rest b x less is h = get_left c (joined cs) rest x (sym (ap (λ (l : List F). slice_get l 0) is) ∙ h)
