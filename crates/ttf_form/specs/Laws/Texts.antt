-- The text beside the cells: as long as they are, once a form is applied, and read side by side with them.
use Rattle.std.proofs.Common.{◌≡◌, ℕ, ◌≤◌, Bool, true, false, List, [], ◌∷◌, ◌++◌, length, map, refl, ap, arith}
use Rattle.std.specs.Prelude.{filter, if◌then◌else◌}
use Rattle.ttf_form.specs.declared.form.Form.{Form}
use Rattle.ttf_form.specs.declared.form.Form.TheVariants.{Ins as Insert, Cover as Covered}
use Rattle.ttf_form.specs.Forms.{place_of, extent_of}
use Rattle.ttf_form.specs.Cells.{CellData, applied, chars_where, text_put}
use Rattle.ttf_form.specs.Laws.Lists.{length-put}
use Rattle.ttf_form.specs.Laws.Cells.{length-cells, length-applied}

-- read side by side, part by part
pub chars_where-append : (p : CellData → Bool) (xs ys : List CellData) (ts us : List ℕ) → length ts ≡ length xs
    → chars_where p (xs ++ ys) (ts ++ us) ≡ chars_where p xs ts ++ chars_where p ys us
chars_where-append p [] ys [] us e = refl
chars_where-append p [] ys (t ∷ ts) us e = absurd (omega (arith, e))
chars_where-append p (x ∷ xs) ys [] us e = absurd (omega (arith, e))
chars_where-append p (x ∷ xs) ys (t ∷ ts) us e = by (p x) (chars_where-append p xs ys ts us (omega (arith, e)))
  where
    by : (b : Bool) → chars_where p (xs ++ ys) (ts ++ us) ≡ chars_where p xs ts ++ chars_where p ys us
        → (if b then t ∷ chars_where p (xs ++ ys) (ts ++ us) else chars_where p (xs ++ ys) (ts ++ us))
        ≡ (if b then t ∷ chars_where p xs ts else chars_where p xs ts) ++ chars_where p ys us
    by true rest = ap (λ (l : List ℕ). t ∷ l) rest
    by false rest = rest

-- where the cells decide their characters, those of the cells that pass
pub chars_where-map : (p : CellData → Bool) (f : CellData → ℕ) (cs : List CellData) → chars_where p cs (map f cs) ≡ map f (filter p cs)
chars_where-map p f [] = refl
chars_where-map p f (c ∷ cs) = by (p c) (chars_where-map p f cs)
  where
    by : (b : Bool) → chars_where p cs (map f cs) ≡ map f (filter p cs)
        → (if b then f c ∷ chars_where p cs (map f cs) else chars_where p cs (map f cs))
        ≡ map f (if b then c ∷ filter p cs else filter p cs)
    by true rest = ap (λ (l : List ℕ). f c ∷ l) rest
    by false rest = rest

-- a text as long as the cells stays so, where a form comes with as many characters as it adds cells
pub length-text : (cs : List CellData) (ts new : List ℕ) (a : Form) → place_of a ≤ length cs → length ts ≡ length cs
    → length new ≡ extent_of a → length (text_put a new ts) ≡ length (applied cs a)
length-text cs ts new (Insert a) h e n =
    let text = length-put a.place new ts (omega (arith, h, e)) in
    let cells = length-applied cs (Insert a) (omega (arith, h, length-cells cs)) in
    omega (arith, text, cells, length-cells cs, length-cells (applied cs (Insert a)), e, n)
length-text cs ts new (Covered c) h e n =
    let cells = length-applied cs (Covered c) (omega (arith, h, length-cells cs)) in
    omega (arith, cells, length-cells cs, length-cells (applied cs (Covered c)), e)
