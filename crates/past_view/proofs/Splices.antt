-- The text of cells of which some are put, or one is shown, or hidden.
use Rattle.std.proofs.Common.{◌≡◌, ℕ, zero, suc, ◌+◌, ◌≤◌, min, Bool, true, false, List, [], ◌∷◌, ◌++◌, Option, Some, None, length, map, take, drop, slice_get, refl, sym, ap, ◌∙◌, subst, arith, append_assoc, length-append, take-append-drop}
use Rattle.std.specs.Prelude.{encode_utf8, encode_utf8_all}
use Rattle.std.specs.Option.{option_map_or}
use Rattle.std.proofs.lemmas.List.{take_at, drop_at, append-nil, length-take, length-drop}
use Rattle.std.proofs.lemmas.List.Elements.{filter-append}
use Rattle.std.proofs.lemmas.Str.{encodes-append}
use Rattle.op_name.specs.NameData.{NameData, name_eq}
use Rattle.ttf_form.specs.declared.ins.Ins.{Ins}
use Rattle.ttf_form.specs.declared.form.Form.{Form}
use Rattle.ttf_form.specs.declared.cover.Mark.{Mark}
use Rattle.ttf_form.specs.declared.cover.Mark.TheVariants.{Own, By}
use Rattle.ttf_form.specs.declared.form.Form.TheVariants.{Ins as Insert, Cover as Covered}
use Rattle.ttf_form.specs.Names.{LacksName, NewNames, block}
use Rattle.ttf_form.specs.Forms.{place_of, added_by, extent_of}
use Rattle.ttf_form.specs.Cells.{CellData, cell_shown, cells_of, bare_from, bare_cells, put_in, change_at, marked, marked_if, raised, marked_in, applied, chars_where, FitsCells}
use Rattle.ttf_form.specs.Laws.Cells.{kept_at, lacks-put, length-bare}
use Rattle.ttf_form.specs.Laws.Marks.{raised_none, lacks_got}
use Rattle.ttf_form.specs.Laws.Deleters.{name_self, name_same}
use Rattle.ttf_form.specs.Laws.Texts.{chars_where-append}
use Rattle.visible_view.specs.View.{shown_cells, shown_text}
use Rattle.past_view.specs.Code.Playing.{AreApart, shown_beside, text_front, text_rest, text_with, text_without}

-- ---- cells of different inserts

apart_put : (k : ℕ) (new ks : List (NameData × ℕ)) → AreApart new → AreApart ks → NewNames ks new → AreApart (put_in k new ks)
apart_put zero [] ks h g n = g
apart_put zero (a ∷ new) ks h g n = (lacks-put zero new ks a.0 n.0 h.0, apart_put zero new ks h.1 g n.1)
apart_put (suc k) new [] h g n = subst AreApart (sym (append-nil new)) h
apart_put (suc k) new (x ∷ ks) h g n = (lacks-put k new ks x.0 g.0 (others new n), apart_put k new ks h g.1 (fewer new n))
  where
    others : (more : List (NameData × ℕ)) → NewNames (x ∷ ks) more → LacksName more x.0
    others [] m = tt
    others (a ∷ more) m = (λ e. m.0.0 (sym e), others more m.1)

    fewer : (more : List (NameData × ℕ)) → NewNames (x ∷ ks) more → NewNames ks more
    fewer [] m = tt
    fewer (a ∷ more) m = (m.0.1, fewer more m.1)

block_apart : (n : NameData) (first k : ℕ) → k ≤ 1 → AreApart (block n first k)
block_apart n first zero le = tt
block_apart n first (suc zero) le = (tt, tt)
block_apart n first (suc (suc k)) le = absurd (omega (arith, le))

added_apart : (f : Form) → extent_of f ≤ 1 → AreApart (added_by f)
added_apart (Insert a) le = block_apart a.name 0 a.len le
added_apart (Covered c) le = tt

-- a form that fits and adds one cell at most leaves cells of different inserts
pub apart_applied : (cs : List CellData) (f : Form) → AreApart (cells_of cs) → FitsCells cs f → extent_of f ≤ 1
    → AreApart (cells_of (applied cs f))
apart_applied cs f h fits le =
    subst AreApart (sym (kept_at cs f)) (apart_put (place_of f) (added_by f) (cells_of cs) (added_apart f le) h fits.1)

-- a mark of an insert is on its one cell
raised_once : (g p : ℕ) (cs : List CellData) (c : CellData) → AreApart (cells_of cs) → slice_get cs p ≡ Some c
    → map (raised g c.name) cs ≡ change_at p (marked (Own g)) cs
raised_once g p [] c h e = let none : None ≡ Some c = e in cc
raised_once g zero (x ∷ xs) c h e =
    let is : x ≡ c = cc in
    subst (λ (d : CellData). map (raised g d.name) (x ∷ xs) ≡ marked (Own g) x ∷ xs) is
    (ap (λ (t : Bool). marked_if t (Own g) x ∷ map (raised g x.name) xs) (name_self x.name)
    ∙ ap (λ (l : List CellData). marked (Own g) x ∷ l) (raised_none g x.name xs h.0))
raised_once g (suc p) (x ∷ xs) c h e = by (name_eq x.name c.name) refl (raised_once g p xs c h.1 e)
  where
    by : (b : Bool) → name_eq x.name c.name ≡ b → map (raised g c.name) xs ≡ change_at p (marked (Own g)) xs
        → map (raised g c.name) (x ∷ xs) ≡ x ∷ change_at p (marked (Own g)) xs
    by true f rest = absurd (lacks_got xs x.name p c h.0 e (sym (name_same x.name c.name f)))
    by false f rest =
        ap (λ (t : Bool). marked_if t (Own g) x ∷ map (raised g c.name) xs) f
        ∙ ap (λ (l : List CellData). x ∷ l) rest

-- so each mark is on the cell at its place alone
pub marked_once : (m : Mark) (p : ℕ) (cs : List CellData) (c : CellData) → AreApart (cells_of cs) → slice_get cs p ≡ Some c
    → marked_in p m cs ≡ change_at p (marked m) cs
marked_once (Own g) p cs c h e =
    ap (λ (o : Option CellData). option_map_or (λ d. map (raised g d.name) cs) o cs) e ∙ raised_once g p cs c h e
marked_once (By d g) p cs c h e = refl

-- ---- one cell among the others

take_changed : (f : CellData → CellData) (p : ℕ) (cs : List CellData) → take p (change_at p f cs) ≡ take p cs
take_changed f zero [] = refl
take_changed f (suc p) [] = refl
take_changed f zero (x ∷ xs) = refl
take_changed f (suc p) (x ∷ xs) = ap (λ (l : List CellData). x ∷ l) (take_changed f p xs)

drop_changed : (f : CellData → CellData) (p : ℕ) (cs : List CellData) → drop (suc p) (change_at p f cs) ≡ drop (suc p) cs
drop_changed f zero [] = refl
drop_changed f (suc p) [] = refl
drop_changed f zero (x ∷ xs) = refl
drop_changed f (suc p) (x ∷ xs) = drop_changed f p xs

pub got_changed : (f : CellData → CellData) (p : ℕ) (cs : List CellData) (c : CellData) → slice_get cs p ≡ Some c
    → slice_get (change_at p f cs) p ≡ Some (f c)
got_changed f p [] c e = let none : None ≡ Some c = e in cc
got_changed f zero (x ∷ xs) c e = let is : x ≡ c = cc in ap (λ (d : CellData). Some (f d)) is
got_changed f (suc p) (x ∷ xs) c e = got_changed f p xs c e

around : {A : Type 0} (p : ℕ) (xs : List A) (y : A) → slice_get xs p ≡ Some y → xs ≡ take p xs ++ (y ∷ drop (suc p) xs)
around p [] y e = let none : None ≡ Some y = e in cc
around zero (x ∷ xs) y e = let is : x ≡ y = cc in ap (λ d. d ∷ xs) is
around (suc p) (x ∷ xs) y e = ap (λ l. x ∷ l) (around p xs y e)

-- ---- the text of stretches of cells

pub taken_long : (p : ℕ) (cs : List CellData) (ts : List ℕ) → length ts ≡ length cs → length (take p ts) ≡ length (take p cs)
taken_long p cs ts e = length-take p ts ∙ ap (λ (n : ℕ). min p n) e ∙ sym (length-take p cs)

pub dropped_long : (p : ℕ) (cs : List CellData) (ts : List ℕ) → length ts ≡ length cs → length (drop p ts) ≡ length (drop p cs)
dropped_long p cs ts e = omega (arith, length-drop p ts, length-drop p cs, e)

text-append : (xs ys : List CellData) (ts us : List ℕ) → length ts ≡ length xs
    → shown_text (xs ++ ys) (ts ++ us) ≡ shown_text xs ts ++ shown_text ys us
text-append xs ys ts us e =
    ap encode_utf8_all (chars_where-append cell_shown xs ys ts us e)
    ∙ encodes-append (chars_where cell_shown xs ts) (chars_where cell_shown ys us)

shown_count-append : (xs ys : List CellData) → length (shown_cells (xs ++ ys)) ≡ length (shown_cells xs) + length (shown_cells ys)
shown_count-append xs ys =
    ap (λ (cs : List CellData). length cs) (filter-append cell_shown xs ys) ∙ length-append (shown_cells xs) (shown_cells ys)

pub text_split : (p : ℕ) (cs : List CellData) (ts : List ℕ) → length ts ≡ length cs
    → shown_text cs ts ≡ text_front cs ts p ++ shown_text (drop p cs) (drop p ts)
text_split p cs ts e =
    (λ i. shown_text (sym (take-append-drop p cs) i) (sym (take-append-drop p ts) i))
    ∙ text-append (take p cs) (drop p cs) (take p ts) (drop p ts) (taken_long p cs ts e)

pub count_split : (p : ℕ) (cs : List CellData)
    → length (shown_cells cs) ≡ length (shown_cells (take p cs)) + length (shown_cells (drop p cs))
count_split p cs =
    ap (λ (l : List CellData). length (shown_cells l)) (sym (take-append-drop p cs)) ∙ shown_count-append (take p cs) (drop p cs)

-- all cells of a new insert are shown
chars_bare : (n : NameData) (t first k : ℕ) (ls : List ℕ) → length ls ≡ k → chars_where cell_shown (bare_from n t first k) ls ≡ ls
chars_bare n t first zero [] e = refl
chars_bare n t first zero (l ∷ ls) e = absurd (omega (arith, e))
chars_bare n t first (suc k) [] e = refl
chars_bare n t first (suc k) (l ∷ ls) e = ap (λ (xs : List ℕ). l ∷ xs) (chars_bare n t (suc first) k ls (omega (arith, e)))

-- so its characters stand at its place
pub text_inserted : (a : Ins) (new : List ℕ) (p : ℕ) (cs : List CellData) (ts : List ℕ) → length new ≡ a.len → length ts ≡ length cs
    → shown_text (put_in p (bare_cells a) cs) (put_in p new ts)
    ≡ text_front cs ts p ++ (encode_utf8_all new ++ shown_text (drop p cs) (drop p ts))
text_inserted a new p cs ts size e =
    text-append (take p cs) (bare_cells a ++ drop p cs) (take p ts) (new ++ drop p ts) (taken_long p cs ts e)
    ∙ ap (λ (bs : List ℕ). text_front cs ts p ++ bs)
    (text-append (bare_cells a) (drop p cs) new (drop p ts) (size ∙ sym (length-bare a))
    ∙ ap (λ (ls : List ℕ). encode_utf8_all ls ++ shown_text (drop p cs) (drop p ts)) (chars_bare a.name a.len 0 a.len new size))

next_place : (p : ℕ) → p + 1 ≡ suc p
next_place p = omega arith

-- a cell at a place, and the character beside it
module _ (p : ℕ) (cs : List CellData) (ts : List ℕ) (c : CellData) (x : ℕ) (e : slice_get cs p ≡ Some c) (at : slice_get ts p ≡ Some x)
    (long : length ts ≡ length cs) where
  abbrev rest : List ℕ
  rest = shown_text (drop (suc p) cs) (drop (suc p) ts)

  rest_is : text_rest cs ts p ≡ rest
  rest_is = ap (λ (n : ℕ). shown_text (drop n cs) (drop n ts)) (next_place p)

  with_is : text_with cs ts p ≡ text_front cs ts p ++ (encode_utf8 x ++ rest)
  with_is = λ i. text_front cs ts p ++ (option_map_or encode_utf8 (at i) [] ++ rest_is i)

  text_around : shown_text cs ts ≡ text_front cs ts p ++ shown_text (c ∷ drop (suc p) cs) (x ∷ drop (suc p) ts)
  text_around =
      (λ i. shown_text (around p cs c e i) (around p ts x at i))
      ∙ text-append (take p cs) (c ∷ drop (suc p) cs) (take p ts) (x ∷ drop (suc p) ts) (taken_long p cs ts long)

  -- where the cell is shown, the text has its character
  pub text_shown : cell_shown c ≡ true → shown_text cs ts ≡ text_with cs ts p
  text_shown s =
      let here : shown_text (c ∷ drop (suc p) cs) (x ∷ drop (suc p) ts) ≡ encode_utf8 x ++ rest = rw s refl in
      text_around ∙ ap (λ (bs : List ℕ). text_front cs ts p ++ bs) here ∙ sym with_is

  -- and else it hasn't
  pub text_hidden : cell_shown c ≡ false → shown_text cs ts ≡ text_without cs ts p
  text_hidden s =
      let here : shown_text (c ∷ drop (suc p) cs) (x ∷ drop (suc p) ts) ≡ rest = rw s refl in
      text_around ∙ ap (λ (bs : List ℕ). text_front cs ts p ++ bs) (here ∙ sym rest_is)

-- how many are shown, with the cell and beside it
module _ (p : ℕ) (cs : List CellData) (c : CellData) (e : slice_get cs p ≡ Some c) where
  abbrev behind : List CellData
  behind = drop (suc p) cs

  count_around : length (shown_cells cs) ≡ length (shown_cells (take p cs)) + length (shown_cells (c ∷ behind))
  count_around = ap (λ (l : List CellData). length (shown_cells l)) (around p cs c e) ∙ shown_count-append (take p cs) (c ∷ behind)

  beside_is : shown_beside cs p ≡ length (shown_cells (take p cs)) + length (shown_cells behind)
  beside_is = ap (λ (n : ℕ). length (shown_cells (take p cs)) + length (shown_cells (drop n cs))) (next_place p)

  pub count_shown : cell_shown c ≡ true → length (shown_cells cs) ≡ shown_beside cs p + 1
  count_shown s =
      let here : length (shown_cells (c ∷ behind)) ≡ suc (length (shown_cells behind)) = rw s refl in
      omega (arith, count_around, here, beside_is)

  pub count_hidden : cell_shown c ≡ false → length (shown_cells cs) ≡ shown_beside cs p
  count_hidden s =
      let here : length (shown_cells (c ∷ behind)) ≡ length (shown_cells behind) = rw s refl in
      omega (arith, count_around, here, beside_is)

-- a mark changes nothing beside the cell, nor its character
module _ (m : Mark) (p : ℕ) (cs : List CellData) (ts : List ℕ) where
  abbrev ds : List CellData
  ds = change_at p (marked m) cs

  dropped : drop (p + 1) ds ≡ drop (p + 1) cs
  dropped = subst (λ (n : ℕ). drop n ds ≡ drop n cs) (sym (next_place p)) (drop_changed (marked m) p cs)

  front_same : text_front ds ts p ≡ text_front cs ts p
  front_same = ap (λ (l : List CellData). shown_text l (take p ts)) (take_changed (marked m) p cs)

  rest_same : text_rest ds ts p ≡ text_rest cs ts p
  rest_same = ap (λ (l : List CellData). shown_text l (drop (p + 1) ts)) dropped

  pub marked_beside : shown_beside ds p ≡ shown_beside cs p
  marked_beside = λ i. length (shown_cells (take_changed (marked m) p cs i)) + length (shown_cells (dropped i))

  pub marked_without : text_without ds ts p ≡ text_without cs ts p
  marked_without = λ i. front_same i ++ rest_same i

  pub marked_with : text_with ds ts p ≡ text_with cs ts p
  marked_with = λ i. front_same i ++ (option_map_or encode_utf8 (slice_get ts p) [] ++ rest_same i)

-- ---- bytes put into a text, and taken out

pub spliced : (old front rest mid new : List ℕ) (at : ℕ) → old ≡ front ++ rest → at ≡ length front
    → new ≡ take at old ++ (mid ++ drop at old)
    → new ≡ front ++ (mid ++ rest)
spliced old front rest mid new at is long e =
    let before : take at old ≡ front = ap (take at) is ∙ take_at front rest at (sym long) in
    let behind : drop at old ≡ rest = ap (drop at) is ∙ drop_at front rest at (sym long) in
    e ∙ (λ i. before i ++ (mid ++ behind i))

pub cut_out : (old front mid rest new : List ℕ) (at n : ℕ) → old ≡ front ++ (mid ++ rest) → at ≡ length front → n ≡ length mid
    → new ≡ take at old ++ drop (at + n) old
    → new ≡ front ++ rest
cut_out old front mid rest new at n is long size e =
    let before : take at old ≡ front = ap (take at) is ∙ take_at front (mid ++ rest) at (sym long) in
    let both : length (front ++ mid) ≡ at + n = omega (arith, length-append front mid, long, size) in
    let behind : drop (at + n) old ≡ rest =
    ap (drop (at + n)) (is ∙ sym (append_assoc front mid rest)) ∙ drop_at (front ++ mid) rest (at + n) both in
    e ∙ (λ i. before i ++ behind i)
