-- Characters that are put into a text, or taken out, at the place of their cells.
use Rattle.std.proofs.Common.{◌≡◌, ℕ, suc, ◌+◌, ◌<◌, ◌≤◌, Bool, true, false, if◌then◌else◌, List, [], ◌∷◌, ◌++◌, Result, Ok, Err, OnOk, Option, Some, length, take, drop, slice_get, option_map, refl, sym, ap, ◌∙◌, arith, length-append}
use Rattle.std.specs.Prelude.{encode_utf8, encode_utf8_all}
use Rattle.std.specs.Option.{option_map_or}
use Rattle.std.proofs.lemmas.Option.{slice_get_cases, same_Some}
use Rattle.ttf_form.specs.declared.cover.Mark.{Mark}
use Rattle.ttf_form.specs.Cells.{CellData, cell_shown, chars_where, change_at, marked, marked_in}
use Rattle.ttf_form.specs.Laws.Lists.{length-change}
use Rattle.visible_view.specs.View.{shown_cells, shown_text}
use Rattle.past_view.specs.Code.Playing.{shown_beside, text_front, text_rest, text_with, text_without}
use Rattle.past_view.proofs.Splices.{taken_long, dropped_long, got_changed, marked_beside, marked_with, marked_without, text_shown, text_hidden, count_shown, count_hidden}
use mathlib.Core.Logic.{inl, inr}

pub on_ok : {E : Type 0} (r : Result (Unit {0}) E) {P Q : Type 0} → (P → Q) → OnOk r P → OnOk r Q
on_ok (Ok x) f p = f p
on_ok (Err x) f p = tt

-- the characters of the shown ones of these cells
abbrev chars_of : List CellData → List ℕ → List ℕ
chars_of cs ts = chars_where cell_shown cs ts

chars_count : (cs : List CellData) (ts : List ℕ) → length ts ≡ length cs → length (chars_of cs ts) ≡ length (shown_cells cs)
chars_count [] ts e = refl
chars_count (c ∷ cs) [] e = absurd (omega (arith, e))
chars_count (c ∷ cs) (t ∷ ts) e = by (cell_shown c) (chars_count cs ts (omega (arith, e)))
  where
    by : (b : Bool) → length (chars_of cs ts) ≡ length (shown_cells cs)
        → length (if b then t ∷ chars_of cs ts else chars_of cs ts) ≡ length (if b then c ∷ shown_cells cs else shown_cells cs)
    by true rest = ap suc rest
    by false rest = rest

-- what `byte_at` says of a text
abbrev pub IsEnd : List ℕ → ℕ → ℕ → ℕ → Type 0
IsEnd bs v chars at =
    (front rest : List ℕ) → bs ≡ encode_utf8_all front ++ encode_utf8_all rest → length front ≡ v → length front + length rest ≡ chars
    → at ≡ length (encode_utf8_all front)

module _ (xs ys : List CellData) (ts us : List ℕ) (front_long : length ts ≡ length xs) (rest_long : length us ≡ length ys)
    (bs : List ℕ) (v chars at : ℕ) (end : IsEnd bs v chars at) where
  -- where the shown characters of the first cells end, and those of others follow
  end_between : bs ≡ shown_text xs ts ++ shown_text ys us → v ≡ length (shown_cells xs)
      → length (shown_cells xs) + length (shown_cells ys) ≡ chars → at ≡ length (shown_text xs ts)
  end_between is before all =
      let first = chars_count xs ts front_long in
      end (chars_of xs ts) (chars_of ys us) is (first ∙ sym before) (omega (arith, first, chars_count ys us rest_long, all))

  -- and where a character stands between them
  end_before : (x : ℕ) → bs ≡ shown_text xs ts ++ (encode_utf8 x ++ shown_text ys us) → v ≡ length (shown_cells xs)
      → length (shown_cells xs) + length (shown_cells ys) + 1 ≡ chars → at ≡ length (shown_text xs ts)
  end_before x is before all =
      let first = chars_count xs ts front_long in
      end (chars_of xs ts) (x ∷ chars_of ys us) is (first ∙ sym before) (omega (arith, first, chars_count ys us rest_long, all))

-- so at a place of cells with characters beside them
module _ (cs : List CellData) (ts : List ℕ) (p : ℕ) (long : length ts ≡ length cs) (bs : List ℕ) (v chars at : ℕ)
    (end : IsEnd bs v chars at) (before : v ≡ length (shown_cells (take p cs))) where
  pub end_at : bs ≡ text_front cs ts p ++ shown_text (drop p cs) (drop p ts)
      → length (shown_cells (take p cs)) + length (shown_cells (drop p cs)) ≡ chars
      → at ≡ length (text_front cs ts p)
  end_at is all =
      end_between (take p cs) (drop p cs) (take p ts) (drop p ts) (taken_long p cs ts long) (dropped_long p cs ts long) bs v chars at end
      is before all

  pub end_without : bs ≡ text_without cs ts p → shown_beside cs p ≡ chars → at ≡ length (text_front cs ts p)
  end_without is all =
      end_between (take p cs) (drop (p + 1) cs) (take p ts) (drop (p + 1) ts) (taken_long p cs ts long) (dropped_long (p + 1) cs ts long)
      bs v chars at end is before all

  pub end_with : (x : ℕ) → bs ≡ text_front cs ts p ++ (encode_utf8 x ++ text_rest cs ts p) → shown_beside cs p + 1 ≡ chars
      → at ≡ length (text_front cs ts p)
  end_with x is all =
      end_before (take p cs) (drop (p + 1) cs) (take p ts) (drop (p + 1) ts) (taken_long p cs ts long) (dropped_long (p + 1) cs ts long)
      bs v chars at end x is before all

-- the text with the character of the cell
pub with_char : (cs : List CellData) (ts : List ℕ) (p x : ℕ) → slice_get ts p ≡ Some x
    → text_with cs ts p ≡ text_front cs ts p ++ (encode_utf8 x ++ text_rest cs ts p)
with_char cs ts p x e = ap (λ (o : Option ℕ). text_front cs ts p ++ (option_map_or encode_utf8 o [] ++ text_rest cs ts p)) e

-- the bytes of the character are there
pub char_within : (bs front mid rest : List ℕ) (at n : ℕ) → bs ≡ front ++ (mid ++ rest) → at ≡ length front → n ≡ length mid
    → at + n ≤ length bs
char_within bs front mid rest at n is start size =
    omega (arith, ap length is, length-append front (mid ++ rest), length-append mid rest, start, size)

pub place_within : (bs front rest : List ℕ) (at : ℕ) → bs ≡ front ++ rest → at ≡ length front → at ≤ length bs
place_within bs front rest at is start = omega (arith, ap length is, length-append front rest, start)

-- ---- a cell that is marked

pub there_is : {A : Type 0} (xs : List A) (p : ℕ) → p < length xs → (x : A) × (slice_get xs p ≡ Some x)
there_is xs p lt = elim (slice_get_cases xs p).1 [ inl there ↦ (there.0, there.2) | inr past ↦ absurd (omega (arith, past.0, lt)) ]

shown_is : (o : Option CellData) (c : CellData) (b : Bool) → o ≡ Some c → option_map cell_shown o ≡ Some b → cell_shown c ≡ b
shown_is o c b e f = same_Some (cell_shown c) b (ap (λ (q : Option CellData). option_map cell_shown q) (sym e) ∙ f)

-- the mark `m` at the place `p` of the cells `cs` gives the cells `ds`, and the characters beside them stay
module _ (cs ds : List CellData) (ts us : List ℕ) (p : ℕ) (m : Mark) (lt : p < length cs) (long : length ts ≡ length cs)
    (alone : marked_in p m cs ≡ change_at p (marked m) cs) (is : ds ≡ marked_in p m cs) (same : us ≡ ts) where
  abbrev there : (c : CellData) × (slice_get cs p ≡ Some c)
  there = there_is cs p lt

  abbrev letter : (x : ℕ) × (slice_get ts p ≡ Some x)
  letter = there_is ts p (omega (arith, lt, long))

  changed : ds ≡ change_at p (marked m) cs
  changed = is ∙ alone

  size : length ds ≡ length cs
  size = ap (λ (l : List CellData). length l) changed ∙ length-change (marked m) p cs

  pub still_there : p < length ds
  still_there = omega (arith, lt, size)

  pub still_long : length us ≡ length ds
  still_long = omega (arith, long, size, ap (λ (l : List ℕ). length l) same)

  got : slice_get ds p ≡ Some (marked m there.0)
  got = ap (λ (l : List CellData). slice_get l p) changed ∙ got_changed (marked m) p cs there.0 there.1

  letter_got : slice_get us p ≡ Some letter.0
  letter_got = ap (λ (l : List ℕ). slice_get l p) same ∙ letter.1

  beside : shown_beside ds p ≡ shown_beside cs p
  beside = ap (λ (l : List CellData). shown_beside l p) changed ∙ marked_beside m p cs ts

  with_same : text_with ds us p ≡ text_with cs ts p
  with_same = (λ i. text_with (changed i) (same i) p) ∙ marked_with m p cs ts

  without_same : text_without ds us p ≡ text_without cs ts p
  without_same = (λ i. text_without (changed i) (same i) p) ∙ marked_without m p cs ts

  module _ (was : option_map cell_shown (slice_get cs p) ≡ Some true) where
    pub text_was : shown_text cs ts ≡ text_with ds us p
    text_was =
        text_shown p cs ts there.0 letter.0 there.1 letter.1 long (shown_is (slice_get cs p) there.0 true there.1 was) ∙ sym with_same

    pub count_was : shown_beside ds p + 1 ≡ length (shown_cells cs)
    count_was =
        omega (arith, beside, count_shown p cs there.0 there.1 (shown_is (slice_get cs p) there.0 true there.1 was))

  module _ (was : option_map cell_shown (slice_get cs p) ≡ Some false) where
    pub text_lacked : shown_text cs ts ≡ text_without ds us p
    text_lacked =
        text_hidden p cs ts there.0 letter.0 there.1 letter.1 long (shown_is (slice_get cs p) there.0 false there.1 was)
        ∙ sym without_same

    pub count_lacked : shown_beside ds p ≡ length (shown_cells cs)
    count_lacked =
        omega (arith, beside, count_hidden p cs there.0 there.1 (shown_is (slice_get cs p) there.0 false there.1 was))

  pub text_is : option_map cell_shown (slice_get ds p) ≡ Some true → text_with ds us p ≡ shown_text ds us
  text_is now =
      sym (text_shown p ds us (marked m there.0) letter.0 got letter_got still_long
      (shown_is (slice_get ds p) (marked m there.0) true got now))

  pub text_lacks : option_map cell_shown (slice_get ds p) ≡ Some false → text_without ds us p ≡ shown_text ds us
  text_lacks now =
      sym (text_hidden p ds us (marked m there.0) letter.0 got letter_got still_long
      (shown_is (slice_get ds p) (marked m there.0) false got now))

  -- where the cell stays as it was, so does the text
  pub text_stays : (b : Bool) → option_map cell_shown (slice_get cs p) ≡ Some b → option_map cell_shown (slice_get ds p) ≡ Some b
      → shown_text cs ts ≡ shown_text ds us
  text_stays true was now = text_was was ∙ text_is now
  text_stays false was now = text_lacked was ∙ text_lacks now
