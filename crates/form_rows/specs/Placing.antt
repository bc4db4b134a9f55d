-- Forms that move by a number of cells, and how a form passes another one whose place is a greater or a smaller one.
use Rattle.std.proofs.Common.{◌≡◌, ℕ, ◌+◌, ◌<◌, refl, sym, ap, arith}
use Rattle.ttf_form.specs.declared.ins.Ins.{Ins}
use Rattle.ttf_form.specs.declared.cover.Cover.{Cover}
use Rattle.ttf_form.specs.declared.form.Form.{Form}
use Rattle.ttf_form.specs.declared.form.Form.TheVariants.{Ins as Insert, Cover as Covered}
use Rattle.ttf_form.specs.Forms.{ins_extent, place_of, extent_of, form_over}
use Rattle.ttf_form.specs.Laws.Places.{over_less, over_more, cover_less, cover_more}

-- an insert with its place so many cells further on
abbrev pub ins_shifted : Ins → ℕ → Ins
ins_shifted a n = record a { place = a.place + n }

-- a cover with its place so many cells further on
abbrev pub cover_shifted : Cover → ℕ → Cover
cover_shifted c n = record c { place = c.place + n }

-- a form with its place so many cells further on
abbrev pub form_shifted : Form → ℕ → Form
form_shifted (Insert a) n = Insert (ins_shifted a n)
form_shifted (Covered c) n = Covered (cover_shifted c n)

pub place_shifted : (a : Form) (n : ℕ) → place_of (form_shifted a n) ≡ place_of a + n
place_shifted (Insert a) n = refl
place_shifted (Covered c) n = refl

pub shifted_none : (a : Form) → form_shifted a 0 ≡ a
shifted_none (Insert a) = ap (λ (k : ℕ). Insert (record a { place = k })) (none a.place)
  where
    none : (k : ℕ) → k + 0 ≡ k
    none k = omega arith
shifted_none (Covered c) = ap (λ (k : ℕ). Covered (record c { place = k })) (none c.place)
  where
    none : (k : ℕ) → k + 0 ≡ k
    none k = omega arith

pub shifted_twice : (a : Form) (m n : ℕ) → form_shifted (form_shifted a m) n ≡ form_shifted a (m + n)
shifted_twice (Insert a) m n = ap (λ (k : ℕ). Insert (record a { place = k })) (twice a.place m n)
  where
    twice : (k m n : ℕ) → k + m + n ≡ k + (m + n)
    twice k m n = omega arith
shifted_twice (Covered c) m n = ap (λ (k : ℕ). Covered (record c { place = k })) (twice c.place m n)
  where
    twice : (k m n : ℕ) → k + m + n ≡ k + (m + n)
    twice k m n = omega arith

-- a form in front of another one stays
pub stays_before : (a b : Form) → place_of a < place_of b → form_over a b ≡ a
stays_before (Insert a) (Insert b) h =
    ap (λ (k : ℕ). Insert (record a { place = k })) (over_less a.place a.site b.place b.site (ins_extent b) h)
stays_before (Insert a) (Covered d) h = refl
stays_before (Covered c) (Insert b) h = ap (λ (k : ℕ). Covered (record c { place = k })) (cover_less c.place b.place (ins_extent b) h)
stays_before (Covered c) (Covered d) h = refl

-- a form after another one moves by the cells that this adds
pub moves_after : (a b : Form) → place_of b < place_of a → form_over a b ≡ form_shifted a (extent_of b)
moves_after (Insert a) (Insert b) h =
    ap (λ (k : ℕ). Insert (record a { place = k })) (over_more a.place a.site b.place b.site (ins_extent b) h)
moves_after (Insert a) (Covered d) h = sym (shifted_none (Insert a))
moves_after (Covered c) (Insert b) h =
    ap (λ (k : ℕ). Covered (record c { place = k })) (cover_more c.place b.place (ins_extent b) (omega arith))
moves_after (Covered c) (Covered d) h = sym (shifted_none (Covered c))
