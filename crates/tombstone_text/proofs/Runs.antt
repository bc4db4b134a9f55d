-- The cells of an insert before any mark, and their flags.
use Rattle.std.proofs.Common.{◌≡◌, ℕ, zero, suc, ◌∷◌, map, replicate, refl, ap}
use Rattle.op_name.specs.NameData.{NameData}
use Rattle.ttf_form.specs.Cells.{bare_from}
use Rattle.tombstone_text.specs.Chunks.{flag_of, shown_in}

-- each of them is shown
pub shown_bare : (n : NameData) (t f k : ℕ) → shown_in (bare_from n t f k) ≡ k
shown_bare n t f zero = refl
shown_bare n t f (suc k) = ap suc (shown_bare n t (suc f) k)

-- the flag of each is 1
pub flags_bare : (n : NameData) (t f k : ℕ) → map flag_of (bare_from n t f k) ≡ replicate k 1
flags_bare n t f zero = refl
flags_bare n t f (suc k) = ap (λ fs. 1 ∷ fs) (flags_bare n t (suc f) k)
