-- Where kept marks stand by their names.
use Rattle.std.specs.Prelude.{◌≡◌, ℕ, zero, suc, ◌<◌, true, false, List, [], ◌∷◌, length, option_map, slice_get, slice_index_or}
use Rattle.op_name.specs.NameData.{NameData, name_lt}
use Rattle.char_marks.specs.Marks.{KeptData, mark_named}

-- the name of the i-th kept mark, that of d past the end
abbrev pub name_at : List KeptData → ℕ → KeptData → NameData
name_at ks i d = (slice_index_or ks i d).mark.name

-- the first i kept marks have lesser names, and the next one hasn't
abbrev pub GoesTo : List KeptData → NameData → ℕ → Type 0
GoesTo [] n i = i ≡ 0
GoesTo (k ∷ ks) n zero = name_lt k.mark.name n ≡ false
GoesTo (k ∷ ks) n (suc i) = (name_lt k.mark.name n ≡ true) × GoesTo ks n i

-- the kept mark of the name stands at place i
pub record IsWhere (ks : List KeptData) (n : NameData) (i : ℕ) : Type 0 where
  pub within : i < length ks
  pub mark : option_map (λ k. k.mark) (slice_get ks i) ≡ mark_named ks n
