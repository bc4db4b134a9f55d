-- Places past the text, and the only place of an offset.
use Rattle.std.proofs.Common.{◌≡◌, ℕ, ◌<◌, ◌==◌, Bool, true, false, if◌then◌else◌, List, length, inl, inr, arith}
use Rattle.std.specs.Prelude.{◌≢◌, Some, None, nat_le}
use Rattle.std.proofs.lemmas.Bool.{cases_lt, lt-leb, cond-false}
use Rattle.past_view.specs.Lines.{address_of}
use Rattle.tombstone_text.specs.declared.measure.Measure.{Measure}
use Rattle.tombstone_text.specs.declared.measure.Measure.TheVariants.{Bytes, Units, Lines}
use Rattle.text_positions.specs.Offsets.{offset_at, IsFirstPlace}
use Rattle.cotpad_c.specs.declared.kinds.TheConstants.{BYTES, UNITS}
use Rattle.cotpad_c.specs.Positions.{measure_given}

pub no_offset : (m : Measure) (cs : List ℕ) (v : ℕ) → length cs < v → offset_at m cs v ≡ None
no_offset m cs v lt = cond-false (nat_le v (length cs)) _ _ (lt-leb v (length cs) lt)

pub no_address : (cs : List ℕ) (v : ℕ) → length cs < v → address_of cs v ≡ None
no_address cs v lt = cond-false (nat_le v (length cs)) _ _ (lt-leb v (length cs) lt)

-- two first places of an offset are one
pub one_first : (m : Measure) (cs : List ℕ) (o u v : ℕ) → IsFirstPlace m cs o u → IsFirstPlace m cs o v → u ≡ v
one_first m cs o u v a b = elim (cases_lt u v) [
  | inl low ↦ absurd (b.first u low a.has)
  | inr high ↦ elim (cases_lt v u) [
    | inl above ↦ absurd (a.first v above b.has)
    | inr same ↦ omega (arith, high, same)
  ]
]

-- a host gives no lines
pub never_lines : (n : ℕ) (m : Measure) → measure_given n ≡ Some m → m ≢ Lines
never_lines n m is = by (n == BYTES) (n == UNITS) is
  where
    by : (p q : Bool) → (if p then Some Bytes else if q then Some Units else None) ≡ Some m → m ≢ Lines
    by true q e lines = cc
    by false true e lines = cc
    by false false e lines = cc
