-- What writes leave, one after the other.
use Rattle.std.proofs.Common.{ℕ, ◌+◌, List, Option, take, drop, sym, take-append-drop}
use Rattle.std.proofs.Math.Seq.{take-add}
use Rattle.std.proofs.KnownBytes.{Appends-trans, Appends-kept}
use Rattle.std.specs.Io.KnownBytes.{Appends, Keeps}
use Rattle.outside_io.specs.Writing.{WritesFront}

-- n bytes after the first i
pub Appends-take : (a b c : Option (List ℕ)) (xs : List ℕ) (i n : ℕ) → Appends a b (take i xs) → Appends b c (take n (drop i xs))
    → Appends a c (take (i + n) xs)
Appends-take a b c xs i n first second = rw take-add (Appends-trans a b c (take i xs) (take n (drop i xs)) first second)

-- nothing after the first i
pub WritesFront-take : (a b c : Option (List ℕ)) (xs : List ℕ) (i : ℕ) → Appends a b (take i xs) → Keeps b c → WritesFront a c xs
WritesFront-take a b c xs i first kept = record {
  front = take i xs;
  rest = drop i xs;
  parts = sym (take-append-drop i xs);
  written = Appends-kept a b c (take i xs) first kept;
}
