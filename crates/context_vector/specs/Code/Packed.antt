-- The bits of a count, of an entry and of a word are its parts side by side: the parts put together give the bits again.
use Rattle.std.specs.Prelude.{◌≡◌, ℕ, ◌+◌, ◌*◌, ◌/◌, ◌%◌, ◌^◌}
use Rattle.std.proofs.Common.{arith}

pub count_again : (b : ℕ) → b / 2 ^ 20 * 2 ^ 20 + b % 2 ^ 20 ≡ b
count_again b = omega arith

pub entry_again : (b : ℕ) → (b / 2 ^ 36 * 2 ^ 20 + b / 2 ^ 16 % 2 ^ 20) * 2 ^ 16 + b % 2 ^ 16 ≡ b
entry_again b = omega arith

pub word_again : (b : ℕ) → b / 2 ^ 32 * 2 ^ 32 + b % 2 ^ 32 ≡ b
word_again b = omega arith
