-- How a column of numbers is kept: its sum, and the sums of its blocks.
use Rattle.std.specs.Prelude.{◌≡◌, ℕ, ◌+◌, ◌*◌, ◌<◌, ◌≤◌, ◌^◌, List, length, take, drop, sum, slice_index}
use Rattle.tombstone_text.specs.declared.sums.TheConstants.{BLOCK}

-- the numbers, and how many more there is room for
pub record Column : Type 0 where
  pub parts : List ℕ
  pub spare : ℕ

-- the sum, which 64 bits hold
pub record IsTotal (n : ℕ) (parts : List ℕ) : Type 0 where
  pub total : n ≡ sum parts
  pub low : sum parts < 2 ^ 64

-- each block is the sum of BLOCK numbers, the last one of those that are left
pub record AreBlocks (blocks : List ℕ) (parts : List ℕ) : Type 0 where
  pub cover : length parts ≤ BLOCK * length blocks
  pub tight : BLOCK * length blocks < length parts + BLOCK
  pub sums : (j : ℕ) → j < length blocks → slice_index blocks j ≡ sum (take BLOCK (drop (BLOCK * j) parts))
