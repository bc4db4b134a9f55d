use Rattle.std.proofs.Common.{◌≡◌, ◌+◌, ◌*◌, ◌-◌, ◌<◌, ℕ, length, take, drop, get_or}
use Rattle.std.specs.List.{sum}
use Rattle.std.specs.Prelude.{vec_capacity}
use Rattle.tombstone_text.specs.declared.sums.TheConstants.{BLOCK}
use Rattle.tombstone_text.proofs.sums.build.Given as goal

abbrev pub invariant-loop-at : goal.invariant-loop-at
invariant-loop-at l =
    (l.at ≡ BLOCK * length l.blocks.items) × (BLOCK * length l.blocks.items < length l.parts + BLOCK)
    × (vec_capacity l.blocks ≡ vec_capacity l.fn.blocks)
    × ((j : ℕ) → j < length l.blocks.items → get_or l.blocks.items j 0 ≡ sum (take BLOCK (drop (BLOCK * j) l.parts)))

abbrev pub decreases-loop-at : goal.decreases-loop-at
decreases-loop-at l = length l.parts - l.at
