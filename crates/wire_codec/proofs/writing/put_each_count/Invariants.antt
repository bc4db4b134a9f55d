use Rattle.std.proofs.Common.{◌≡◌, ℕ, length, drop}
use Rattle.wire_codec.specs.Spelling.{count_bytes}
use Rattle.wire_codec.specs.Judging.{count_len}
use Rattle.wire_codec.proofs.Pushes.{IsPutUpTo}
use Rattle.wire_codec.proofs.writing.put_each_count.Given as goal

abbrev pub invariant-loop-site : goal.invariant-loop-site
invariant-loop-site l =
    (i : ℕ) × (l.left ≡ drop i l.fn.counts)
    × IsPutUpTo (count_bytes l.version) (count_len l.version) l.fn.counts l.initial.out i l.out

abbrev pub decreases-loop-site : goal.decreases-loop-site
decreases-loop-site l = length l.left
