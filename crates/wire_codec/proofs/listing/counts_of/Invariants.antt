use Rattle.std.proofs.Common.{◌≡◌}
use Rattle.wire_codec.specs.Reading.{count_at, site_after}
use Rattle.wire_codec.specs.Code.Sections.{raw_count}
use Rattle.wire_codec.specs.Judging.{count_len}
use Rattle.wire_codec.proofs.Elements.{IsUnderWay}
use Rattle.wire_codec.proofs.listing.counts_of.Given as goal

abbrev pub invariant-loop : goal.invariant-loop
invariant-loop l =
    IsUnderWay (count_at l.version) site_after (raw_count l.version) (count_len l.version) l.len 0 l.fn.left l.counter l.low l.left
    × (l.bytes ≡ l.fn.left.bytes)
