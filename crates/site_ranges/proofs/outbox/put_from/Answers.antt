use Rattle.std.proofs.Common.{◌<◌, length, drop, sym, arith}
use Rattle.context_diff.specs.Ops.{data_of}
use Rattle.context_diff.proofs.CallerLemmas.{complete}
use Rattle.cot_site.proofs.CallerLemmas.{formed_at}
use Rattle.wire_codec.specs.declared.version.Version.TheVariants.{Two}
use Rattle.wire_codec.specs.Spelling.{frame}
use Rattle.site_ranges.specs.Frames.{frames_of}
use Rattle.site_ranges.proofs.Appending.{more}
use Rattle.site_ranges.proofs.Outboxes.{frames_next}
use Rattle.site_ranges.proofs.Turning.{none_there}
use Rattle.site_ranges.proofs.outbox.put_from.Goals as goal

pub encode2-requires : goal.encode2-requires
encode2-requires c =
    formed_at c.args.book.now.ops c.loop-i.i (data_of c.in-Some.op.now) (complete c.args.book.now.ops c.known.ensures.valid).formed
    (sym c.in-Some.ensures)

pub unreachable-requires : goal.unreachable-requires
unreachable-requires c =
    let lt : c.loop-i.i < length c.args.book.now.ops = omega (arith, c.loop-i-test.true, c.len-i-end.ensures) in
    none_there c.args.book.now.ops c.loop-i.i lt (sym c.in-None.ensures)

pub loop-i-preserved : goal.loop-i-preserved
loop-i-preserved c =
    let os = c.args.book.now.ops in
    let o = data_of c.in-Some.op.now in
    more c.args.out.now.items (frames_of (drop c.args.from os)) c.loop-i.out.items (frames_of (drop c.loop-i.i os)) c.encode2.new.out.items
    (frame Two o) _ c.loop-i.invariant (frames_next os c.loop-i.i o (sym c.in-Some.ensures)) c.in_ok-encode2-in-Some.ensures.ok
