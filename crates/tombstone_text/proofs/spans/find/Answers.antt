use Rattle.std.proofs.Common.{arith}
use Rattle.tombstone_text.specs.Code.Spans.{pieces}
use Rattle.tombstone_text.proofs.Pieces.{pieces_long, piece_count}
use Rattle.tombstone_text.proofs.Searches.{length-more}
use Rattle.tombstone_text.proofs.spans.find.Goals as goal

pub returns-then-left-count : goal.returns-then-left-count
returns-then-left-count c =
    let ss = c.args.spans.now in
    let lt = c.loop-i-test.true in
    let long = piece_count ss c.loop-i.i c.index-spans-i.result lt c.index-spans-i.is in
    record {
      most = omega (arith, lt, pieces_long ss);
      within = λ _. omega (arith, long, c.count-count.ensures.count, c.if-left-count.true);
      place_is = c.loop-i.invariant.1;
    }

pub loop-i-preserved : goal.loop-i-preserved
loop-i-preserved c =
    let ss = c.args.spans.now in
    let lt = c.loop-i-test.true in
    let long = piece_count ss c.loop-i.i c.index-spans-i.result lt c.index-spans-i.is in
    let more = length-more (pieces ss) c.loop-i.i (omega (arith, lt, pieces_long ss)) in (
      omega (arith, lt),
      omega (arith, more, long, c.count-count.ensures.count, c.if-left-count.false, c.loop-i.invariant.1),
    )

pub returns : goal.returns
returns c =
    let ss = c.args.spans.now in
    let done = c.loop-i-test.false in
    record {
      most = omega (arith, c.loop-i.invariant.0, pieces_long ss);
      within = λ lt. absurd (omega (arith, lt, done, pieces_long ss));
      place_is = c.loop-i.invariant.1;
    }
