use Rattle.std.proofs.Common.{◌≡◌, ◌+◌, ◌∙◌, refl, ap, arith, subst}
use Rattle.std.specs.Prelude.{Ok}
use Rattle.log_replies.specs.Code.Loading.{Feeds}
use Rattle.log_replies.proofs.Logs.{feeds_none, feeds_count, fed_whole, fed_rest, loses_more}
use Rattle.log_replies.proofs.loaded.feed_all.Goals as goal

pub loop-read-init : goal.loop-read-init
loop-read-init g c = record {
  few = omega arith;
  feeds = feeds_none (g.S.Source.left c.args.source.now) c.args.reader.now c.requires;
  faultless = refl;
}

pub feed_piece-requires-clause-fed : goal.feed_piece-requires-clause-fed
feed_piece-requires-clause-fed g c = feeds_count _ _ _ c.loop-read.read c.loop-read.reader c.loop-read-test.true c.loop-read.invariant.feeds

pub loop-read-preserved : goal.loop-read-preserved
loop-read-preserved g c = record {
  few = c.in-Ok.ensures.amount;
  feeds = c.in-Ok.ensures.feeds _ _ c.loop-read.invariant.feeds;
  faultless = c.in-Ok.ensures.no_fault (λ e. absurd cc) ∙ c.loop-read.invariant.faultless;
}

pub returns-in-Ok-eq0-clause-fed : goal.returns-in-Ok-eq0-clause-fed
returns-in-Ok-eq0-clause-fed g c =
    let left = g.S.Source.left c.args.source.now in
    let now = g.S.Source.left c.feed_piece.new.source in
    let same : c.loop-read.read + c.in-Ok-eq0.field-0 ≡ c.loop-read.read = omega (arith, c.in-Ok-eq0.field-0-test) in
    fed_whole c.args.reader.now.site left now c.loop-read.read c.feed_piece.new.reader c.loop-read.invariant.few
    (λ short. c.in-Ok-eq0.ensures.end (ap Ok c.in-Ok-eq0.field-0-test))
    (subst (λ n. Feeds c.args.reader.now.site left now n c.feed_piece.new.reader) same
    (c.in-Ok-eq0.ensures.feeds _ _ c.loop-read.invariant.feeds))

pub returns-in-Ok-eq0-clause-rest : goal.returns-in-Ok-eq0-clause-rest
returns-in-Ok-eq0-clause-rest g c =
    let left = g.S.Source.left c.args.source.now in
    let now = g.S.Source.left c.feed_piece.new.source in
    let same : c.loop-read.read + c.in-Ok-eq0.field-0 ≡ c.loop-read.read = omega (arith, c.in-Ok-eq0.field-0-test) in
    fed_rest c.args.reader.now.site left now c.loop-read.read c.feed_piece.new.reader c.loop-read.invariant.few
    (λ short. c.in-Ok-eq0.ensures.end (ap Ok c.in-Ok-eq0.field-0-test))
    (subst (λ n. Feeds c.args.reader.now.site left now n c.feed_piece.new.reader) same
    (c.in-Ok-eq0.ensures.feeds _ _ c.loop-read.invariant.feeds))

pub returns-in-Err-clause-lost : goal.returns-in-Err-clause-lost
returns-in-Err-clause-lost g c = loses_more _ _ _ _ _ _ c.loop-read.invariant.few c.loop-read.invariant.feeds c.in-Err.ensures.lost

pub returns-clause-fed : goal.returns-clause-fed
returns-clause-fed g c =
    fed_whole _ _ _ _ _ c.loop-read.invariant.few (λ short. absurd (omega (arith, short, c.loop-read-test.false)))
    c.loop-read.invariant.feeds

pub returns-clause-rest : goal.returns-clause-rest
returns-clause-rest g c =
    fed_rest _ _ _ _ _ c.loop-read.invariant.few (λ short. absurd (omega (arith, short, c.loop-read-test.false)))
    c.loop-read.invariant.feeds
