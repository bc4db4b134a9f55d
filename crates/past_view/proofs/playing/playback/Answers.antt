use Rattle.std.proofs.Common.{◌+◌, List, take, drop, length, refl, true, ap, ◌∙◌, subst, arith}
use Rattle.std.proofs.lemmas.List.{take_all}
use Rattle.std.specs.Io.KnownBytes.{Appends}
use Rattle.context_diff.specs.Operations.{OpData}
use Rattle.visible_view.proofs.CallerLemmas.{on_err}
use Rattle.past_view.specs.Playing.{played, played_after}
use Rattle.past_view.proofs.Moments.{played_front, written_more, written_on, written_all, front_written, front_on}
use Rattle.past_view.proofs.playing.playback.Goals as goal

pub returns-in_err-play_next-clause-front : goal.returns-in_err-play_next-clause-front
returns-in_err-play_next-clause-front g c =
    let h = c.args.site.now.history in
    let i = c.loop-i.i in
    on_err c.from_residual.result
    (front_written (g.K.Sink.held c.args.sink.now) (g.K.Sink.held c.loop-i.sink) (played h) (played (take i h))
    (played_after (take i h) (drop i h)) c.loop-i.out.items (played_front h i) c.loop-i.invariant.written)

pub returns-in_err-put_moment-clause-front : goal.returns-in_err-put_moment-clause-front
returns-in_err-put_moment-clause-front g c =
    let h = c.args.site.now.history in
    let i = c.loop-i.i in
    on_err c.from_residual-in_err-put_moment.result
    (front_written (g.K.Sink.held c.args.sink.now) (g.K.Sink.held c.loop-i.sink) (played h) (played (take i h))
    (played_after (take i h) (drop i h)) c.loop-i.out.items (played_front h i) c.loop-i.invariant.written)

pub returns-in_err-flush-clause-front : goal.returns-in_err-flush-clause-front
returns-in_err-flush-clause-front g c =
    let h = c.args.site.now.history in
    let i = c.loop-i.i + 1 in
    let more =
    written_more (g.K.Sink.held c.args.sink.now) (g.K.Sink.held c.loop-i.sink) (played (take c.loop-i.i h)) c.loop-i.out.items
    (played (take i h)) c.put_moment.new.out.items c.loop-i.invariant.written c.in_ok-put_moment.ensures in
    on_err c.from_residual-in_err-flush.result
    (front_on (g.K.Sink.held c.args.sink.now) (g.K.Sink.held c.loop-i.sink) (g.K.Sink.held c.flush.new.sink) (played h) (played (take i h))
    (played_after (take i h) (drop i h)) c.put_moment.new.out.items (played_front h i) more c.in_err-flush.ensures.front)

pub loop-i-preserved : goal.loop-i-preserved
loop-i-preserved g c =
    let h = c.args.site.now.history in
    let i = c.loop-i.i + 1 in
    let more =
    written_more (g.K.Sink.held c.args.sink.now) (g.K.Sink.held c.loop-i.sink) (played (take c.loop-i.i h)) c.loop-i.out.items
    (played (take i h)) c.put_moment.new.out.items c.loop-i.invariant.written c.in_ok-put_moment.ensures in
    record {
      before = c.in_ok-play_next.ensures;
      written =
          written_on (g.K.Sink.held c.args.sink.now) (g.K.Sink.held c.loop-i.sink) (g.K.Sink.held c.flush.new.sink) (played (take i h))
          c.put_moment.new.out.items c.flush.new.out.items more c.in_ok-flush.ensures.passed;
      faults = c.in_ok-flush.ensures.cause.well (refl {a = true}) ∙ c.loop-i.invariant.faults;
    }

pub returns-in_err-flush-2-clause-front : goal.returns-in_err-flush-2-clause-front
returns-in_err-flush-2-clause-front g c =
    let h = c.args.site.now.history in
    let i = c.loop-i.i in
    on_err c.from_residual-in_err-flush-2.result
    (front_on (g.K.Sink.held c.args.sink.now) (g.K.Sink.held c.loop-i.sink) (g.K.Sink.held c.flush-2.new.sink) (played h)
    (played (take i h))
    (played_after (take i h) (drop i h)) c.loop-i.out.items (played_front h i) c.loop-i.invariant.written c.in_err-flush-2.ensures.front)

pub returns-clause-whole : goal.returns-clause-whole
returns-clause-whole g c =
    let h = c.args.site.now.history in
    let i = c.loop-i.i in
    let size = ap (λ (l : List OpData). length l) c.book.ensures in
    let all = take_all i h (omega (arith, c.loop-i-test.false, c.len-i-end.ensures, size)) in
    let now = g.K.Sink.held c.flush-2.new.sink in
    let written =
    written_on (g.K.Sink.held c.args.sink.now) (g.K.Sink.held c.loop-i.sink) now (played (take i h)) c.loop-i.out.items
    c.flush-2.new.out.items c.loop-i.invariant.written c.in_ok-flush-2.ensures.passed in
    subst (λ (l : List OpData). Appends (g.K.Sink.held c.args.sink.now) now (played l)) all
    (written_all (g.K.Sink.held c.args.sink.now) now (played (take i h)) c.flush-2.new.out.items written
    (c.in_ok-flush-2.ensures.empty (omega arith)))
