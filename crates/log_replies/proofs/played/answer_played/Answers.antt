use Rattle.std.proofs.Common.{◌≡◌, true, false}
use Rattle.std.specs.Prelude.{Some, None, IfSome}
use Rattle.std.specs.Io.KnownBytes.{IsAtEnd}
use Rattle.std.proofs.lemmas.Bool.{true≢false}
use Rattle.cot_site.specs.Sites.{state_of}
use Rattle.past_view.specs.Playing.{played}
use Rattle.log_replies.specs.Outside.{told}
use Rattle.log_replies.specs.PlayedTexts.{IsPlayedBack}
use Rattle.log_replies.specs.Replies.{IsLoadedAs, IsRefusedInto}
use Rattle.log_replies.proofs.Logs.{if_some, if_none}
use Rattle.log_replies.proofs.Playing.{streamed, site_played, line_played}
use Rattle.log_replies.proofs.played.answer_played.Goals as goal

pub returns-in-Ok-Some-clause-answer : goal.returns-in-Ok-Some-clause-answer
returns-in-Ok-Some-clause-answer g c =
    let k = c.in-Ok-Some in
    let e = k.field-0-is in
    let f = k.site-is in
    let is : k.field-0 ≡ Some k.site = cc in
    let left = g.S.Source.left c.args.source.now in
    let rest = g.S.Source.left c.load_input.new.source in
    streamed IsPlayedBack false (played k.site.history)
    (told left (g.S.Source.faults c.args.source.now) (g.K.Sink.held c.args.sink.now) (g.K.Sink.faults c.args.sink.now))
    (told rest (g.S.Source.faults c.load_input.new.source) (g.K.Sink.held c.play.new.sink) (g.K.Sink.faults c.play.new.sink))
    c.play.result
    (site_played left (state_of k.site)
    (if_some k.field-0 k.site (λ s. IfSome left (λ bytes. IsLoadedAs 0 bytes (state_of s))) is k.ensures.loaded))
    (λ _. if_some k.field-0 k.site (λ s. IsAtEnd rest) is k.ensures.ended)
    (record { read = k.ensures.rest; faultless = k.ensures.no_fault (λ e. absurd cc) })
    c.play.ensures.written

pub returns-in-Ok-None-clause-answer : goal.returns-in-Ok-None-clause-answer
returns-in-Ok-None-clause-answer g c =
    let k = c.in-Ok-None in
    let e = k.field-0-is in
    let is : k.field-0 ≡ None = cc in
    let left = g.S.Source.left c.args.source.now in
    let rest = g.S.Source.left c.load_input.new.source in
    let old = c.new-line.result.items in
    let new = c.load_input.new.out.items in
    streamed IsPlayedBack true c.deref.result.now
    (told left (g.S.Source.faults c.args.source.now) (g.K.Sink.held c.args.sink.now) (g.K.Sink.faults c.args.sink.now))
    (told rest (g.S.Source.faults c.load_input.new.source) (g.K.Sink.held c.refuse.new.sink) (g.K.Sink.faults c.refuse.new.sink))
    c.refuse.result
    (line_played left old new c.deref.result.now c.new-line.ensures.items c.deref.ensures.value
    (if_none k.field-0 (IfSome left (λ bytes. IsRefusedInto 0 bytes old new)) is k.ensures.refused))
    (λ never. absurd (true≢false never))
    (record { read = k.ensures.rest; faultless = k.ensures.no_fault (λ e. absurd cc) })
    c.refuse.ensures.written
