use Rattle.std.proofs.Common.{sym, ◌∙◌}
use Rattle.std.specs.Prelude.{string_bytes}
use Rattle.fixed_replay.proofs.Standing.{bytes_more, bytes_end}
use Rattle.fixed_replay.proofs.plain.encoded.Goals as goal

pub loop-ch-preserved : goal.loop-ch-preserved
loop-ch-preserved c =
    bytes_more (string_bytes c.loop-ch.text) _ c.args.characters.now c.loop-ch.ch-index c.ch-item.result c.loop-ch-test.true c.ch-item.is
    c.in_ok-push.ensures ∙ c.loop-ch.invariant

pub returns : goal.returns
returns c =
    sym (bytes_end (string_bytes c.loop-ch.text) c.args.characters.now c.loop-ch.ch-index c.loop-ch-test.false) ∙ c.loop-ch.invariant
