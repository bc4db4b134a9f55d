use Rattle.context_diff.proofs.Characters.{scalars_more, scalars_all}
use Rattle.context_diff.proofs.letters.are_characters.Goals as goal

pub loop-ch-preserved : goal.loop-ch-preserved
loop-ch-preserved c =
    scalars_more c.loop-ch.ch-index c.args.chars.now c.ch-item.result c.loop-ch.invariant c.loop-ch-test.true c.ch-item.is
    c.is_character.ensures

pub returns : goal.returns
returns c = scalars_all c.loop-ch.ch-index c.args.chars.now c.loop-ch.invariant c.loop-ch-test.false
