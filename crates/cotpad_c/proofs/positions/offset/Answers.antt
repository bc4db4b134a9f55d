use Rattle.context_diff.specs.Replays.{characters_of}
use Rattle.cotpad_c.proofs.Offsets.{no_offset}
use Rattle.cotpad_c.proofs.positions.offset.Goals as goal

pub returns-in-Some-clause-past : goal.returns-in-Some-clause-past
returns-in-Some-clause-past c m given past =
    c.offset_by.ensures.past (no_offset c.in-Some.given (characters_of c.args.site.now.history) c.args.place past)
