use Rattle.std.proofs.Common.{sym, ◌∙◌}
use Rattle.std.proofs.lemmas.Option.{none-some}
use Rattle.context_diff.specs.Replays.{characters_of}
use Rattle.cotpad_c.proofs.Offsets.{no_address}
use Rattle.cotpad_c.proofs.positions.line.Goals as goal

pub returns-in-Some-clause-past : goal.returns-in-Some-clause-past
returns-in-Some-clause-past c past =
    absurd (none-some _ (sym (no_address (characters_of c.args.site.now.history) c.args.place past) ∙ sym c.line_of.ensures ∙ c.in-Some.is))
