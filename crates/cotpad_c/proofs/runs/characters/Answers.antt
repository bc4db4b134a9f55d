use Rattle.std.proofs.Common.{sym, ◌∙◌}
use Rattle.std.proofs.lemmas.Iterator.{YieldsList-from_chars}
use Rattle.std.proofs.lemmas.Iterator.Consumers.{YieldsList-end}
use Rattle.std.proofs.lemmas.List.{map-id}
use Rattle.cotpad_c.proofs.runs.characters.Goals as goal

pub returns-clause-read : goal.returns-clause-read
returns-clause-read c =
    let end =
    YieldsList-end (YieldsList-from_chars c.args.text.now c.utf8.text cc) c.loop-ch.yielded _ c.loop-ch.yielded_by _ _ c.in-None.is
    c.next.ensures.steps in
    c.loop-ch.invariant ∙ sym (map-id c.loop-ch.yielded) ∙ end.0
