use Rattle.session_replay.proofs.Keeping.{zeros_known}
use Rattle.session_replay.proofs.sites.none_known.Goals as goal

pub returns-in-Ok : goal.returns-in-Ok
returns-in-Ok c = zeros_known c.args.count c.in-Ok.known.items (c.in-Ok.ensures.items_if_clones_equal (λ y same. same))
