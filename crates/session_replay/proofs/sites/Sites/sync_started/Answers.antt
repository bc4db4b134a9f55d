use Rattle.std.proofs.Common.{◌∙◌, sym}
use Rattle.session_replay.proofs.Needed.{as_needed, sync_some}
use Rattle.session_replay.proofs.sites.Sites.sync_started.Goals as goal

pub returns-clause-needed : goal.returns-clause-needed
returns-clause-needed c =
    λ memory. sync_some c.args.self.now (sym c.is_started.ensures ∙ c.if-not-is_started.false)
    (as_needed c.sync.result c.done.result c.done.ensures c.sync.ensures.needed memory)
