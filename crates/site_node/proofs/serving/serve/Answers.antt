use Rattle.site_node.proofs.Servers.{unlinked}
use Rattle.site_node.proofs.serving.serve.Goals as goal

pub returns-in-Err-clause-stopped : goal.returns-in-Err-clause-stopped
returns-in-Err-clause-stopped g c = unlinked _ _ _ _ c.in-Err.ensures.failed
