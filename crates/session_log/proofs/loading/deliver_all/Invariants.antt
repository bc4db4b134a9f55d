use Rattle.std.proofs.Common.{length}
use Rattle.cot_site.specs.Sites.{state_of}
use Rattle.session_log.proofs.TakingIn.{IsLoading}
use Rattle.session_log.proofs.loading.deliver_all.Given as goal

-- the operations that were passed over are taken in
abbrev pub invariant-loop-released : goal.invariant-loop-released
invariant-loop-released l = IsLoading l.fn.site.number l.bytes l.left (state_of l.site)

abbrev pub decreases-loop-released : goal.decreases-loop-released
decreases-loop-released l = length l.left.bytes
