use Rattle.log_replies.proofs.PastReplies.{one_past}
use Rattle.log_replies.proofs.laws.one_past.Goals as goal

pub returns : goal.returns
returns c = one_past c.one_refusal.ensures c.one_loading.ensures
