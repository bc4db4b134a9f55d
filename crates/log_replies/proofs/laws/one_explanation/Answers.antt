use Rattle.log_replies.proofs.OneReply.{one_explanation}
use Rattle.log_replies.proofs.laws.one_explanation.Goals as goal

pub returns : goal.returns
returns c = one_explanation c.one_refusal.ensures c.one_loading.ensures c.one_trace.ensures
