use Rattle.log_replies.proofs.OneReply.{one_reply}
use Rattle.log_replies.proofs.laws.one_reply.Goals as goal

pub returns : goal.returns
returns c = one_reply c.one_refusal.ensures c.one_loading.ensures
