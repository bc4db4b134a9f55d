use Rattle.trace_explain.proofs.OneTrace.{one_trace_of}
use Rattle.trace_explain.proofs.laws.one_trace.Goals as goal

pub returns : goal.returns
returns c h m ls ks a b = one_trace_of h m ls ks a b
