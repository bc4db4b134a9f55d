use Rattle.std.proofs.Common.{sym, ◌∙◌, ap}
use Rattle.context_diff.specs.Operations.{OpData, member_of}
use Rattle.context_diff.specs.Ops.{data_of}
use Rattle.participant.specs.Reached.{at}
use Rattle.peer_exchange.proofs.FirstTaken.{one_taken, one_refused, one_cut}
use Rattle.peer_exchange.proofs.receiving.take_lent.Goals as goal

pub returns-then-is_had-clause-taken : goal.returns-then-is_had-clause-taken
returns-then-is_had-clause-taken c =
    one_taken (at c.args.site.now c.clear.new.self.items) (at c.take_in.new.site c.take_in.new.released.items) (data_of c.args.op.now)
    c.in-Ok.verdict c.in-Ok.ensures.verdict (sym c.is_had.ensures ∙ c.if-is_had.true) c.in-Ok.ensures.taken

pub returns-else-is_had-clause-untaken : goal.returns-else-is_had-clause-untaken
returns-else-is_had-clause-untaken c =
    one_refused (at c.args.site.now c.clear.new.self.items) (at c.take_in.new.site c.take_in.new.released.items) (data_of c.args.op.now)
    c.in-Ok.verdict c.member.result c.in-Ok.ensures.verdict
    (c.member.ensures.member ∙ ap (λ (o : OpData). member_of o) c.take_in.ensures.op)
    (sym c.is_had.ensures ∙ c.if-is_had.false) c.in-Ok.ensures.taken

pub returns-in-Err-clause-untaken : goal.returns-in-Err-clause-untaken
returns-in-Err-clause-untaken c =
    one_cut (at c.args.site.now c.clear.new.self.items) (at c.take_in.new.site c.take_in.new.released.items) (data_of c.args.op.now)
    c.in-Err.field-0 c.clear.ensures.items c.in-Err.ensures.untaken
