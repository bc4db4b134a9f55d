use Rattle.std.proofs.Common.{◌≡◌, false, rules}
use Rattle.op_name.specs.declared.member.Member.TheVariants.{Original}
use Rattle.context_diff.specs.Operations.{member_of, is_original}
use Rattle.context_diff.specs.Ops.{data_of}
use Rattle.causal_gate.proofs.Named.{named_remove, named_remove_undo}
use Rattle.causal_gate.proofs.names.forget.Goals as goal

pub returns-in-Insert : goal.returns-in-Insert
returns-in-Insert c = λ os i apart at named.
    let is : member_of (data_of c.args.op.now) ≡ Original c.in-Insert.name = search rules in
    named_remove _ _ os i (data_of c.args.op.now) c.in-Insert.name c.drop_name.ensures is apart at named

pub returns-in-Undo : goal.returns-in-Undo
returns-in-Undo c = λ os i apart at named.
    let undo : is_original (data_of c.args.op.now) ≡ false = search rules in
    named_remove_undo _ os i (data_of c.args.op.now) undo at named
