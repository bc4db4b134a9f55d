use Rattle.std.proofs.Common.{◌≡◌, false, rules}
use Rattle.op_name.specs.declared.member.Member.TheVariants.{Original}
use Rattle.context_diff.specs.Operations.{member_of, is_original}
use Rattle.context_diff.specs.Ops.{data_of}
use Rattle.causal_gate.proofs.Named.{named_push, named_push_undo}
use Rattle.causal_gate.proofs.names.note.Goals as goal

pub returns-in-Insert : goal.returns-in-Insert
returns-in-Insert c = λ os named.
    let is : member_of (data_of c.args.op.now) ≡ Original c.in-Insert.name = search rules in
    named_push _ _ os (data_of c.args.op.now) c.in-Insert.name c.args.number c.put.ensures is named

pub returns-in-Undo : goal.returns-in-Undo
returns-in-Undo c = λ os named.
    let undo : is_original (data_of c.args.op.now) ≡ false = search rules in
    named_push_undo _ os (data_of c.args.op.now) undo named
