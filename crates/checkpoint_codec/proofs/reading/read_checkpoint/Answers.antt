use Rattle.std.proofs.Common.{arith}
use Rattle.checkpoint_codec.proofs.Fronts.{tells_all, says_all, only_all, same_all}
use Rattle.checkpoint_codec.proofs.reading.read_checkpoint.Goals as goal

pub returns-in-Some-clause-tells : goal.returns-in-Some-clause-tells
returns-in-Some-clause-tells c =
    tells_all c.args.bytes.now c.in-Some.rest.now (λ i. omega (arith, c.type_inv.bytes i)) c.in-Some.ensures.some c.front_of.result
    c.front_of.ensures

pub returns-in-Some-clause-refused : goal.returns-in-Some-clause-refused
returns-in-Some-clause-refused c =
    says_all c.args.bytes.now c.in-Some.rest.now (λ i. omega (arith, c.type_inv.bytes i)) c.in-Some.ensures.some c.front_of.result
    c.front_of.ensures

pub returns-in-Some-clause-only : goal.returns-in-Some-clause-only
returns-in-Some-clause-only c =
    only_all c.args.bytes.now c.in-Some.rest.now (λ i. omega (arith, c.type_inv.bytes i)) c.in-Some.ensures.some c.front_of.result
    c.front_of.ensures

pub returns-in-Some-clause-same : goal.returns-in-Some-clause-same
returns-in-Some-clause-same c =
    same_all c.args.bytes.now c.in-Some.rest.now (λ i. omega (arith, c.type_inv.bytes i)) c.in-Some.ensures.some c.front_of.result
    c.front_of.ensures
