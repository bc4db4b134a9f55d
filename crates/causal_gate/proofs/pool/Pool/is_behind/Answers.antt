use Rattle.std.proofs.Common.{◌≡◌, ap, sym, ◌∙◌, List, map}
use Rattle.std.specs.Prelude.{Option, Some, slice_get}
use Rattle.op_name.specs.NameData.{NameData}
use Rattle.context_diff.specs.Operations.{OpData}
use Rattle.causal_gate.specs.Names.{op_in}
use Rattle.causal_gate.proofs.Turns.{before_waits, not_there}
use Rattle.causal_gate.proofs.pool.Pool.is_behind.Goals as goal

pub returns-in-Some-Some-clause-waits : goal.returns-in-Some-Some-clause-waits
returns-in-Some-Some-clause-waits c = λ behind o there.
    let ns = c.self.inside.befores.items in
    let seen : c.name_in.result ≡ slice_get ns c.args.i =
    c.name_in.ensures ∙ ap (λ (ks : List (Option NameData)). slice_get ks c.args.i) c.as_slice.ensures.value in
    let is = c.in-Some-Some.is in
    let field = c.in-Some-Some.field-0-is in
    let at : slice_get ns c.args.i ≡ Some (Some c.in-Some-Some.before) = cc in
    before_waits (map op_in c.self.inside.ops.items) ns c.args.i c.in-Some-Some.before o c.args.have.now.set c.self.invariant.2 at
    (ap (λ (os : List OpData). slice_get os c.args.i) c.self.view_is ∙ there)
    (sym c.has.ensures.has ∙ not_there c.has.result behind)
