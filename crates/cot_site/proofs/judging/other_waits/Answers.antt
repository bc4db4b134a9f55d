use Rattle.std.proofs.Common.{refl, ◌∙◌, sym, ap}
use Rattle.std.specs.Prelude.{not}
use Rattle.context_diff.specs.Ops.{data_of}
use Rattle.causal_gate.proofs.CallerLemmas.{named_once}
use Rattle.cot_site.proofs.Findings.{none_other, one_other}
use Rattle.cot_site.proofs.judging.other_waits.Goals as goal

pub returns-in-Some : goal.returns-in-Some
returns-in-Some c =
    let w = c.args.pool.now in
    let k = data_of c.in-Some.held.now in
    let n = c.args.name.now in
    ap not c.is_same.ensures
    ∙ one_other w (data_of c.args.op.now) k n c.in-Some.ensures.there
    (λ p at same. named_once w c.known.ensures.apart p k n at c.in-Some.ensures.there (same ∙ c.in-Some.ensures.named)
    c.in-Some.ensures.named) c.requires c.in-Some.ensures.named

pub returns-in-None : goal.returns-in-None
returns-in-None c = sym (none_other c.args.pool.now (data_of c.args.op.now) c.args.name.now c.requires (c.in-None.ensures.none.0 refl))
