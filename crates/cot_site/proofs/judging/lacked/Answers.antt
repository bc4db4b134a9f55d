use Rattle.std.proofs.Common.{◌∙◌, ap, subst, IfSome, IsNone, ◌↔◌}
use Rattle.context_vector.specs.Contexts.{ContextData, Within}
use Rattle.context_vector.specs.Vectors.{VectorData, IsFirstMissing}
use Rattle.context_diff.specs.Ops.{data_of}
use Rattle.cot_site.proofs.Findings.{lacked_found, none_lacking}
use Rattle.cot_site.proofs.judging.lacked.Goals as goal

pub returns-clause-lacked : goal.returns-clause-lacked
returns-clause-lacked c =
    let h = c.args.book.now.ops in
    let o = data_of c.args.op.now in
    let have = ap (λ (v : VectorData). v.set) c.have.ensures ∙ c.known.ensures.have in
    let first =
    subst (λ (d : ContextData). IfSome c.first_missing.result (IsFirstMissing c.have.result.now.set d)) c.context.ensures
    c.first_missing.ensures.first in
    let none =
    subst (λ (d : ContextData). IsNone c.first_missing.result ↔ Within d c.have.result.now.set) c.context.ensures
    c.first_missing.ensures.none in
    lacked_found h c.have.result.now.set o c.known.ensures.valid have c.requires c.first_missing.result first none

pub returns-clause-nothing : goal.returns-clause-nothing
returns-clause-nothing c =
    let h = c.args.book.now.ops in
    let o = data_of c.args.op.now in
    let have = ap (λ (v : VectorData). v.set) c.have.ensures ∙ c.known.ensures.have in
    let none =
    subst (λ (d : ContextData). IsNone c.first_missing.result ↔ Within d c.have.result.now.set) c.context.ensures
    c.first_missing.ensures.none in
    none_lacking h c.have.result.now.set o c.known.ensures.valid have c.first_missing.result none
