use Rattle.std.proofs.Common.{◌∙◌, sym, subst, ap, arith}
use mathlib.Core.Bool.{false≢true}
use Rattle.context_vector.specs.Contexts.{ContextData, Within}
use Rattle.context_vector.specs.Vectors.{VectorData}
use Rattle.cot_site.specs.Code.Notes.{set_at}
use Rattle.cot_site.proofs.Noted.{agree_same, differ_at, differ_without}
use Rattle.cot_site.proofs.notes.is_set.Goals as goal

pub returns-then-not-covers : goal.returns-then-not-covers
returns-then-not-covers c =
    let all = ap (λ (v : VectorData). v.set) c.have.ensures ∙ c.known.ensures.have in
    sym (differ_without c.args.book.now.ops c.known.ensures.valid c.args.members.now.set c.args.at c.requires
    (λ within. false≢true (sym c.if-not-covers.true
    ∙ c.covers.ensures.1 (subst (λ (d : ContextData). Within c.args.members.now.set d) (sym all) within))))

pub returns-then-not-agree_at : goal.returns-then-not-agree_at
returns-then-not-agree_at c =
    let h = c.args.book.now.ops in
    sym (differ_at h c.args.members.now.set (set_at h c.args.at) c.loop-place.place
    (λ agree. false≢true (sym c.if-not-agree_at.true ∙ c.agree_at.ensures.1 agree)))

pub returns : goal.returns
returns c =
    let all = ap (λ (v : VectorData). v.set) c.have.ensures ∙ c.known.ensures.have in
    let within = subst (λ (d : ContextData). Within c.args.members.now.set d) all (c.covers.ensures.0 c.if-not-covers.false) in
    sym (agree_same c.args.book.now.ops c.known.ensures.valid c.args.members.now.set c.args.at c.known-2.ensures c.requires within
    (λ i less. c.loop-place.invariant i (omega (arith, less, c.loop-place-test.false, c.len-place-end.ensures))))
