use Rattle.std.proofs.Common.{sym, subst, ◌∙◌}
use Rattle.context_vector.specs.Contexts.{ContextData, Within, HasNoStray, has}
use Rattle.context_vector.specs.Vectors.{VectorData}
use Rattle.context_diff.proofs.CallerLemmas.{covered_ready, have_known}
use Rattle.transform_rec.specs.Histories.{MayBeAddedTo}
use Rattle.site_cases.proofs.derived.may_be_added.Goals as goal

pub base_context-requires : goal.base_context-requires
base_context-requires c =
    sym (have_known c.args.book.now.ops c.args.book.now.have.set c.known.ensures.valid c.known.ensures.have c.args.m.now)
    ∙ ((λ i. has (sym c.have.ensures i).set c.args.m.now) ∙ (sym c.contains.ensures ∙ c.if-not-contains.false))

pub returns : goal.returns
returns c holds =
    let to = c.context-to.result.now.set in
    let covered : Within to c.args.book.now.have.set =
    subst (λ (v : VectorData). Within to v.set) c.have-else-not-contains.ensures (c.covers.ensures.0 c.if-not-covers.false) in
    let may : MayBeAddedTo c.args.book.now.ops to c.args.m.now = record {
      known =
          sym (have_known c.args.book.now.ops c.args.book.now.have.set c.known.ensures.valid c.known.ensures.have c.args.m.now)
          ∙ ((λ i. has (sym c.have.ensures i).set c.args.m.now) ∙ (sym c.contains.ensures ∙ c.if-not-contains.false));
      ready = covered_ready c.args.book.now.ops c.args.book.now.have.set to c.known.ensures.valid c.known.ensures.have covered;
      closed = c.closed.ensures.none.0 (sym c.is_some.ensures ∙ c.if-is_some.false);
      stray = subst (λ (d : ContextData). HasNoStray d) (sym c.context-to.ensures)
          (c.fault.ensures.none.0 (sym c.is_some-else-is_some.ensures ∙ c.if-is_some-2.false)).stray;
      covers = λ y e. c.covers-2.ensures.0 c.if-not-covers-2.false y (c.in_ok-base.ensures.members y ∙ e);
      lacks = sym c.contains-else-not-covers-2.ensures ∙ c.if-contains.false;
    } in
    subst (λ (d : ContextData). MayBeAddedTo c.args.book.now.ops d c.args.m.now) c.context-to.ensures may
