use Rattle.std.proofs.Common.{sym, subst}
use Rattle.form_cache.specs.Keys.{KeyData}
use Rattle.transform_rec.specs.Histories.{MayBeAddedTo}
use Rattle.transform_rec.proofs.Transformations.{bases_causal, over_history}
use Rattle.transform_rec.proofs.Steps.{its_added, begun}
use Rattle.transform_rec.proofs.work_list.advance.Goals as goal

pub derives-requires : goal.derives-requires
derives-requires g c =
    record { causal = bases_causal g.B.Bases c.args.bases.now c.args.book.now.ops c.requires.bases c.known.ensures.valid }

pub take_in-requires-clause-form : goal.take_in-requires-clause-form
take_in-requires-clause-form g c = (rw c.in-Some.is at c.form_kept.ensures.form).0

pub start-requires-clause-added : goal.start-requires-clause-added
start-requires-clause-added g c =
    let o = over_history g.B.Bases c.args.bases.now c.args.book.now.ops c.requires.bases c.derives.ensures.inclusion
    c.derives.ensures.family c.known.ensures.valid in
    subst (λ (k : KeyData). MayBeAddedTo c.args.book.now.ops k.context k.member) (sym c.in_ok-key.ensures)
    (its_added o c.requires.waits.0 c.args.x.now c.args.pair.now c.requires.waits.1)

pub returns-clause-begun : goal.returns-clause-begun
returns-clause-begun g c =
    let o = over_history g.B.Bases c.args.bases.now c.args.book.now.ops c.requires.bases c.derives.ensures.inclusion
    c.derives.ensures.family c.known.ensures.valid in
    begun o c.args.x.now c.args.pair.now c.in_ok-inner.inner c.in_ok-key.key c.in_ok-key.ensures c.in_ok-inner.ensures.member
    c.in_ok-inner.ensures.way
