use Rattle.std.proofs.Common.{refl}
use Rattle.transform_rec.proofs.Transformations.{bases_causal, over_history}
use Rattle.transform_rec.proofs.Steps.{its_member, its_next, step_passed}
use Rattle.transform_rec.proofs.work_list.pass.Goals as goal

pub derives-requires : goal.derives-requires
derives-requires g c =
    record { causal = bases_causal g.B.Bases c.args.bases.now c.args.book.now.ops c.requires.bases c.known.ensures.valid }

pub add_member-requires-clause-member : goal.add_member-requires-clause-member
add_member-requires-clause-member g c =
    let o = over_history g.B.Bases c.args.bases.now c.args.book.now.ops c.requires.bases c.derives.ensures.inclusion
    c.derives.ensures.family c.known.ensures.valid in
    its_member o c.requires.waits.0 c.args.x.now c.args.pair.now c.requires.waits.1

pub add_member-requires-clause-next : goal.add_member-requires-clause-next
add_member-requires-clause-next g c =
    let o = over_history g.B.Bases c.args.bases.now c.args.book.now.ops c.requires.bases c.derives.ensures.inclusion
    c.derives.ensures.family c.known.ensures.valid in
    its_next o c.requires.waits.0 c.args.x.now c.args.pair.now c.requires.waits.1

pub returns : goal.returns
returns g c =
    let o = over_history g.B.Bases c.args.bases.now c.args.book.now.ops c.requires.bases c.derives.ensures.inclusion
    c.derives.ensures.family c.known.ensures.valid in
    step_passed o g.F.Include.IsInert (record { law = g.met.F.Include.inert_law; kept = g.met.F.Include.inert_over }) c.requires.waits.0
    c.args.x.now c.args.pair.now _ c.requires.inert c.requires.waits.1
    (record { key = c.in_ok-add_member.ensures; form = refl; rest = refl })
