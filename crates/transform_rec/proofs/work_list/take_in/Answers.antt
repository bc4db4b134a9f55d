use Rattle.std.proofs.Common.{refl, sym, subst}
use Rattle.op_name.specs.declared.member.Member.{Member}
use Rattle.op_name.specs.Members.{IsMember}
use Rattle.context_vector.specs.Contexts.{IsNextMember}
use Rattle.transform_rec.proofs.Transformations.{bases_causal, over_history}
use Rattle.transform_rec.proofs.Steps.{grown_from, its_member, its_next, its_room, step_taken, form_here}
use Rattle.transform_rec.proofs.work_list.take_in.Goals as goal

pub derives-requires : goal.derives-requires
derives-requires g c =
    record { causal = bases_causal g.B.Bases c.args.bases.now c.args.book.now.ops c.requires.bases c.known.ensures.valid }

pub include-taken-requires : goal.include-taken-requires
include-taken-requires g c =
    let o = over_history g.B.Bases c.args.bases.now c.args.book.now.ops c.requires.bases c.derives.ensures.inclusion
    c.derives.ensures.family c.known.ensures.valid in
    let dk = form_here o c.args.key c.args.pair.now c.args.other c.requires.here c.requires.form in
    its_room o (g.B.Bases.members c.args.bases.now) c.requires.bases.members (g.met.B.Bases.total c.args.bases.now c.known-2.ensures)
    c.requires.waits.0 c.args.key.member c.args.pair.now c.args.other c.requires.waits.1 dk

pub add_member-requires-clause-member : goal.add_member-requires-clause-member
add_member-requires-clause-member g c =
    let o = over_history g.B.Bases c.args.bases.now c.args.book.now.ops c.requires.bases c.derives.ensures.inclusion
    c.derives.ensures.family c.known.ensures.valid in
    subst IsMember (sym c.member_in-x.ensures) (its_member o c.requires.waits.0 c.args.key.member c.args.pair.now c.requires.waits.1)

pub add_member-requires-clause-next : goal.add_member-requires-clause-next
add_member-requires-clause-next g c =
    let o = over_history g.B.Bases c.args.bases.now c.args.book.now.ops c.requires.bases c.derives.ensures.inclusion
    c.derives.ensures.family c.known.ensures.valid in
    subst (λ (m : Member). IsNextMember c.args.pair.now.at.context m) (sym c.member_in-x.ensures)
    (its_next o c.requires.waits.0 c.args.key.member c.args.pair.now c.requires.waits.1)

pub returns-clause-added : goal.returns-clause-added
returns-clause-added g c =
    let o = over_history g.B.Bases c.args.bases.now c.args.book.now.ops c.requires.bases c.derives.ensures.inclusion
    c.derives.ensures.family c.known.ensures.valid in
    let dk = form_here o c.args.key c.args.pair.now c.args.other c.requires.here c.requires.form in
    step_taken o c.requires.waits.0 c.args.key.member c.args.pair.now _ c.args.other c.include-taken.result c.requires.waits.1 dk
    c.include-taken.ensures (grown_from c.args.key.member c.member_in-x.result c.include-taken.result c.args.pair.now _
    c.member_in-x.ensures c.in_ok-add_member.ensures refl refl)
