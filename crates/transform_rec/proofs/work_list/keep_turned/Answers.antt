use Rattle.std.proofs.Common.{true, sym, subst}
use Rattle.op_name.specs.declared.member.Member.{Member}
use Rattle.op_name.specs.Members.{IsMember}
use Rattle.context_vector.specs.Contexts.{IsNextMember}
use Rattle.transform_rec.specs.Histories.{family_in}
use Rattle.transform_rec.proofs.Transformations.{bases_causal, over_history}
use Rattle.transform_rec.proofs.Keeping.{forms_kept}
use Rattle.transform_rec.proofs.Steps.{own_member, own_next, own_room, turned_form, turned_key, form_here}
use Rattle.transform_rec.proofs.work_list.keep_turned.Goals as goal

pub derives-requires : goal.derives-requires
derives-requires g c =
    record { causal = bases_causal g.B.Bases c.args.bases.now c.args.book.now.ops c.requires.bases c.known.ensures.valid }

pub include-turned-requires : goal.include-turned-requires
include-turned-requires g c =
    let o = over_history g.B.Bases c.args.bases.now c.args.book.now.ops c.requires.bases c.derives.ensures.inclusion
    c.derives.ensures.family c.known.ensures.valid in
    let dk = form_here o c.args.key c.args.pair.now c.args.other c.requires.here c.requires.form in
    own_room o (g.B.Bases.members c.args.bases.now) c.requires.bases.members (g.met.B.Bases.total c.args.bases.now c.known-2.ensures)
    c.requires.waits.0 c.args.key.member c.args.pair.now c.args.other c.requires.waits.1 dk

pub add_member-requires-clause-member : goal.add_member-requires-clause-member
add_member-requires-clause-member g c =
    let o = over_history g.B.Bases c.args.bases.now c.args.book.now.ops c.requires.bases c.derives.ensures.inclusion
    c.derives.ensures.family c.known.ensures.valid in
    subst IsMember (sym c.member_in-m.ensures) (own_member o c.requires.waits.0 c.args.key.member c.args.pair.now c.requires.waits.1)

pub add_member-requires-clause-next : goal.add_member-requires-clause-next
add_member-requires-clause-next g c =
    let o = over_history g.B.Bases c.args.bases.now c.args.book.now.ops c.requires.bases c.derives.ensures.inclusion
    c.derives.ensures.family c.known.ensures.valid in
    subst (λ (m : Member). IsNextMember c.args.key.context m) (sym c.member_in-m.ensures)
    (own_next o c.requires.waits.0 c.args.key.member c.args.pair.now c.args.key.context c.requires.here c.requires.waits.1)

pub returns-clause-known : goal.returns-clause-known
returns-clause-known g c =
    let o = over_history g.B.Bases c.args.bases.now c.args.book.now.ops c.requires.bases c.derives.ensures.inclusion
    c.derives.ensures.family c.known.ensures.valid in
    let dk = form_here o c.args.key c.args.pair.now c.args.other c.requires.here c.requires.form in
    let key =
    turned_key c.add_member.new.at c.args.key c.args.pair.now c.member_in-m.result c.in_ok-add_member.ensures c.member_in-m.ensures
    c.requires.here in
    forms_kept g.F.Include.over (family_in c.args.book.now.ops (g.B.Bases.base_form c.args.bases.now)) c.args.cache.now
    c.keep_once.new.self.entries c.add_member.new.at c.include-turned.result true c.requires.known
    (turned_form o c.requires.waits.0 c.args.key.member c.args.pair.now c.args.other c.add_member.new.at c.include-turned.result
    c.requires.waits.1 dk key c.include-turned.ensures) c.keep_once.ensures.entries
