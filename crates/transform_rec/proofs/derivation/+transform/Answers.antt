use Rattle.std.proofs.Common.{ℕ, suc, ◌≡◌, ◌≤◌, List, sym, subst, ◌∙◌, arith, rules}
use Rattle.op_name.specs.declared.member.Member.{Member}
use Rattle.context_vector.specs.Contexts.{has, raised}
use Rattle.ttf_form.specs.Families.{IsIn}
use Rattle.transform_rec.specs.Family.{size}
use Rattle.transform_rec.specs.Histories.{family_in}
use Rattle.context_diff.proofs.CallerLemmas.{known_in}
use Rattle.transform_rec.proofs.Transformations.{from_nothing, bases_causal, over_history, within_all, way_start, way_at, way_added, way_member, way_following, way_less, way_fits, way_on, way_skip, way_end}
use Rattle.transform_rec.proofs.derivation.+transform.Goals.{then-not-inert+in_ok-other, else-not-inert}
use Rattle.transform_rec.proofs.derivation.+transform.Goals as goal

pub derives-requires : goal.derives-requires
derives-requires g t c =
    record { causal = bases_causal g.B.Bases c.args.bases.now c.args.book.now.ops c.requires.bases c.known.ensures.valid }

pub base-form-requires : goal.base-form-requires
base-form-requires g t c =
    subst (λ (ms : List Member). IsIn c.args.m.now ms) (sym c.requires.bases.members)
    (known_in c.args.book.now.ops c.args.m.now c.requires.added.known)

pub difference-requires : goal.difference-requires
difference-requires g t c =
    within_all c.args.book.now.ops c.known.ensures.valid c.args.to.now.set c.args.book.now.have.set c.known.ensures.have
    c.requires.added.ready

pub loop-x-init : goal.loop-x-init
loop-x-init g t c =
    let o = over_history g.B.Bases c.args.bases.now c.args.book.now.ops c.requires.bases c.derives.ensures.inclusion
    c.derives.ensures.family c.known.ensures.valid in
    way_start o c.args.m.now c.args.to.now.set c.in_ok-context.context.set c.base-form.result c.deref-x-items.result.now c.requires.added
    c.in_ok-context.ensures.value c.base-form.ensures
    (from_nothing _ _ _ _ c.deref-x-items.ensures.value c.in_ok-difference.ensures.appended c.new-rest.ensures.items)

pub transform-requires : goal.transform-requires
transform-requires g t c κs within =
    let o = over_history g.B.Bases c.args.bases.now c.args.book.now.ops c.requires.bases c.derives.ensures.inclusion
    c.derives.ensures.family c.known.ensures.valid in
    let way =
    way_at o c.args.m.now c.x-item.result c.args.to.now.set c.loop-x.context.set c.loop-x.form c.deref-x-items.result.now
    c.loop-x.x-index (omega arith) c.x-item.is c.loop-x.invariant in
    let was : size (family_in c.args.book.now.ops (g.B.Bases.base_form c.args.bases.now)) (has c.args.to.now.set) ≡ t = c.decreases in
    let less = way_less o c.args.m.now c.x-item.result c.args.to.now.set c.loop-x.context.set c.loop-x.form _ way in
    let falls : suc (size (family_in c.args.book.now.ops (g.B.Bases.base_form c.args.bases.now)) (has c.loop-x.context.set)) ≤ t =
    subst (λ (n : ℕ). suc (size (family_in c.args.book.now.ops (g.B.Bases.base_form c.args.bases.now)) (has c.loop-x.context.set)) ≤ n)
    was less in (
      falls,
      (
        within.0,
        (
          within.1,
          (
            c.requires.bases,
            way_added o c.args.m.now c.x-item.result c.args.to.now.set c.loop-x.context.set c.loop-x.form _ way,
          ),
        ),
      ),
    )

pub include-form-requires : goal.include-form-requires
include-form-requires g t c =
    let o = over_history g.B.Bases c.args.bases.now c.args.book.now.ops c.requires.bases c.derives.ensures.inclusion
    c.derives.ensures.family c.known.ensures.valid in
    let way =
    way_at o c.args.m.now c.x-item.result c.args.to.now.set c.loop-x.context.set c.loop-x.form c.deref-x-items.result.now
    c.loop-x.x-index (omega arith) c.x-item.is c.loop-x.invariant in
    way_fits o c.args.m.now c.x-item.result c.args.to.now.set c.loop-x.context.set c.loop-x.form c.in_ok-other.other _
    (g.B.Bases.members c.args.bases.now) c.requires.bases.members (g.met.B.Bases.total c.args.bases.now c.known-2.ensures) way
    c.in_ok-other.ensures

pub add_reserved-requires-clause-member : goal.add_reserved-requires-clause-member
add_reserved-requires-clause-member g t c =
    let o = over_history g.B.Bases c.args.bases.now c.args.book.now.ops c.requires.bases c.derives.ensures.inclusion
    c.derives.ensures.family c.known.ensures.valid in
    let way =
    way_at o c.args.m.now c.x-item.result c.args.to.now.set c.loop-x.context.set c.loop-x.form c.deref-x-items.result.now
    c.loop-x.x-index (omega arith) c.x-item.is c.loop-x.invariant in
    way_member o c.args.m.now c.x-item.result c.args.to.now.set c.loop-x.context.set c.loop-x.form _ way

pub add_reserved-requires-clause-next : goal.add_reserved-requires-clause-next
add_reserved-requires-clause-next g t c =
    let o = over_history g.B.Bases c.args.bases.now c.args.book.now.ops c.requires.bases c.derives.ensures.inclusion
    c.derives.ensures.family c.known.ensures.valid in
    let way =
    way_at o c.args.m.now c.x-item.result c.args.to.now.set c.loop-x.context.set c.loop-x.form c.deref-x-items.result.now
    c.loop-x.x-index (omega arith) c.x-item.is c.loop-x.invariant in
    way_following o c.args.m.now c.x-item.result c.args.to.now.set c.loop-x.context.set c.reserve.new.self.set c.loop-x.form _ way
    c.reserve.ensures.same

pub loop-x-preserved : goal.loop-x-preserved
loop-x-preserved g t c =
    let o = over_history g.B.Bases c.args.bases.now c.args.book.now.ops c.requires.bases c.derives.ensures.inclusion
    c.derives.ensures.family c.known.ensures.valid in
    let way =
    way_at o c.args.m.now c.x-item.result c.args.to.now.set c.loop-x.context.set c.loop-x.form c.deref-x-items.result.now
    c.loop-x.x-index (omega arith) c.x-item.is c.loop-x.invariant in
    let more : c.add_reserved.new.self.set ≡ raised c.loop-x.context.set c.x-item.result =
    search (rules, c.add_reserved.ensures, c.reserve.ensures.same) in
    elim c.if-not-inert.branch [
      | then-not-inert+in_ok-other w ↦
          way_on o c.args.m.now c.x-item.result c.args.to.now.set c.loop-x.context.set c.add_reserved.new.self.set c.loop-x.form
          w.in_ok-other.other c.if-not-inert.form _ way w.in_ok-other.ensures more (w.form-is ∙ w.include-form.ensures)
      | else-not-inert w ↦ let inert : g.F.Include.IsInert (g.B.Bases.base_form c.args.bases.now c.x-item.result) =
          subst g.F.Include.IsInert c.base.ensures (c.inert.ensures.0 w.if-not-inert.false) in
          way_skip o g.F.Include.IsInert (record { law = g.met.F.Include.inert_law; kept = g.met.F.Include.inert_over }) c.args.m.now
          c.x-item.result c.args.to.now.set c.loop-x.context.set c.add_reserved.new.self.set c.loop-x.form c.if-not-inert.form _ inert
          way more w.form-is
    ]

pub returns : goal.returns
returns g t c =
    let o = over_history g.B.Bases c.args.bases.now c.args.book.now.ops c.requires.bases c.derives.ensures.inclusion
    c.derives.ensures.family c.known.ensures.valid in
    way_end o c.args.m.now c.args.to.now.set c.loop-x.context.set c.loop-x.form c.deref-x-items.result.now c.loop-x.x-index (omega arith)
    c.loop-x.invariant
