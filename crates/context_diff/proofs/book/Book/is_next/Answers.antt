use Rattle.std.proofs.Common.{◌≡◌, false, ap, sym, subst₂, ◌∙◌}
use Rattle.std.proofs.lemmas.Bool.{false≢true, true≢false}
use Rattle.context_vector.specs.Contexts.{ContextData, Within, has}
use Rattle.context_vector.specs.Vectors.{VectorData}
use Rattle.context_diff.specs.Operations.{member_of, context_of}
use Rattle.context_diff.specs.Ops.{data_of}
use Rattle.context_diff.proofs.Next.{next_from, have_known, ready_covered}
use Rattle.context_diff.proofs.book.Book.is_next.Goals as goal
use Rattle.context_diff.proofs.book.Book.is_next.Goals.{then-is_some-via-then-is_some, then-is_some-via-else-is_some+then-contains}

pub returns-then-is_some : goal.returns-then-is_some
returns-then-is_some c =
    let h = c.args.self.now.ops in
    let o = data_of c.args.op.now in (
      λ no. absurd (false≢true no),
      λ next.
          elim c.then-is_some.branch [
            | then-is_some-via-then-is_some w ↦
                absurd (true≢false (sym w.if-is_some.true ∙ (c.is_some.ensures ∙ c.fault.ensures.none.1 next.formed)))
            | then-is_some-via-else-is_some+then-contains w ↦
                let had = have_known h c.args.self.now.have.set c.known.ensures.valid c.known.ensures.have (member_of o) ∙ next.new in
                absurd (true≢false (sym w.if-contains.true
                ∙ (w.contains.ensures ∙ ((λ i. has (w.have.ensures i).set (w.member.ensures.member i)) ∙ had))))
          ],
    )

pub returns-then-not-covers : goal.returns-then-not-covers
returns-then-not-covers c = (
  λ no. absurd (false≢true no),
  λ next.
      let covered =
      ready_covered c.args.self.now.ops c.args.self.now.have.set (context_of (data_of c.args.op.now)) c.known.ensures.valid
      c.known.ensures.have next.ready in
      absurd (false≢true (sym c.if-not-covers.true
      ∙ c.covers.ensures.1 (subst₂ (λ (x y : ContextData). Within x y) (sym c.context.ensures)
      (ap (λ (v : VectorData). v.set) (sym c.have-2.ensures)) covered))),
)

pub returns-then-closes : goal.returns-then-closes
returns-then-closes c =
    let h = c.args.self.now.ops in
    let o = data_of c.args.op.now in
    let covered : Within (context_of o) c.args.self.now.have.set =
    subst₂ (λ (x y : ContextData). Within x y) c.context.ensures (ap (λ (v : VectorData). v.set) c.have-2.ensures)
    (c.covers.ensures.0 c.if-not-covers.false) in
    let new : has c.args.self.now.have.set (member_of o) ≡ false =
    (λ i. has (sym c.have.ensures i).set (sym c.member.ensures.member i)) ∙ (sym c.contains.ensures ∙ c.if-contains.false) in (
      λ holds.
          next_from h c.args.self.now.have.set o c.known.ensures.valid c.known.ensures.have
          (c.fault.ensures.none.0 (sym c.is_some.ensures ∙ c.if-is_some.false)) new covered
          (c.closes.ensures.0 c.if-closes.true) (c.has_place.ensures.0 holds),
      λ next. c.has_place.ensures.1 next.placed,
    )
