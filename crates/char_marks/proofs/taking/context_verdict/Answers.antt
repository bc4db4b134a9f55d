use Rattle.std.proofs.Common.{◌≡◌, refl, ap, sym, ◌∙◌, subst, arith}
use Rattle.context_vector.specs.Contexts.{ContextData}
use Rattle.context_vector.specs.Vectors.{VectorData}
use Rattle.context_diff.specs.Histories.{LacksNothing, LacksFirst, IsClosed, cells_in, context_of_all}
use Rattle.context_diff.specs.Books.{IsFirstOpenSite}
use Rattle.context_diff.proofs.CallerLemmas.{covered_ready, lacks_first}
use Rattle.char_marks.proofs.taking.context_verdict.Goals as goal

pub returns-in-Some : goal.returns-in-Some
returns-in-Some c =
    let h = c.args.book.now.ops in
    let v = c.args.context.now.set in
    let members : c.have.result.now.set ≡ context_of_all h = ap (λ (x : VectorData). x.set) c.have.ensures ∙ c.known.ensures.have in
    λ m ks e end new. (
      new,
      subst (λ (d : ContextData). LacksFirst h d c.in-Some.missing) (sym e)
          (lacks_first h c.have.result.now.set v c.known.ensures.valid members c.in-Some.missing c.in-Some.ensures.first),
    )

pub returns-in-Some-closed : goal.returns-in-Some-closed
returns-in-Some-closed c =
    let h = c.args.book.now.ops in
    let v = c.args.context.now.set in
    let members : c.have.result.now.set ≡ context_of_all h = ap (λ (x : VectorData). x.set) c.have.ensures ∙ c.known.ensures.have in
    let ready : LacksNothing h v =
    covered_ready h c.have.result.now.set v c.known.ensures.valid members (c.in_default.ensures.none.0 refl) in
    λ m ks e end new. (
      new,
      subst (λ (d : ContextData). LacksNothing h d) (sym e) ready,
      subst (λ (d : ContextData). IsFirstOpenSite h d c.in-Some-closed.site) (sym e) c.in-Some-closed.ensures.first,
    )

pub returns-then-room-end : goal.returns-then-room-end
returns-then-room-end c =
    let h = c.args.book.now.ops in
    let v = c.args.context.now.set in
    let members : c.have.result.now.set ≡ context_of_all h = ap (λ (x : VectorData). x.set) c.have.ensures ∙ c.known.ensures.have in
    let ready : LacksNothing h v =
    covered_ready h c.have.result.now.set v c.known.ensures.valid members (c.in_default.ensures.none.0 refl) in
    let closed : IsClosed h v = c.in_default-closed.ensures.none.0 refl in
    λ m ks e end new. (
      new,
      subst (λ (d : ContextData). LacksNothing h d) (sym e) ready,
      subst (λ (d : ContextData). IsClosed h d) (sym e) closed,
      c.cells_in-cells.ensures ∙ ap (cells_in h) (sym e),
      omega (arith, c.if-room-end.true, c.from-room.ensures, end),
    )

pub returns-else-room-end : goal.returns-else-room-end
returns-else-room-end c =
    let h = c.args.book.now.ops in
    let v = c.args.context.now.set in
    let members : c.have.result.now.set ≡ context_of_all h = ap (λ (x : VectorData). x.set) c.have.ensures ∙ c.known.ensures.have in
    let ready : LacksNothing h v =
    covered_ready h c.have.result.now.set v c.known.ensures.valid members (c.in_default.ensures.none.0 refl) in
    let closed : IsClosed h v = c.in_default-closed.ensures.none.0 refl in
    λ m ks e end new.
    let same : cells_in h m.context ≡ cells_in h v = ap (cells_in h) e in (
      new,
      subst (λ (d : ContextData). LacksNothing h d) (sym e) ready,
      subst (λ (d : ContextData). IsClosed h d) (sym e) closed,
      omega (arith, c.if-room-end.false, c.from-room.ensures, c.cells_in-cells.ensures, same, end),
    )
