use Rattle.std.proofs.Common.{◌≡◌, inl, inr, ap, sym, subst, ◌∙◌}
use Rattle.context_vector.specs.Contexts.{ContextData, Within}
use Rattle.context_diff.specs.Operations.{context_of}
use Rattle.context_diff.specs.Histories.{cells_in}
use Rattle.context_diff.specs.Ops.{data_of}
use Rattle.context_diff.specs.declared.op.Op.{Op}
use Rattle.context_diff.proofs.Next.{ready_covered}
use Rattle.context_diff.proofs.book.Book.cells_of.Goals as goal

pub cells_in-requires : goal.cells_in-requires
cells_in-requires c =
    let same : context_of (data_of c.args.op.now) ≡ c.in-Insert.context.set =
    elim c.in-Insert.is [ inl w ↦ ap (λ (o : Op). context_of (data_of o)) w.3 | inr w ↦ ap (λ (o : Op). context_of (data_of o)) w.2 ] in
    subst (λ (d : ContextData). Within d c.args.self.now.have.set) same
    (ready_covered c.args.self.now.ops c.args.self.now.have.set (context_of (data_of c.args.op.now)) c.known.ensures.valid
    c.known.ensures.have c.requires.ready)

pub returns-in-Insert : goal.returns-in-Insert
returns-in-Insert c original =
    let same : context_of (data_of c.args.op.now) ≡ c.in-Insert.context.set =
    elim c.in-Insert.is [ inl w ↦ ap (λ (o : Op). context_of (data_of o)) w.3 | inr w ↦ ap (λ (o : Op). context_of (data_of o)) w.2 ] in
    c.cells_in.ensures ∙ ap (cells_in c.args.self.now.ops) (sym same)
