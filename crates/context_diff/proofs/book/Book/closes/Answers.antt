use Rattle.std.proofs.Common.{◌≡◌, true, inl, inr, ap, sym, subst, ◌∙◌, not}
use Rattle.std.proofs.lemmas.Bool.{not-false}
use Rattle.context_vector.specs.Contexts.{ContextData}
use Rattle.context_diff.specs.Operations.{context_of, is_original}
use Rattle.context_diff.specs.Histories.{IsClosed}
use Rattle.context_diff.specs.Ops.{data_of}
use Rattle.context_diff.specs.declared.op.Op.{Op}
use Rattle.context_diff.proofs.book.Book.closes.Goals as goal

pub returns-in-Insert : goal.returns-in-Insert
returns-in-Insert c =
    let h = c.args.self.now.ops in
    let same : context_of (data_of c.args.op.now) ≡ c.in-Insert.context.set =
    elim c.in-Insert.is [ inl w ↦ ap (λ (o : Op). context_of (data_of o)) w.3 | inr w ↦ ap (λ (o : Op). context_of (data_of o)) w.2 ] in
    let original : is_original (data_of c.args.op.now) ≡ true =
    elim c.in-Insert.is [
      | inl w ↦ ap (λ (o : Op). is_original (data_of o)) w.3
      | inr w ↦
          ap (λ (o : Op). is_original (data_of o)) w.2
    ] in (
      λ yes _. subst (λ (v : ContextData). IsClosed h v) (sym same) (c.closed.ensures.none.0 (c.is_none.ensures ∙ ap not yes)),
      λ closed. not-false c.is_none.result
          (sym c.is_none.ensures ∙ c.closed.ensures.none.1 (subst (λ (v : ContextData). IsClosed h v) same (closed original))),
    )
