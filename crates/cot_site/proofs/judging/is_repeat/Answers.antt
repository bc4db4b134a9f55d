use Rattle.std.proofs.Common.{◌∙◌, sym, ap}
use Rattle.std.specs.Prelude.{nat_le}
use Rattle.context_vector.specs.Vectors.{VectorData}
use Rattle.context_diff.specs.declared.op.Op.{Op}
use Rattle.context_diff.specs.Ops.{data_of}
use Rattle.cot_site.specs.Verdicts.{is_repeat}
use Rattle.cot_site.proofs.judging.is_repeat.Goals as goal

pub returns-in-Undo : goal.returns-in-Undo
returns-in-Undo c =
    let h = c.args.book.now.ops in
    let have = ap (λ (v : VectorData). v.set) c.have.ensures ∙ c.known.ensures.have in
    ap (λ g. nat_le c.in-Undo.own g) (c.generation.ensures.history h c.known.ensures.valid have)
    ∙ ap (λ (o : Op). is_repeat h (data_of o)) (sym c.in-Undo.is)
