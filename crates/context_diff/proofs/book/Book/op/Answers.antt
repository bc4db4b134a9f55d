use Rattle.std.proofs.Common.{◌≡◌, List, ap, ◌∙◌}
use Rattle.std.specs.Prelude.{map, slice_get}
use Rattle.context_diff.specs.Operations.{OpData}
use Rattle.context_diff.specs.Ops.{data_of}
use Rattle.context_diff.specs.Books.{BookData}
use Rattle.context_diff.specs.declared.op.Op.{Op}
use Rattle.context_diff.proofs.book.Book.op.Goals as goal

pub returns : goal.returns
returns c =
    let ops : map data_of c.self.inside.ops.items ≡ c.args.self.now.ops = ap (λ (b : BookData). b.ops) c.self.view_is in
    c.op_at.ensures ∙ (ap (λ (os : List Op). slice_get (map data_of os) c.args.i) c.as_slice.ensures.value
    ∙ ap (λ (h : List OpData). slice_get h c.args.i) ops)
