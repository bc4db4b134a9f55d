use Rattle.std.proofs.Common.{◌≡◌, List, ap, subst, arith}
use Rattle.std.specs.Prelude.{Option, IfSome, map}
use Rattle.context_diff.specs.Operations.{OpData}
use Rattle.context_diff.specs.Ops.{data_of}
use Rattle.context_diff.specs.Books.{BookData}
use Rattle.context_diff.specs.Code.Judged.{IsLately}
use Rattle.context_diff.specs.declared.judged.Lately.{Lately}
use Rattle.context_diff.proofs.Judging.{last_known}
use Rattle.context_diff.proofs.book.Book.last_cells.Goals as goal

pub returns-then-known-len : goal.returns-then-known-len
returns-then-known-len c o before there whole =
    let h = map data_of c.self.inside.ops.items in
    let ops : h ≡ c.args.self.now.ops = ap (λ (b : BookData). b.ops) c.self.view_is in
    let l = c.in_ok-known.known in
    let kept : IsLately h l = subst (λ (r : Option Lately). IfSome r (IsLately h)) c.in_ok-known.was c.self.invariant.lately in
    last_known c.args.self.now.ops c.known.ensures.valid l (subst (λ (k : List OpData). IsLately k l) ops kept)
    (omega (arith, c.if-known-len.true, c.len.ensures)) o before there whole
