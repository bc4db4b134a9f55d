use Rattle.std.proofs.Common.{◌≡◌, refl, ap, subst, arith, IfSome, Bor}
use Rattle.std.specs.Prelude.{Option}
use Rattle.op_name.specs.NameData.{NameData}
use Rattle.context_vector.specs.Contexts.{count_of}
use Rattle.context_vector.specs.Vectors.{VectorData}
use Rattle.context_diff.specs.Code.ClosedParts.{IsClosedPart}
use Rattle.context_diff.proofs.ClosedParts.{last_covered}
use Rattle.context_diff.proofs.coverage.is_covered.Goals as goal

pub returns-then-count_near-name : goal.returns-then-count_near-name
returns-then-count_near-name c =
    let h = c.args.book.now.ops in
    let v = c.args.v.now.set in
    let d = c.in-Some.closed.now.set in
    let n : NameData = c.args.name.now in
    let part : IsClosedPart h v d =
    subst (λ (p : Option (Bor VectorData)). IfSome p (λ x. IsClosedPart h v x.now.set)) c.in-Some.is c.requires.part in
    let number : c.name.inside.number ≡ n.number = ap (λ (x : NameData). x.number) c.name.view_is in
    let counts : count_of d c.name.inside.site ≡ count_of d n.site = ap (λ (x : NameData). count_of d x.site) c.name.view_is in
    let last : count_of d n.site ≡ n.number = omega (arith, c.count_near.ensures, c.if-count_near-name.true, number, counts) in
    (λ _. last_covered h v d part n c.requires.known last, λ _. refl)
