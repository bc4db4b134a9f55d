use Rattle.std.proofs.Common.{◌≡◌, length, map, ap, subst, arith}
use Rattle.tombstone_text.specs.Code.Chunks.{bodies}
use Rattle.tombstone_text.proofs.Chunked as chunked
use Rattle.tombstone_text.proofs.Beside as beside
use Rattle.tombstone_text.proofs.chunks.Chunks.known.Goals as goal

pub returns-clause-most : goal.returns-clause-most
returns-clause-most c =
    let all = chunked.text-len _ _ _ _ c.self.invariant.0 in
    let seen = ap (λ v. length v.cells) c.self.view_is in
    let low = c.total.ensures.low in
    omega arith

pub returns-clause-beside : goal.returns-clause-beside
returns-clause-beside c =
    subst (λ v. map (λ t. length t) v.texts ≡ map (λ d. length d) v.chunks) c.self.view_is
    (beside.beside_same _ _ _ _ _ c.self.invariant.0 c.self.invariant.1)

pub returns-clause-long : goal.returns-clause-long
returns-clause-long c =
    subst (λ v. length v.text ≡ length v.cells) c.self.view_is (beside.beside_all _ _ _ _ _ c.self.invariant.0 c.self.invariant.1)

pub returns-clause-few : goal.returns-clause-few
returns-clause-few c =
    let all = chunked.text-len _ _ _ _ c.self.invariant.0 in
    let few = chunked.chunks-le (bodies c.self.inside.list.items) c.self.invariant.0.filled in
    let seen = ap (λ v. length v.chunks) c.self.view_is in
    let low = c.total.ensures.low in
    omega arith
