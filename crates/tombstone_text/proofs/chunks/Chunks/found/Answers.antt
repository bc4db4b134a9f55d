use Rattle.std.proofs.Common.{◌<◌, [], length, get_or, ap, ◌∙◌, subst, arith}
use Rattle.tombstone_text.specs.Code.Chunks.{bodies}
use Rattle.tombstone_text.specs.Code.Inserts.{IsFound}
use Rattle.tombstone_text.proofs.Bodies as body
use Rattle.tombstone_text.proofs.chunks.Chunks.found.Goals as goal

pub returns : goal.returns
returns c =
    let cs = c.self.inside.list.items in
    let lt : c.args.i < length (bodies cs) = let n = ap (λ v. length v.chunks) c.self.view_is in omega arith in
    subst (λ s. IsFound c.found.result c.args.name.now s)
    (body.body_read cs c.args.i c.index.result.now lt c.index.ensures ∙ ap (λ v. get_or v.chunks c.args.i []) c.self.view_is)
    c.found.ensures
