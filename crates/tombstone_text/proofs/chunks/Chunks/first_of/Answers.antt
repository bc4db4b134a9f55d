use Rattle.std.proofs.Common.{◌≡◌, List, length, take, slice_get, Some, sym, ap, ◌∙◌, subst, arith}
use Rattle.ttf_form.specs.Cells.{CellData}
use Rattle.tombstone_text.specs.Chunks.{flat}
use Rattle.tombstone_text.specs.Code.Chunks.{bodies}
use Rattle.tombstone_text.specs.Code.Inserts.{AreInserts, LacksRun}
use Rattle.tombstone_text.proofs.Bodies as body
use Rattle.tombstone_text.proofs.Chunked as chunked
use Rattle.tombstone_text.proofs.Reach.{chunks_before}
use Rattle.tombstone_text.proofs.Texts as texts
use Rattle.tombstone_text.proofs.chunks.Chunks.first_of.Goals as goal

pub find-i-requires : goal.find-i-requires
find-i-requires c =
    let all = chunked.text-len _ _ _ _ c.self.invariant.0 in
    let seen = ap (λ v. length v.cells) c.self.view_is in
    omega arith

pub returns-then-is_first_of : goal.returns-then-is_first_of
returns-then-is_first_of c =
    let cs = bodies c.self.inside.list.items in
    let i = c.find-i.result.0 in
    let o = c.find-i.result.1 in
    let p = c.args.place in
    let n = c.args.name.now in
    let spot = texts.text-spot _ _ _ _ _ _ _ c.self.invariant.0 c.find-i.ensures in
    let read = body.body_read c.self.inside.list.items i c.index.result.now spot.chunk c.index.ensures in
    let there : slice_get (flat cs) p ≡ Some c.in-Some.cell =
    chunked.flat_get cs i o p spot ∙ ap (λ (s : List CellData). slice_get s o) (sym read) ∙ sym c.cell.ensures ∙ c.in-Some.is in
    let inserts : AreInserts (flat cs) = subst (λ v. AreInserts v.cells) (sym c.self.view_is) c.requires.inserts in
    let first = c.is_first_of.ensures.0 c.if-is_first_of.true in
    subst (λ v. LacksRun n (flat (take i v.chunks))) c.self.view_is
    (chunks_before n cs i o p c.in-Some.cell inserts spot there first.0 first.1)
