use Rattle.std.proofs.Common.{◌≡◌, ℕ, ◌<◌, List, [], length, get_or, ap, ◌∙◌, arith}
use Rattle.ttf_form.specs.Cells.{CellData}
use Rattle.tombstone_text.specs.Chunks.{flag_of}
use Rattle.tombstone_text.specs.Code.Chunks.{bodies}
use Rattle.tombstone_text.proofs.Bodies as body
use Rattle.tombstone_text.proofs.Chunked as chunked
use Rattle.std.proofs.lemmas.List.{length-map}
use Rattle.tombstone_text.proofs.chunks.Chunks.chunk_flags.Goals as goal

pub returns-clause-least : goal.returns-clause-least
returns-clause-least c =
    let cs = (bodies c.self.inside.list.items) in
    let lt : c.args.i < length cs = let n = ap (λ v. length v.chunks) c.self.view_is in omega arith in
    let one = chunked.filled_at cs c.args.i c.self.invariant.0.filled lt in
    let read : c.index.result.now.cells ≡ get_or cs c.args.i [] =
    body.body_read c.self.inside.list.items c.args.i c.index.result.now lt c.index.ensures in
    let long = ap (λ (c : List CellData). length c) read in
    let flags = ap (λ (fs : List ℕ). length fs) c.flags.ensures.flags ∙ length-map c.index.result.now.cells flag_of in
    omega arith
