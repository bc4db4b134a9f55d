use Rattle.std.proofs.Common.{◌<◌, List, length, map, set, ap, ◌∙◌, arith}
use Rattle.std.proofs.lemmas.List.{length-map}
use Rattle.ttf_form.specs.Cells.{CellData, change_at}
use Rattle.tombstone_text.specs.Code.Spans.{raised_run}
use Rattle.tombstone_text.specs.Chunks.{joined}
use Rattle.tombstone_text.specs.Code.Chunks.{bodies}
use Rattle.tombstone_text.proofs.Bodies as body
use Rattle.tombstone_text.proofs.Chunked as chunked
use Rattle.tombstone_text.proofs.Shown.{set_change}
use Rattle.tombstone_text.proofs.Texts as texts
use Rattle.tombstone_text.proofs.Weighing as weigh
use Rattle.tombstone_text.proofs.Measuring.{shown-le}
use Rattle.tombstone_text.specs.Code.Weights.{weighed, column_of}
use Rattle.tombstone_text.proofs.chunks.Chunks.raise_there.Goals as goal

pub set-requires-clause-low : goal.set-requires-clause-low
set-requires-clause-low c =
    let lt : c.args.i < length (bodies c.self.inside.list.items) = let n = ap (λ v. length v.chunks) c.self.view_is in omega arith in
    let f = raised_run c.args.generation c.args.name.now in
    let read =
    body.body_read c.self.inside.list.items c.args.i c.index_mut-chunk.result.now lt c.index_mut-chunk.ensures.value in
    let long =
    ap (λ (s : List CellData). length s) c.raise.ensures.cells ∙ length-map c.index_mut-chunk.result.now.cells f
    ∙ ap (λ (s : List CellData). length s) read in
    let now = texts.chunk_changed _ _ _ _ _ _ _ c.self.invariant.0 lt long c.shown-shown.ensures in
    let all = chunked.text-len _ _ _ _ c.self.invariant.0 in
    let low = c.total.ensures.low in
    omega (arith, now.all)

pub invariant_of-self : goal.invariant_of-self
invariant_of-self c =
    let lt : c.args.i < length (bodies c.self.inside.list.items) = let n = ap (λ v. length v.chunks) c.self.view_is in omega arith in
    let f = raised_run c.args.generation c.args.name.now in
    let read =
    body.body_read c.self.inside.list.items c.args.i c.index_mut-chunk.result.now lt c.index_mut-chunk.ensures.value in
    let long =
    ap (λ (s : List CellData). length s) c.raise.ensures.cells ∙ length-map c.index_mut-chunk.result.now.cells f
    ∙ ap (λ (s : List CellData). length s) read in
    let now = texts.chunk_changed _ _ _ _ _ _ _ c.self.invariant.0 lt long c.shown-shown.ensures in
    let texts =
    body.texts_kept c.self.inside.list.items c.args.i c.index_mut-chunk.result.now c.raise.new.self lt c.index_mut-chunk.ensures.value
    c.raise.ensures.text in (
      rw (c.set.ensures.parts, body.bodies_set c.self.inside.list.items c.args.i c.raise.new.self) now.text,
      rw texts c.self.invariant.1,
      weigh.weights_set (column_of c.self.inside.weights) (column_of c.change.new.self) c.self.inside.list.items c.args.i c.raise.new.self
          (weighed c.weight-weight.result) c.self.invariant.2 c.change.ensures.parts c.weight-weight.ensures,
    )

pub returns-clause-chunks : goal.returns-clause-chunks
returns-clause-chunks c =
    let lt : c.args.i < length (bodies c.self.inside.list.items) = let n = ap (λ v. length v.chunks) c.self.view_is in omega arith in
    let f = raised_run c.args.generation c.args.name.now in
    let there =
    body.body_there c.self.inside.list.items c.args.i c.index_mut-chunk.result.now lt c.index_mut-chunk.ensures.value in
    body.bodies_set c.self.inside.list.items c.args.i c.raise.new.self
    ∙ ap (λ d. set (bodies c.self.inside.list.items) c.args.i d) c.raise.ensures.cells
    ∙ set_change (map f) (bodies c.self.inside.list.items) c.args.i c.index_mut-chunk.result.now.cells lt there
    ∙ ap (λ v. change_at c.args.i (map f) v.chunks) c.self.view_is

pub returns-clause-text : goal.returns-clause-text
returns-clause-text c =
    let lt : c.args.i < length (bodies c.self.inside.list.items) = let n = ap (λ v. length v.chunks) c.self.view_is in omega arith in
    ap (λ ts. joined ts) (body.texts_kept c.self.inside.list.items c.args.i c.index_mut-chunk.result.now c.raise.new.self lt
    c.index_mut-chunk.ensures.value c.raise.ensures.text)
    ∙ ap (λ v. v.text) c.self.view_is

pub change-requires-clause-within : goal.change-requires-clause-within
change-requires-clause-within c m =
    let lt : c.args.i < length (bodies c.self.inside.list.items) = let n = ap (λ v. length v.chunks) c.self.view_is in omega arith in
    omega (arith, lt, weigh.weights_long (column_of c.self.inside.weights) c.self.inside.list.items c.self.invariant.2 m)

pub change-requires-clause-low : goal.change-requires-clause-low
change-requires-clause-low c m =
    let lt : c.args.i < length (bodies c.self.inside.list.items) = let n = ap (λ v. length v.chunks) c.self.view_is in omega arith in
    let ps = (column_of c.self.inside.weights) in
    let cs = c.self.inside.list.items in
    let x = c.index_mut-chunk.result.now in
    let long =
    ap (λ (s : List CellData). length s) c.raise.ensures.cells
    ∙ length-map x.cells (raised_run c.args.generation c.args.name.now) in
    omega (
      arith,
      long,
      c.total.ensures.low,
      chunked.text-len _ _ _ _ c.self.invariant.0,
      c.weight-weight.ensures m,
      shown-le m c.raise.new.self.cells c.raise.new.self.text,
      weigh.chunk-le cs c.args.i x lt c.index_mut-chunk.ensures.value,
      weigh.set-low ps cs c.args.i (weighed c.weight-weight.result m) c.self.invariant.2 lt m,
    )
