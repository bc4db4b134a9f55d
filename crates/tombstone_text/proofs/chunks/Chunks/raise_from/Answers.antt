use Rattle.std.proofs.Common.{◌+◌, ◌<◌, ◌≤◌, List, length, map, refl, ap, ◌∙◌, arith}
use Rattle.ttf_form.specs.Cells.{CellData, change_at}
use Rattle.tombstone_text.specs.Code.Spans.{raised_run}
use Rattle.tombstone_text.proofs.Raising.{first_more, first_all, length-first}
use Rattle.tombstone_text.proofs.Reach.{first_lacking, found_all}
use Rattle.tombstone_text.proofs.chunks.Chunks.raise_from.Goals as goal

pub loop-i-init : goal.loop-i-init
loop-i-init c = (first_lacking c.args.generation c.args.name.now c.args.self.now.chunks c.args.first c.requires.before, refl)

pub raise_chunk-requires : goal.raise_chunk-requires
raise_chunk-requires c =
    let t = c.loop-i-test.true in
    let n = c.chunk_count-i-end.ensures in
    let now = ap (λ (s : List (List CellData)). length s) c.loop-i.invariant.0 in
    let same = length-first (map (raised_run c.args.generation c.args.name.now)) c.loop-i.i c.args.self.now.chunks in
    omega arith

pub loop-i-preserved : goal.loop-i-preserved
loop-i-preserved c =
    let f = map (raised_run c.args.generation c.args.name.now) in (
      c.raise_chunk.ensures.chunks
          ∙ ap (λ (s : List (List CellData)). change_at c.loop-i.i f s) c.loop-i.invariant.0
          ∙ first_more f c.loop-i.i (c.loop-i.i + 1) c.args.self.now.chunks (omega arith),
      c.raise_chunk.ensures.text ∙ c.loop-i.invariant.1,
    )

pub returns-then-raise_chunk-clause-chunks : goal.returns-then-raise_chunk-clause-chunks
returns-then-raise_chunk-clause-chunks c =
    let i = c.loop-i.i in
    let cs = c.args.self.now.chunks in
    let f = map (raised_run c.args.generation c.args.name.now) in
    let lt : i < length cs = let t = c.loop-i-test.true in let n = c.chunk_count-i-end.ensures in omega arith in
    c.raise_chunk.ensures.chunks
    ∙ ap (λ (s : List (List CellData)). change_at i f s) c.loop-i.invariant.0
    ∙ first_more f i _ cs refl
    ∙ found_all c.args.generation c.args.name.now cs c.loop-i.self.chunks i c.requires.inserts c.loop-i.invariant.0 lt
    (c.raise_chunk.ensures.last c.if-raise_chunk.true)

pub returns-clause-chunks : goal.returns-clause-chunks
returns-clause-chunks c =
    let cs = c.args.self.now.chunks in
    let done : length cs ≤ c.loop-i.i = let t = c.loop-i-test.false in let n = c.chunk_count-i-end.ensures in omega arith in
    c.loop-i.invariant.0 ∙ first_all (map (raised_run c.args.generation c.args.name.now)) c.loop-i.i cs done
