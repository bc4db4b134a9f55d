use Rattle.std.proofs.Common.{◌<◌, ◌≤◌, length, get_or, set, ap, ◌∙◌, subst, arith}
use Rattle.std.proofs.lemmas.Result.{on_ok_weaker, on_err_weaker}
use Rattle.tombstone_text.specs.Cells.{HasGaps}
use Rattle.tombstone_text.specs.Chunks.{flat, joined}
use Rattle.tombstone_text.specs.Code.Chunks.{bodies, gaps_of}
use Rattle.tombstone_text.specs.Code.Spans.{IsSpot}
use Rattle.tombstone_text.specs.declared.chunk.TheConstants.{GAPS}
use Rattle.tombstone_text.proofs.Bodies as body
use Rattle.tombstone_text.proofs.Chunked as chunked
use Rattle.tombstone_text.proofs.Texts as texts
use Rattle.tombstone_text.specs.Code.Weights.{column_of}
use Rattle.tombstone_text.proofs.Weighing as weigh
use Rattle.tombstone_text.proofs.chunks.Chunks.make_gaps.Goals as goal

pub find-i-requires : goal.find-i-requires
find-i-requires c =
    let all = chunked.text-len _ _ _ _ c.self.invariant.0 in
    let seen = ap (λ v. length v.cells) c.self.view_is in
    omega arith

pub invariant_of-self : goal.invariant_of-self
invariant_of-self c =
    let spot = texts.text-spot _ _ _ _ _ _ _ c.self.invariant.0 c.find-i.ensures in
    let kept =
    body.bodies_kept c.self.inside.list.items c.find-i.result.0 c.index_mut.result.now c.make_gaps.new.self spot.chunk
    c.index_mut.ensures.value c.make_gaps.ensures.cells in
    let texts =
    body.texts_kept c.self.inside.list.items c.find-i.result.0 c.index_mut.result.now c.make_gaps.new.self spot.chunk
    c.index_mut.ensures.value c.make_gaps.ensures.text in
    let weights =
    weigh.weights_kept (column_of c.self.inside.weights) c.self.inside.list.items c.find-i.result.0 c.index_mut.result.now
    c.make_gaps.new.self spot.chunk c.index_mut.ensures.value c.make_gaps.ensures.cells c.make_gaps.ensures.text
    c.self.invariant.2 in
    (rw kept c.self.invariant.0, rw texts c.self.invariant.1, weights)

pub returns-clause-chunks : goal.returns-clause-chunks
returns-clause-chunks c =
    let spot = texts.text-spot _ _ _ _ _ _ _ c.self.invariant.0 c.find-i.ensures in
    body.bodies_kept c.self.inside.list.items c.find-i.result.0 c.index_mut.result.now c.make_gaps.new.self spot.chunk
    c.index_mut.ensures.value c.make_gaps.ensures.cells
    ∙ ap (λ v. v.chunks) c.self.view_is

pub returns-clause-cells : goal.returns-clause-cells
returns-clause-cells c =
    let spot = texts.text-spot _ _ _ _ _ _ _ c.self.invariant.0 c.find-i.ensures in
    ap (λ ds. flat ds) (body.bodies_kept c.self.inside.list.items c.find-i.result.0 c.index_mut.result.now c.make_gaps.new.self spot.chunk
    c.index_mut.ensures.value c.make_gaps.ensures.cells)
    ∙ ap (λ v. v.cells) c.self.view_is

pub returns-clause-texts : goal.returns-clause-texts
returns-clause-texts c =
    let spot = texts.text-spot _ _ _ _ _ _ _ c.self.invariant.0 c.find-i.ensures in
    body.texts_kept c.self.inside.list.items c.find-i.result.0 c.index_mut.result.now c.make_gaps.new.self spot.chunk
    c.index_mut.ensures.value c.make_gaps.ensures.text
    ∙ ap (λ v. v.texts) c.self.view_is

pub returns-clause-text : goal.returns-clause-text
returns-clause-text c =
    let spot = texts.text-spot _ _ _ _ _ _ _ c.self.invariant.0 c.find-i.ensures in
    ap (λ ts. joined ts) (body.texts_kept c.self.inside.list.items c.find-i.result.0 c.index_mut.result.now c.make_gaps.new.self
    spot.chunk c.index_mut.ensures.value c.make_gaps.ensures.text)
    ∙ ap (λ v. v.text) c.self.view_is

pub returns-clause-gaps : goal.returns-clause-gaps
returns-clause-gaps c =
    let cs = c.self.inside.list.items in
    let i = c.find-i.result.0 in
    let y = c.make_gaps.new.self in
    let spot = texts.text-spot _ _ _ _ _ _ _ c.self.invariant.0 c.find-i.ensures in
    let kept =
    body.bodies_kept cs i c.index_mut.result.now y spot.chunk c.index_mut.ensures.value c.make_gaps.ensures.cells in
    let now = body.gap_set cs i y spot.chunk in
    on_ok_weaker c.make_gaps.result
    (λ (more : GAPS ≤ y.gaps). λ j q s.
    let same = chunked.spot_unique (bodies cs) i c.find-i.result.1 j q c.args.place spot
    (subst (λ ds. IsSpot ds j q c.args.place) kept s) in
    subst (λ k. GAPS ≤ get_or (gaps_of (set cs i y)) k 0) same (omega (arith, more, now)))
    c.make_gaps.ensures.gaps

pub returns-clause-memory : goal.returns-clause-memory
returns-clause-memory c =
    let cs = c.self.inside.list.items in
    let i = c.find-i.result.0 in
    let x = c.index_mut.result.now in
    let spot = texts.text-spot _ _ _ _ _ _ _ c.self.invariant.0 c.find-i.ensures in
    let seen = subst (λ ds. IsSpot ds i c.find-i.result.1 c.args.place) (ap (λ v. v.chunks) c.self.view_is) spot in
    let was = body.gap_read cs i x spot.chunk c.index_mut.ensures.value in
    let view = ap (λ v. get_or v.gaps i 0) c.self.view_is in
    on_err_weaker c.make_gaps.result
    (λ (few : x.gaps < GAPS). λ (room : HasGaps c.args.self.now.chunks c.args.self.now.gaps c.args.place).
    absurd (omega (arith, few, was, view, room i c.find-i.result.1 seen)))
    c.make_gaps.ensures.memory
