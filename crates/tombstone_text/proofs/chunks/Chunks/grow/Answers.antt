use Rattle.std.proofs.Common.{◌<◌, ◌≤◌, length, ap, ◌∙◌, arith}
use Rattle.std.proofs.lemmas.Result.{on_ok_weaker}
use Rattle.tombstone_text.specs.Chunks.{flat, joined}
use Rattle.tombstone_text.specs.Code.Chunks.{bodies}
use Rattle.tombstone_text.specs.declared.chunk.TheConstants.{GAPS}
use Rattle.tombstone_text.proofs.Bodies as body
use Rattle.tombstone_text.specs.Code.Weights.{column_of}
use Rattle.tombstone_text.proofs.Weighing as weigh
use Rattle.tombstone_text.proofs.chunks.Chunks.grow.Goals as goal

pub invariant_of-self : goal.invariant_of-self
invariant_of-self c =
    let lt : c.args.i < length (bodies c.self.inside.list.items) = let n = ap (λ v. length v.chunks) c.self.view_is in omega arith in
    let kept =
    body.bodies_kept c.self.inside.list.items c.args.i c.index_mut.result.now c.grow.new.self lt c.index_mut.ensures.value
    c.grow.ensures.cells in
    let texts =
    body.texts_kept c.self.inside.list.items c.args.i c.index_mut.result.now c.grow.new.self lt c.index_mut.ensures.value
    c.grow.ensures.text in
    let weights =
    weigh.weights_kept (column_of c.self.inside.weights) c.self.inside.list.items c.args.i c.index_mut.result.now c.grow.new.self lt
    c.index_mut.ensures.value c.grow.ensures.cells c.grow.ensures.text c.self.invariant.2 in
    (rw kept c.self.invariant.0, rw texts c.self.invariant.1, weights)

pub returns-clause-chunks : goal.returns-clause-chunks
returns-clause-chunks c =
    let lt : c.args.i < length (bodies c.self.inside.list.items) = let n = ap (λ v. length v.chunks) c.self.view_is in omega arith in
    body.bodies_kept c.self.inside.list.items c.args.i c.index_mut.result.now c.grow.new.self lt c.index_mut.ensures.value
    c.grow.ensures.cells
    ∙ ap (λ v. v.chunks) c.self.view_is

pub returns-clause-cells : goal.returns-clause-cells
returns-clause-cells c =
    let lt : c.args.i < length (bodies c.self.inside.list.items) = let n = ap (λ v. length v.chunks) c.self.view_is in omega arith in
    ap (λ ds. flat ds) (body.bodies_kept c.self.inside.list.items c.args.i c.index_mut.result.now c.grow.new.self lt
    c.index_mut.ensures.value c.grow.ensures.cells)
    ∙ ap (λ v. v.cells) c.self.view_is

pub returns-clause-text : goal.returns-clause-text
returns-clause-text c =
    let lt : c.args.i < length (bodies c.self.inside.list.items) = let n = ap (λ v. length v.chunks) c.self.view_is in omega arith in
    ap (λ ts. joined ts) (body.texts_kept c.self.inside.list.items c.args.i c.index_mut.result.now c.grow.new.self lt
    c.index_mut.ensures.value c.grow.ensures.text)
    ∙ ap (λ v. v.text) c.self.view_is

pub returns-clause-room : goal.returns-clause-room
returns-clause-room c =
    let lt : c.args.i < length (bodies c.self.inside.list.items) = let n = ap (λ v. length v.chunks) c.self.view_is in omega arith in
    let now = body.room_set c.self.inside.list.items c.args.i c.grow.new.self lt in
    on_ok_weaker c.grow.result (λ (most : c.args.room ≤ c.grow.new.self.room). omega (arith, most, now)) c.grow.ensures.room

pub returns-clause-gaps : goal.returns-clause-gaps
returns-clause-gaps c =
    let lt : c.args.i < length (bodies c.self.inside.list.items) = let n = ap (λ v. length v.chunks) c.self.view_is in omega arith in
    let now = body.gap_set c.self.inside.list.items c.args.i c.grow.new.self lt in
    on_ok_weaker c.grow.result (λ (more : GAPS ≤ c.grow.new.self.gaps). omega (arith, more, now)) c.grow.ensures.gaps
