use Rattle.std.proofs.Common.{◌≡◌, List, [], length, set, get_or, slice_get, sym, ap, ◌∙◌, subst, arith}
use Rattle.std.specs.Prelude.{IfSome}
use Rattle.ttf_form.specs.Cells.{CellData, change_at, marked}
use Rattle.tombstone_text.specs.Cells.{HasRoomOn}
use Rattle.tombstone_text.specs.Chunks.{flat, joined}
use Rattle.tombstone_text.specs.Code.Chunks.{blank, bodies}
use Rattle.tombstone_text.specs.Code.Spans.{IsSpot}
use Rattle.tombstone_text.proofs.Bodies as body
use Rattle.tombstone_text.proofs.Chunked as chunked
use Rattle.tombstone_text.proofs.Texts as texts
use Rattle.tombstone_text.proofs.Weighing as weigh
use Rattle.tombstone_text.proofs.Measuring.{counted-le, weight-le}
use Rattle.tombstone_text.specs.Measures.{weight}
use Rattle.tombstone_text.specs.Code.Weights.{weighed, column_of}
use Rattle.tombstone_text.proofs.chunks.Chunks.mark.Goals as goal

pub find-i-requires : goal.find-i-requires
find-i-requires c =
    let all = chunked.text-len _ _ _ _ c.self.invariant.0 in
    let seen = ap (λ v. length v.cells) c.self.view_is in
    omega arith

pub cover-requires-clause-room : goal.cover-requires-clause-room
cover-requires-clause-room c =
    let cs = (bodies c.self.inside.list.items) in
    let i = c.find-i.result.0 in
    let o = c.find-i.result.1 in
    let p = c.args.cover.now.place in
    let spot = texts.text-spot _ _ _ _ _ _ _ c.self.invariant.0 c.find-i.ensures in
    let read : c.index_mut-chunk.result.now.cells ≡ get_or cs i [] =
    body.body_read c.self.inside.list.items i c.index_mut-chunk.result.now spot.chunk c.index_mut-chunk.ensures.value in
    let there =
    ap (λ v. slice_get v.cells p) (sym c.self.view_is) ∙ chunked.flat_get cs i o p spot
    ∙ chunked.some_at (get_or cs i []) o blank spot.within in
    let room : HasRoomOn c.args.cover.now.mark (get_or (get_or cs i []) o blank) c.args.spare.now =
    subst (λ q. IfSome q (λ d. HasRoomOn c.args.cover.now.mark d c.args.spare.now)) there c.requires.room in
    subst (λ s. HasRoomOn c.args.cover.now.mark (get_or s o blank) c.args.spare.now) (sym read) room

pub flag_at-before-requires : goal.flag_at-before-requires
flag_at-before-requires c =
    let spot = texts.text-spot _ _ _ _ _ _ _ c.self.invariant.0 c.find-i.ensures in
    let within = spot.within in
    let read =
    body.body_read c.self.inside.list.items c.find-i.result.0 c.index_mut-chunk.result.now spot.chunk c.index_mut-chunk.ensures.value in
    let long = ap (λ (s : List CellData). length s) read in
    omega arith

pub cover-requires-clause-within : goal.cover-requires-clause-within
cover-requires-clause-within c =
    let spot = texts.text-spot _ _ _ _ _ _ _ c.self.invariant.0 c.find-i.ensures in
    let within = spot.within in
    let read =
    body.body_read c.self.inside.list.items c.find-i.result.0 c.index_mut-chunk.result.now spot.chunk c.index_mut-chunk.ensures.value in
    let long = ap (λ (s : List CellData). length s) read in
    omega arith

pub flag_at-after-requires : goal.flag_at-after-requires
flag_at-after-requires c =
    let spot = texts.text-spot _ _ _ _ _ _ _ c.self.invariant.0 c.find-i.ensures in
    let within = spot.within in
    let read =
    body.body_read c.self.inside.list.items c.find-i.result.0 c.index_mut-chunk.result.now spot.chunk c.index_mut-chunk.ensures.value in
    let new = c.cover.ensures.cells ∙ ap (λ (s : List CellData). change_at c.find-i.result.1 (marked c.args.cover.now.mark) s) read in
    let long =
    ap (λ (s : List CellData). length s) new
    ∙ chunked.length-change (marked c.args.cover.now.mark) (get_or (bodies c.self.inside.list.items) c.find-i.result.0 [])
    c.find-i.result.1 in
    omega arith

pub overflow_sub-shown : goal.overflow_sub-shown
overflow_sub-shown c =
    let spot = texts.text-spot _ _ _ _ _ _ _ c.self.invariant.0 c.find-i.ensures in
    let changed =
    texts.changed_text (marked c.args.cover.now.mark) _ _ _ _ _ _ _ _ _ _ _ blank c.self.invariant.0 spot.chunk spot.within
    (body.body_there _ _ _ spot.chunk c.index_mut-chunk.ensures.value)
    c.cover.ensures.cells c.part-shown.ensures c.flag_at-before.ensures c.flag_at-after.ensures in
    changed.low

pub overflow_add-shown : goal.overflow_add-shown
overflow_add-shown c =
    let spot = texts.text-spot _ _ _ _ _ _ _ c.self.invariant.0 c.find-i.ensures in
    let changed =
    texts.changed_text (marked c.args.cover.now.mark) _ _ _ _ _ _ _ _ _ _ _ blank c.self.invariant.0 spot.chunk spot.within
    (body.body_there _ _ _ spot.chunk c.index_mut-chunk.ensures.value)
    c.cover.ensures.cells c.part-shown.ensures c.flag_at-before.ensures c.flag_at-after.ensures in
    let all = chunked.text-len _ _ _ _ c.self.invariant.0 in
    let low = c.total.ensures.low in
    record { fits = omega (arith, changed.shown) }

pub set-requires-clause-low : goal.set-requires-clause-low
set-requires-clause-low c =
    let spot = texts.text-spot _ _ _ _ _ _ _ c.self.invariant.0 c.find-i.ensures in
    let changed =
    texts.changed_text (marked c.args.cover.now.mark) _ _ _ _ _ _ _ _ _ _ _ blank c.self.invariant.0 spot.chunk spot.within
    (body.body_there _ _ _ spot.chunk c.index_mut-chunk.ensures.value)
    c.cover.ensures.cells c.part-shown.ensures c.flag_at-before.ensures c.flag_at-after.ensures in
    let all = chunked.text-len _ _ _ _ c.self.invariant.0 in
    let low = c.total.ensures.low in
    omega (arith, changed.all)

pub invariant_of-self : goal.invariant_of-self
invariant_of-self c =
    let spot = texts.text-spot _ _ _ _ _ _ _ c.self.invariant.0 c.find-i.ensures in
    let changed =
    texts.changed_text (marked c.args.cover.now.mark) _ _ _ _ _ _ _ _ _ _ _ blank c.self.invariant.0 spot.chunk spot.within
    (body.body_there _ _ _ spot.chunk c.index_mut-chunk.ensures.value)
    c.cover.ensures.cells c.part-shown.ensures c.flag_at-before.ensures c.flag_at-after.ensures in
    let texts =
    body.texts_kept c.self.inside.list.items c.find-i.result.0 c.index_mut-chunk.result.now c.cover.new.self spot.chunk
    c.index_mut-chunk.ensures.value c.cover.ensures.text in
    let read =
    body.body_read c.self.inside.list.items c.find-i.result.0 c.index_mut-chunk.result.now spot.chunk c.index_mut-chunk.ensures.value in
    let long = ap (λ (s : List CellData). length s) read in
    let matched =
    weigh.text_beside _ _ _ _ c.find-i.result.0 c.index_mut-chunk.result.now c.self.invariant.0 c.self.invariant.1 spot.chunk
    c.index_mut-chunk.ensures.value in
    let was =
    weigh.weight_read (column_of c.self.inside.weights) c.self.inside.list.items c.find-i.result.0 c.index_mut-chunk.result.now
    c.self.invariant.2 spot.chunk c.index_mut-chunk.ensures.value in (
      rw (c.set.ensures.parts, body.bodies_set c.self.inside.list.items c.find-i.result.0 c.cover.new.self) changed.text,
      rw texts c.self.invariant.1,
      weigh.weights_set (column_of c.self.inside.weights) (column_of c.change.new.self) c.self.inside.list.items c.find-i.result.0
          c.cover.new.self
          (weighed c.turned-weight.result) c.self.invariant.2 c.change.ensures.parts
          (weigh.weight_marked (marked c.args.cover.now.mark) c.find-i.result.1 c.flag_at-before.result c.flag_at-after.result
          c.index_mut-chunk.result.now c.cover.new.self blank (weighed c.of-one.result) (weighed c.at-had.result)
          (weighed c.turned-weight.result) (omega (arith, spot.within, long)) matched c.cover.ensures.cells c.cover.ensures.text
          c.flag_at-before.ensures c.flag_at-after.ensures
          (λ m. c.of-one.ensures m ∙ ap (weight m) c.char_at.ensures) (λ m. c.at-had.ensures m ∙ was m) c.turned-weight.ensures),
    )

pub returns-clause-cells : goal.returns-clause-cells
returns-clause-cells c =
    let spot = texts.text-spot _ _ _ _ _ _ _ c.self.invariant.0 c.find-i.ensures in
    let changed =
    texts.changed_text (marked c.args.cover.now.mark) _ _ _ _ _ _ _ _ _ _ _ blank c.self.invariant.0 spot.chunk spot.within
    (body.body_there _ _ _ spot.chunk c.index_mut-chunk.ensures.value)
    c.cover.ensures.cells c.part-shown.ensures c.flag_at-before.ensures c.flag_at-after.ensures in
    ap (λ ds. flat ds) (body.bodies_set c.self.inside.list.items c.find-i.result.0 c.cover.new.self)
    ∙ ap (λ d. flat (set (bodies c.self.inside.list.items) c.find-i.result.0 d)) changed.chunk
    ∙ chunked.flat_change (marked c.args.cover.now.mark) (bodies c.self.inside.list.items) c.find-i.result.0 c.find-i.result.1
    c.args.cover.now.place spot
    ∙ ap (λ v. change_at c.args.cover.now.place (marked c.args.cover.now.mark) v.cells) c.self.view_is

pub returns-clause-text : goal.returns-clause-text
returns-clause-text c =
    let spot = texts.text-spot _ _ _ _ _ _ _ c.self.invariant.0 c.find-i.ensures in
    ap (λ ts. joined ts) (body.texts_kept c.self.inside.list.items c.find-i.result.0 c.index_mut-chunk.result.now c.cover.new.self
    spot.chunk c.index_mut-chunk.ensures.value c.cover.ensures.text)
    ∙ ap (λ v. v.text) c.self.view_is

pub cover-requires-clause-gaps : goal.cover-requires-clause-gaps
cover-requires-clause-gaps c =
    let i = c.find-i.result.0 in
    let o = c.find-i.result.1 in
    let p = c.args.cover.now.place in
    let spot = texts.text-spot _ _ _ _ _ _ _ c.self.invariant.0 c.find-i.ensures in
    let seen = subst (λ ds. IsSpot ds i o p) (ap (λ v. v.chunks) c.self.view_is) spot in
    let room = c.requires.gaps i o seen in
    let gaps = ap (λ v. get_or v.gaps i 0) c.self.view_is in
    omega (
      arith,
      room,
      gaps,
      body.gap_read c.self.inside.list.items i c.index_mut-chunk.result.now spot.chunk
          c.index_mut-chunk.ensures.value,
    )

pub char_at-requires : goal.char_at-requires
char_at-requires c =
    let spot = texts.text-spot _ _ _ _ _ _ _ c.self.invariant.0 c.find-i.ensures in
    let within = spot.within in
    let read =
    body.body_read c.self.inside.list.items c.find-i.result.0 c.index_mut-chunk.result.now spot.chunk c.index_mut-chunk.ensures.value in
    let new = c.cover.ensures.cells ∙ ap (λ (s : List CellData). change_at c.find-i.result.1 (marked c.args.cover.now.mark) s) read in
    let long =
    ap (λ (s : List CellData). length s) new
    ∙ chunked.length-change (marked c.args.cover.now.mark) (get_or (bodies c.self.inside.list.items) c.find-i.result.0 [])
    c.find-i.result.1 in
    omega arith

pub at-had-requires : goal.at-had-requires
at-had-requires c m =
    let spot = texts.text-spot _ _ _ _ _ _ _ c.self.invariant.0 c.find-i.ensures in
    omega (arith, spot.chunk, weigh.weights_long (column_of c.self.inside.weights) c.self.inside.list.items c.self.invariant.2 m)

pub turned-weight-requires-clause-least : goal.turned-weight-requires-clause-least
turned-weight-requires-clause-least c m =
    let spot = texts.text-spot _ _ _ _ _ _ _ c.self.invariant.0 c.find-i.ensures in
    let x = c.index_mut-chunk.result.now in
    let i = c.find-i.result.0 in
    let read = body.body_read c.self.inside.list.items i x spot.chunk c.index_mut-chunk.ensures.value in
    let long = ap (λ (s : List CellData). length s) read in
    let matched = weigh.text_beside _ _ _ _ i x c.self.invariant.0 c.self.invariant.1 spot.chunk c.index_mut-chunk.ensures.value in
    let was =
    weigh.weight_read (column_of c.self.inside.weights) c.self.inside.list.items i x c.self.invariant.2 spot.chunk
    c.index_mut-chunk.ensures.value in
    weigh.weight_part c.find-i.result.1 c.flag_at-before.result x c.cover.new.self blank (weighed c.of-one.result) (weighed c.at-had.result)
    (omega (arith, spot.within, long)) matched c.cover.ensures.text c.flag_at-before.ensures
    (λ k. c.of-one.ensures k ∙ ap (weight k) c.char_at.ensures) (λ k. c.at-had.ensures k ∙ was k) m

pub turned-weight-requires-clause-most : goal.turned-weight-requires-clause-most
turned-weight-requires-clause-most c m =
    let spot = texts.text-spot _ _ _ _ _ _ _ c.self.invariant.0 c.find-i.ensures in
    let ps = (column_of c.self.inside.weights) in
    let cs = c.self.inside.list.items in
    let i = c.find-i.result.0 in
    let all = chunked.text-len _ _ _ _ c.self.invariant.0 in
    omega (
      arith,
      all,
      c.total.ensures.low,
      c.at-had.ensures m,
      c.of-one.ensures m,
      weight-le m c.char_at.result,
      weigh.weight-low ps cs i c.self.invariant.2 spot.chunk m,
    )

pub change-requires-clause-within : goal.change-requires-clause-within
change-requires-clause-within c m =
    let spot = texts.text-spot _ _ _ _ _ _ _ c.self.invariant.0 c.find-i.ensures in
    omega (arith, spot.chunk, weigh.weights_long (column_of c.self.inside.weights) c.self.inside.list.items c.self.invariant.2 m)

pub change-requires-clause-low : goal.change-requires-clause-low
change-requires-clause-low c m =
    let spot = texts.text-spot _ _ _ _ _ _ _ c.self.invariant.0 c.find-i.ensures in
    let ps = (column_of c.self.inside.weights) in
    let cs = c.self.inside.list.items in
    let i = c.find-i.result.0 in
    let all = chunked.text-len _ _ _ _ c.self.invariant.0 in
    omega (
      arith,
      all,
      c.total.ensures.low,
      c.at-had.ensures m,
      c.of-one.ensures m,
      c.turned-weight.ensures m,
      counted-le c.flag_at-after.result (weighed c.of-one.result m),
      weight-le m c.char_at.result,
      weigh.weight-low ps cs i c.self.invariant.2 spot.chunk m,
      weigh.set-low ps cs i (weighed c.turned-weight.result m) c.self.invariant.2 spot.chunk m,
    )
