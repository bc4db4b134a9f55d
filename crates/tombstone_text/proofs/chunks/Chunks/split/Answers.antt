use Rattle.std.proofs.Common.{ℕ, ◌+◌, ◌<◌, List, [], length, get_or, sym, ap, subst, ◌∙◌, arith}
use Rattle.std.specs.List.{sum}
use Rattle.ttf_form.specs.Cells.{CellData}
use Rattle.tombstone_text.specs.Chunks.{flat, joined}
use Rattle.tombstone_text.specs.Code.Cells.{cut}
use Rattle.tombstone_text.specs.Code.Chunks.{bodies, texts_of}
use Rattle.tombstone_text.proofs.Beside as beside
use Rattle.tombstone_text.proofs.Bodies as body
use Rattle.tombstone_text.proofs.Chunked as chunked
use Rattle.tombstone_text.proofs.Texts as texts
use Rattle.tombstone_text.proofs.Weighing as weigh
use Rattle.tombstone_text.proofs.Measuring.{shown-le}
use Rattle.std.proofs.lemmas.List.{length-take, length-drop, length-set}
use Rattle.tombstone_text.specs.Code.Weights.{AreWeights, weighed, column_of}
use Rattle.tombstone_text.proofs.chunks.Chunks.split.Goals as goal

pub set-requires-clause-low : goal.set-requires-clause-low
set-requires-clause-low c =
    let lt : c.args.i < length (bodies c.self.inside.list.items) = let n = ap (λ v. length v.chunks) c.self.view_is in omega arith in
    let parts =
    texts.cut_seen {n = c.args.i + 1} (ap (λ v. v.chunks) c.self.view_is) c.self.invariant.0 c.requires.chunk (omega arith) c.requires.some
    c.requires.less
    (body.body_there _ _ _ lt c.index_mut-lower.ensures.value) c.split.ensures.lower c.split.ensures.upper c.part-len.ensures
    c.shown-low.ensures c.shown-high.ensures in
    let seen = ap (λ v. length v.cells) c.self.view_is in
    let bound = c.requires.bound in
    omega (arith, parts.lens)

pub insert-requires-clause-low : goal.insert-requires-clause-low
insert-requires-clause-low c =
    let lt : c.args.i < length (bodies c.self.inside.list.items) = let n = ap (λ v. length v.chunks) c.self.view_is in omega arith in
    let parts =
    texts.cut_seen {n = c.args.i + 1} (ap (λ v. v.chunks) c.self.view_is) c.self.invariant.0 c.requires.chunk (omega arith) c.requires.some
    c.requires.less
    (body.body_there _ _ _ lt c.index_mut-lower.ensures.value) c.split.ensures.lower c.split.ensures.upper c.part-len.ensures
    c.shown-low.ensures c.shown-high.ensures in
    let seen = ap (λ v. length v.cells) c.self.view_is in
    let bound = c.requires.bound in
    let now = ap sum c.set.ensures.parts in
    omega (arith, parts.lens)

pub set-requires-in-Some-clause-low : goal.set-requires-in-Some-clause-low
set-requires-in-Some-clause-low c =
    let lt : c.args.i < length (bodies c.self.inside.list.items) = let n = ap (λ v. length v.chunks) c.self.view_is in omega arith in
    let parts =
    texts.cut_seen {n = c.args.i + 1} (ap (λ v. v.chunks) c.self.view_is) c.self.invariant.0 c.requires.chunk (omega arith) c.requires.some
    c.requires.less
    (body.body_there _ _ _ lt c.index_mut-lower.ensures.value) c.split.ensures.lower c.split.ensures.upper c.part-len.ensures
    c.shown-low.ensures c.shown-high.ensures in
    let seen = ap (λ v. length v.cells) c.self.view_is in
    let bound = c.requires.bound in
    omega (arith, parts.shown)

pub insert-requires-in-Some-clause-low : goal.insert-requires-in-Some-clause-low
insert-requires-in-Some-clause-low c =
    let lt : c.args.i < length (bodies c.self.inside.list.items) = let n = ap (λ v. length v.chunks) c.self.view_is in omega arith in
    let parts =
    texts.cut_seen {n = c.args.i + 1} (ap (λ v. v.chunks) c.self.view_is) c.self.invariant.0 c.requires.chunk (omega arith) c.requires.some
    c.requires.less
    (body.body_there _ _ _ lt c.index_mut-lower.ensures.value) c.split.ensures.lower c.split.ensures.upper c.part-len.ensures
    c.shown-low.ensures c.shown-high.ensures in
    let seen = ap (λ v. length v.cells) c.self.view_is in
    let bound = c.requires.bound in
    let now = ap sum c.set-in-Some.ensures.parts in
    omega (arith, parts.shown)

pub invariant_of-self : goal.invariant_of-self
invariant_of-self c =
    let lt : c.args.i < length (bodies c.self.inside.list.items) = let n = ap (λ v. length v.chunks) c.self.view_is in omega arith in
    let parts =
    texts.cut_seen {n = c.args.i + 1} (ap (λ v. v.chunks) c.self.view_is) c.self.invariant.0 c.requires.chunk (omega arith) c.requires.some
    c.requires.less
    (body.body_there _ _ _ lt c.index_mut-lower.ensures.value) c.split.ensures.lower c.split.ensures.upper c.part-len.ensures
    c.shown-low.ensures c.shown-high.ensures in
    let read = body.body_read _ _ _ lt c.index_mut-lower.ensures.value in
    let long = ap (λ (s : List CellData). length s) read in
    let was = ap (λ v. length (get_or v.chunks c.args.i [])) c.self.view_is in
    let two =
    beside.parts_long _ _ _ _ _ _ _ _ _ _ _ _ c.self.invariant.0 lt read (omega (arith, c.requires.less, was, long))
    c.split.ensures.lower c.split.ensures.upper c.part-len.ensures c.split.ensures.lower_long c.split.ensures.upper_long in
    let texts = beside.beside_cut _ _ c.args.i (c.args.i + 1) _ _ _ _ c.self.invariant.1 two.0 two.1 in (
      rw (
        ap (λ ds. bodies ds) c.in-Ok.ensures.items
            ∙ body.bodies_cut _ _ _ _ _ _ parts.chunks,
        c.insert.ensures.parts,
        c.set.ensures.parts,
        c.insert-in-Some.ensures.parts,
        c.set-in-Some.ensures.parts,
        c.take.ensures.after,
      ) parts.text,
      rw (
        ap (λ ds. texts_of ds) c.in-Ok.ensures.items ∙ body.texts_two _ _ _ _ _,
        c.insert.ensures.parts,
        c.set.ensures.parts,
      ) texts,
      subst (λ ds. AreWeights (column_of c.add.new.self) ds) (sym c.in-Ok.ensures.items)
          (weigh.weights_two (column_of c.self.inside.weights) (column_of c.change.new.self) (column_of c.add.new.self)
          c.self.inside.list.items c.args.i
          (c.args.i + 1) _ _ (weighed c.weight-lower_weight.result) (weighed c.weight-upper_weight.result) c.self.invariant.2
          c.change.ensures.parts c.add.ensures.parts c.weight-lower_weight.ensures c.weight-upper_weight.ensures),
    )

pub returns-clause-chunks : goal.returns-clause-chunks
returns-clause-chunks c =
    let lt : c.args.i < length (bodies c.self.inside.list.items) = let n = ap (λ v. length v.chunks) c.self.view_is in omega arith in
    let parts =
    texts.cut_seen {n = c.args.i + 1} (ap (λ v. v.chunks) c.self.view_is) c.self.invariant.0 c.requires.chunk (omega arith) c.requires.some
    c.requires.less
    (body.body_there _ _ _ lt c.index_mut-lower.ensures.value) c.split.ensures.lower c.split.ensures.upper c.part-len.ensures
    c.shown-low.ensures c.shown-high.ensures in
    ap (λ ds. bodies ds) c.in-Ok.ensures.items ∙ body.bodies_cut _ _ _ _ _ _ parts.chunks
    ∙ ap (λ v. cut v.chunks c.args.i c.args.keep) c.self.view_is

pub returns-clause-cells : goal.returns-clause-cells
returns-clause-cells c =
    let lt : c.args.i < length (bodies c.self.inside.list.items) = let n = ap (λ v. length v.chunks) c.self.view_is in omega arith in
    let parts =
    texts.cut_seen {n = c.args.i + 1} (ap (λ v. v.chunks) c.self.view_is) c.self.invariant.0 c.requires.chunk (omega arith) c.requires.some
    c.requires.less
    (body.body_there _ _ _ lt c.index_mut-lower.ensures.value) c.split.ensures.lower c.split.ensures.upper c.part-len.ensures
    c.shown-low.ensures c.shown-high.ensures in
    ap (λ ds. flat ds) (ap (λ ds. bodies ds) c.in-Ok.ensures.items ∙ body.bodies_cut _ _ _ _ _ _ parts.chunks)
    ∙ chunked.all_cut (bodies c.self.inside.list.items) c.args.i c.args.keep ∙ ap (λ v. v.cells) c.self.view_is

pub returns-clause-text : goal.returns-clause-text
returns-clause-text c =
    let lt : c.args.i < length (bodies c.self.inside.list.items) = let n = ap (λ v. length v.chunks) c.self.view_is in omega arith in
    ap (λ ds. joined ds) (ap (λ ds. texts_of ds) c.in-Ok.ensures.items ∙ body.texts_two _ _ _ _ _)
    ∙ beside.joined_cut _ _ _ _ _ c.args.i (c.args.i + 1) c.args.keep _ _ _ c.self.invariant.0 c.self.invariant.1 lt (omega arith)
    (body.text_read _ _ _ lt c.index_mut-lower.ensures.value) c.split.ensures.lower_text c.split.ensures.upper_text
    ∙ ap (λ v. v.text) c.self.view_is

pub split-requires-clause-gaps : goal.split-requires-clause-gaps
split-requires-clause-gaps c =
    let lt : c.args.i < length (bodies c.self.inside.list.items) = let n = ap (λ v. length v.chunks) c.self.view_is in omega arith in
    let gaps = ap (λ v. get_or v.gaps c.args.i 0) c.self.view_is in
    omega (
      arith,
      gaps,
      c.requires.gaps,
      body.gap_read c.self.inside.list.items c.args.i c.index_mut-lower.result.now lt
          c.index_mut-lower.ensures.value,
    )

pub change-requires-clause-within : goal.change-requires-clause-within
change-requires-clause-within c m =
    let lt : c.args.i < length (bodies c.self.inside.list.items) = let n = ap (λ v. length v.chunks) c.self.view_is in omega arith in
    omega (arith, lt, weigh.weights_long (column_of c.self.inside.weights) c.self.inside.list.items c.self.invariant.2 m)

pub change-requires-clause-low : goal.change-requires-clause-low
change-requires-clause-low c m =
    let lt : c.args.i < length (bodies c.self.inside.list.items) = let n = ap (λ v. length v.chunks) c.self.view_is in omega arith in
    let ps = (column_of c.self.inside.weights) in
    let cs = c.self.inside.list.items in
    let x = c.index_mut-lower.result.now in
    let seen = ap (λ v. length v.cells) c.self.view_is in
    let low = ap (λ (s : List CellData). length s) c.split.ensures.lower in
    let high = ap (λ (s : List CellData). length s) c.split.ensures.upper in
    omega (
      arith,
      seen,
      low,
      c.requires.bound,
      length-take c.args.keep x.cells,
      c.weight-lower_weight.ensures m,
      shown-le m c.split.new.self.cells c.split.new.self.text,
      weigh.chunk-le cs c.args.i x lt c.index_mut-lower.ensures.value,
      weigh.set-low ps cs c.args.i (weighed c.weight-lower_weight.result m) c.self.invariant.2 lt m,
    )

pub add-requires-clause-within : goal.add-requires-clause-within
add-requires-clause-within c m =
    let lt : c.args.i < length (bodies c.self.inside.list.items) = let n = ap (λ v. length v.chunks) c.self.view_is in omega arith in
    let ps = (column_of c.self.inside.weights) in
    let w = weighed c.weight-lower_weight.result m in
    let same = ap (λ (ns : List ℕ). length ns) (c.change.ensures.parts m) ∙ length-set (ps m) c.args.i w in
    omega (arith, lt, same, weigh.weights_long ps c.self.inside.list.items c.self.invariant.2 m)

pub add-requires-clause-low : goal.add-requires-clause-low
add-requires-clause-low c m =
    let lt : c.args.i < length (bodies c.self.inside.list.items) = let n = ap (λ v. length v.chunks) c.self.view_is in omega arith in
    let ps = (column_of c.self.inside.weights) in
    let cs = c.self.inside.list.items in
    let x = c.index_mut-lower.result.now in
    let seen = ap (λ v. length v.cells) c.self.view_is in
    let low = ap (λ (s : List CellData). length s) c.split.ensures.lower in
    let high = ap (λ (s : List CellData). length s) c.split.ensures.upper in
    omega (
      arith,
      seen,
      low,
      high,
      c.requires.bound,
      length-take c.args.keep x.cells,
      length-drop c.args.keep x.cells,
      ap sum (c.change.ensures.parts m),
      c.weight-lower_weight.ensures m,
      c.weight-upper_weight.ensures m,
      shown-le m c.split.new.self.cells c.split.new.self.text,
      shown-le m c.split.new.upper.cells c.split.new.upper.text,
      weigh.chunk-le cs c.args.i x lt c.index_mut-lower.ensures.value,
      weigh.set-low ps cs c.args.i (weighed c.weight-lower_weight.result m) c.self.invariant.2 lt m,
    )
