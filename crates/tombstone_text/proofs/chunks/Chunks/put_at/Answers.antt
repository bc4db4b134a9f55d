use Rattle.std.proofs.Common.{◌≡◌, ℕ, ◌+◌, ◌<◌, ◌≤◌, List, [], length, set, get_or, sym, ap, ◌∙◌, subst, arith}
use Rattle.ttf_form.specs.Cells.{CellData, bare_cells, cell_shown, put_in}
use Rattle.ttf_form.specs.Laws.Cells.{length-bare}
use Rattle.tombstone_text.specs.Chunks.{flat, joined}
use Rattle.tombstone_text.specs.Code.Cells.{IsSeat}
use Rattle.tombstone_text.specs.Code.Chunks.{bodies, texts_of}
use Rattle.tombstone_text.proofs.Runs.{shown_bare}
use Rattle.tombstone_text.proofs.Shown.{length-filter-le}
use Rattle.tombstone_text.proofs.Beside as beside
use Rattle.tombstone_text.proofs.Bodies as body
use Rattle.tombstone_text.proofs.Chunked as chunked
use Rattle.tombstone_text.proofs.Texts as texts
use Rattle.tombstone_text.proofs.Weighing as weigh
use Rattle.tombstone_text.proofs.Measuring.{weight_of-le}
use Rattle.tombstone_text.specs.declared.measure.Measure.TheVariants.{Bytes, Units, Lines}
use Rattle.tombstone_text.specs.Code.Weights.{weighed, column_of}
use Rattle.tombstone_text.proofs.chunks.Chunks.put_at.Goals as goal

pub set-requires-clause-low : goal.set-requires-clause-low
set-requires-clause-low c =
    let ls = c.self.inside.lens.parts in
    let long = (texts.lens_long _ _ _ _ c.self.invariant.0).0 in
    let n = ap (λ v. length v.chunks) c.self.view_is in
    let all = chunked.text-len _ _ _ _ c.self.invariant.0 in
    let seen = ap (λ v. length v.cells) c.self.view_is in
    let more = texts.set-sum ls c.args.i (c.part-len.result + c.args.ins.now.len) (omega arith) in
    let part = c.part-len.ensures in
    omega arith

pub overflow_add-len : goal.overflow_add-len
overflow_add-len c =
    let lt : c.args.i < length (bodies c.self.inside.list.items) = let n = ap (λ v. length v.chunks) c.self.view_is in omega arith in
    let long = (texts.lens_long _ _ _ _ c.self.invariant.0).0 in
    let all = chunked.text-len _ _ _ _ c.self.invariant.0 in
    let seen = ap (λ v. length v.cells) c.self.view_is in
    let one = texts.part-le c.self.inside.lens.parts c.args.i (omega arith) in
    let part = c.part-len.ensures in
    record { fits = omega arith }

pub overflow_add-shown : goal.overflow_add-shown
overflow_add-shown c =
    let lt : c.args.i < length (bodies c.self.inside.list.items) = let n = ap (λ v. length v.chunks) c.self.view_is in omega arith in
    let long = (texts.lens_long _ _ _ _ c.self.invariant.0).1 in
    let all = chunked.text-shown _ _ _ _ c.self.invariant.0 in
    let most = length-filter-le cell_shown (flat (bodies c.self.inside.list.items)) in
    let seen = ap (λ v. length v.cells) c.self.view_is in
    let one = texts.part-le c.self.inside.shown.parts c.args.i (omega arith) in
    let part = c.part-shown.ensures in
    record { fits = omega arith }

pub set-requires-2-clause-low : goal.set-requires-2-clause-low
set-requires-2-clause-low c =
    let ss = c.self.inside.shown.parts in
    let long = (texts.lens_long _ _ _ _ c.self.invariant.0).1 in
    let n = ap (λ v. length v.chunks) c.self.view_is in
    let all = chunked.text-shown _ _ _ _ c.self.invariant.0 in
    let most = length-filter-le cell_shown (flat (bodies c.self.inside.list.items)) in
    let seen = ap (λ v. length v.cells) c.self.view_is in
    let more = texts.set-sum ss c.args.i (c.part-shown.result + c.args.ins.now.len) (omega arith) in
    let part = c.part-shown.ensures in
    omega arith

pub invariant_of-self : goal.invariant_of-self
invariant_of-self c =
    let cs = (bodies c.self.inside.list.items) in
    let a = c.args.ins.now in
    let lt : c.args.i < length cs = let n = ap (λ v. length v.chunks) c.self.view_is in omega arith in
    let read : c.index_mut-chunk.result.now.cells ≡ get_or cs c.args.i [] =
    body.body_read c.self.inside.list.items c.args.i c.index_mut-chunk.result.now lt c.index_mut-chunk.ensures.value in
    let within : c.args.at ≤ length (get_or cs c.args.i []) =
    let e = ap (λ v. length (get_or v.chunks c.args.i [])) c.self.view_is in omega arith in
    let new : c.put_all.new.self.cells ≡ put_in c.args.at (bare_cells a) (get_or cs c.args.i []) =
    c.put_all.ensures.cells ∙ ap (λ (s : List CellData). put_in c.args.at (bare_cells a) s) read in
    let text =
    texts.text_put _ _ _ _ c.args.i c.args.at a.len (bare_cells a) c.put_all.new.self.cells (c.part-len.result + a.len)
    (c.part-shown.result + a.len) c.self.invariant.0 lt within new (length-bare a) (shown_bare a.name a.len 0 a.len)
    (ap (λ n. n + a.len) c.part-len.ensures) (ap (λ n. n + a.len) c.part-shown.ensures) in
    let texts =
    beside.beside_put _ _ _ _ _ c.args.i c.args.at c.part-len.result a.len (bare_cells a) c.put_all.new.self.cells c.put_all.new.self.text
    c.self.invariant.0 c.self.invariant.1 lt within new (length-bare a) c.part-len.ensures c.put_all.ensures.long in
    let x = c.index_mut-chunk.result.now in
    let matched = weigh.text_beside _ _ _ _ c.args.i x c.self.invariant.0 c.self.invariant.1 lt c.index_mut-chunk.ensures.value in
    let was =
    weigh.weight_read (column_of c.self.inside.weights) c.self.inside.list.items c.args.i x c.self.invariant.2 lt
    c.index_mut-chunk.ensures.value in
    let more =
    weigh.weight_put a c.args.at x c.put_all.new.self c.args.text.now matched c.requires.text c.put_all.ensures.cells
    c.put_all.ensures.text in
    let weights =
    weigh.weights_set (column_of c.self.inside.weights) (column_of c.change.new.self) c.self.inside.list.items c.args.i c.put_all.new.self
    (weighed c.plus-weight.result) c.self.invariant.2 c.change.ensures.parts
    (λ m. omega (arith, c.plus-weight.ensures m, c.at-had.ensures m, c.weigh-more.ensures m, was m, more m)) in (
      rw (c.set.ensures.parts, c.set-2.ensures.parts, body.bodies_set c.self.inside.list.items c.args.i c.put_all.new.self) text,
      rw (c.set.ensures.parts, body.texts_set c.self.inside.list.items c.args.i c.put_all.new.self) texts,
      weights,
    )

pub returns-clause-cells : goal.returns-clause-cells
returns-clause-cells c p s =
    let cs = (bodies c.self.inside.list.items) in
    let a = c.args.ins.now in
    let lt : c.args.i < length cs = let n = ap (λ v. length v.chunks) c.self.view_is in omega arith in
    let read : c.index_mut-chunk.result.now.cells ≡ get_or cs c.args.i [] =
    body.body_read c.self.inside.list.items c.args.i c.index_mut-chunk.result.now lt c.index_mut-chunk.ensures.value in
    let new : c.put_all.new.self.cells ≡ put_in c.args.at (bare_cells a) (get_or cs c.args.i []) =
    c.put_all.ensures.cells ∙ ap (λ (s : List CellData). put_in c.args.at (bare_cells a) s) read in
    let seat : IsSeat cs c.args.i c.args.at p = subst (λ ds. IsSeat ds c.args.i c.args.at p) (sym (ap (λ v. v.chunks) c.self.view_is)) s in
    ap (λ ds. flat ds) (body.bodies_set c.self.inside.list.items c.args.i c.put_all.new.self)
    ∙ ap (λ d. flat (set cs c.args.i d)) new
    ∙ chunked.flat_put cs c.args.i c.args.at p (bare_cells a) seat
    ∙ ap (λ v. put_in p (bare_cells a) v.cells) c.self.view_is

pub returns-clause-text : goal.returns-clause-text
returns-clause-text c p s =
    let cs = (bodies c.self.inside.list.items) in
    let ts = (texts_of c.self.inside.list.items) in
    let lt : c.args.i < length (bodies c.self.inside.list.items) = let n = ap (λ v. length v.chunks) c.self.view_is in omega arith in
    let read : c.index_mut-chunk.result.now.text ≡ get_or ts c.args.i [] =
    body.text_read c.self.inside.list.items c.args.i c.index_mut-chunk.result.now lt c.index_mut-chunk.ensures.value in
    let new : c.put_all.new.self.text ≡ put_in c.args.at c.args.text.now (get_or ts c.args.i []) =
    c.put_all.ensures.text ∙ ap (λ (s : List ℕ). put_in c.args.at c.args.text.now s) read in
    let seat : IsSeat cs c.args.i c.args.at p = subst (λ ds. IsSeat ds c.args.i c.args.at p) (sym (ap (λ v. v.chunks) c.self.view_is)) s in
    ap (λ ds. joined ds) (body.texts_set c.self.inside.list.items c.args.i c.put_all.new.self)
    ∙ ap (λ d. joined (set ts c.args.i d)) new
    ∙ beside.joined_put ts cs _ _ _ c.args.i c.args.at p c.args.text.now c.self.invariant.0 c.self.invariant.1 seat
    ∙ ap (λ v. put_in p c.args.text.now v.text) c.self.view_is

pub at-had-requires : goal.at-had-requires
at-had-requires c m =
    let lt : c.args.i < length (bodies c.self.inside.list.items) = let n = ap (λ v. length v.chunks) c.self.view_is in omega arith in
    omega (arith, lt, weigh.weights_long (column_of c.self.inside.weights) c.self.inside.list.items c.self.invariant.2 m)

pub weigh-more-requires : goal.weigh-more-requires
weigh-more-requires c = omega (arith, c.requires.text, c.args.ins.now.most)

pub plus-weight-requires-clause-bytes : goal.plus-weight-requires-clause-bytes
plus-weight-requires-clause-bytes c =
    let lt : c.args.i < length (bodies c.self.inside.list.items) = let n = ap (λ v. length v.chunks) c.self.view_is in omega arith in
    let ps = (column_of c.self.inside.weights) in
    let cs = c.self.inside.list.items in
    let seen = ap (λ v. length v.cells) c.self.view_is in
    omega (
      arith,
      seen,
      c.requires.bound,
      c.requires.text,
      c.args.ins.now.most,
      c.at-had.ensures Bytes,
      c.weigh-more.ensures Bytes,
      weigh.weight-low ps cs c.args.i c.self.invariant.2 lt Bytes,
      weight_of-le Bytes c.args.text.now,
    )

pub plus-weight-requires-clause-units : goal.plus-weight-requires-clause-units
plus-weight-requires-clause-units c =
    let lt : c.args.i < length (bodies c.self.inside.list.items) = let n = ap (λ v. length v.chunks) c.self.view_is in omega arith in
    let ps = (column_of c.self.inside.weights) in
    let cs = c.self.inside.list.items in
    let seen = ap (λ v. length v.cells) c.self.view_is in
    omega (
      arith,
      seen,
      c.requires.bound,
      c.requires.text,
      c.args.ins.now.most,
      c.at-had.ensures Units,
      c.weigh-more.ensures Units,
      weigh.weight-low ps cs c.args.i c.self.invariant.2 lt Units,
      weight_of-le Units c.args.text.now,
    )

pub plus-weight-requires-clause-lines : goal.plus-weight-requires-clause-lines
plus-weight-requires-clause-lines c =
    let lt : c.args.i < length (bodies c.self.inside.list.items) = let n = ap (λ v. length v.chunks) c.self.view_is in omega arith in
    let ps = (column_of c.self.inside.weights) in
    let cs = c.self.inside.list.items in
    let seen = ap (λ v. length v.cells) c.self.view_is in
    omega (
      arith,
      seen,
      c.requires.bound,
      c.requires.text,
      c.args.ins.now.most,
      c.at-had.ensures Lines,
      c.weigh-more.ensures Lines,
      weigh.weight-low ps cs c.args.i c.self.invariant.2 lt Lines,
      weight_of-le Lines c.args.text.now,
    )

pub change-requires-clause-within : goal.change-requires-clause-within
change-requires-clause-within c m =
    let lt : c.args.i < length (bodies c.self.inside.list.items) = let n = ap (λ v. length v.chunks) c.self.view_is in omega arith in
    omega (arith, lt, weigh.weights_long (column_of c.self.inside.weights) c.self.inside.list.items c.self.invariant.2 m)

pub change-requires-clause-low : goal.change-requires-clause-low
change-requires-clause-low c m =
    let lt : c.args.i < length (bodies c.self.inside.list.items) = let n = ap (λ v. length v.chunks) c.self.view_is in omega arith in
    let ps = (column_of c.self.inside.weights) in
    let cs = c.self.inside.list.items in
    let seen = ap (λ v. length v.cells) c.self.view_is in
    omega (
      arith,
      seen,
      c.requires.bound,
      c.requires.text,
      c.args.ins.now.most,
      c.at-had.ensures m,
      c.weigh-more.ensures m,
      c.plus-weight.ensures m,
      weigh.weight-low ps cs c.args.i c.self.invariant.2 lt m,
      weight_of-le m c.args.text.now,
      weigh.set-low ps cs c.args.i (weighed c.plus-weight.result m) c.self.invariant.2 lt m,
    )
