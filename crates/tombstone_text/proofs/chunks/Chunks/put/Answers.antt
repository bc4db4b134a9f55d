use Rattle.std.proofs.Common.{ℕ, ◌+◌, List, length, sym, ap, ◌∙◌, arith}
use Rattle.ttf_form.specs.Cells.{CellData, bare_cells, put_in}
use Rattle.tombstone_text.specs.Chunks.{flat}
use Rattle.tombstone_text.proofs.Ways as way
use Rattle.tombstone_text.proofs.chunks.Chunks.put.Goals as goal

pub put_first-requires-clause-fresh : goal.put_first-requires-clause-fresh
put_first-requires-clause-fresh c =
    let first =
    way.first_way c.args.self.now c.args.ready c.args.ins.now.len c.requires.ready c.in-First.is c.requires.place c.requires.len in
    first.1

pub put_first-requires-clause-spare : goal.put_first-requires-clause-spare
put_first-requires-clause-spare c =
    let first =
    way.first_way c.args.self.now c.args.ready c.args.ins.now.len c.requires.ready c.in-First.is c.requires.place c.requires.len in
    first.2

pub put_first-requires-clause-gaps : goal.put_first-requires-clause-gaps
put_first-requires-clause-gaps c =
    let first =
    way.first_way c.args.self.now c.args.ready c.args.ins.now.len c.requires.ready c.in-First.is c.requires.place c.requires.len in
    first.3

pub put_first-requires-clause-empty : goal.put_first-requires-clause-empty
put_first-requires-clause-empty c =
    let first =
    way.first_way c.args.self.now c.args.ready c.args.ins.now.len c.requires.ready c.in-First.is c.requires.place c.requires.len in
    first.0

pub returns-in-First-clause-cells : goal.returns-in-First-clause-cells
returns-in-First-clause-cells c =
    let first =
    way.first_way c.args.self.now c.args.ready c.args.ins.now.len c.requires.ready c.in-First.is c.requires.place c.requires.len in
    let none = sym c.known.ensures.chunks ∙ ap (λ ds. flat ds) first.0 in
    let long = ap (λ (s : List CellData). length s) none in
    c.put_first.ensures.cells
    ∙ way.first_in c.args.self.now.cells c.args.ready.place (bare_cells c.args.ins.now) long c.requires.place

pub returns-in-First-clause-text : goal.returns-in-First-clause-text
returns-in-First-clause-text c =
    let first =
    way.first_way c.args.self.now c.args.ready c.args.ins.now.len c.requires.ready c.in-First.is c.requires.place c.requires.len in
    let none = sym c.known.ensures.chunks ∙ ap (λ ds. flat ds) first.0 in
    let long = ap (λ (s : List CellData). length s) none in
    let beside = c.known.ensures.long in
    let place = c.requires.place in
    c.put_first.ensures.text
    ∙ way.first_in c.args.self.now.text c.args.ready.place c.args.text.now (omega (arith, long, beside)) (omega (arith, place, beside))

pub put_at-requires-clause-chunk : goal.put_at-requires-clause-chunk
put_at-requires-clause-chunk c =
    let into =
    way.into_way c.args.self.now c.args.ready c.in-Into.chunk c.in-Into.at c.args.ins.now.len c.requires.ready c.in-Into.is c.requires.place
    c.requires.len in
    into.0.chunk

pub put_at-requires-clause-within : goal.put_at-requires-clause-within
put_at-requires-clause-within c =
    let into =
    way.into_way c.args.self.now c.args.ready c.in-Into.chunk c.in-Into.at c.args.ins.now.len c.requires.ready c.in-Into.is c.requires.place
    c.requires.len in
    into.0.within

pub put_at-requires-clause-room : goal.put_at-requires-clause-room
put_at-requires-clause-room c =
    let into =
    way.into_way c.args.self.now c.args.ready c.in-Into.chunk c.in-Into.at c.args.ins.now.len c.requires.ready c.in-Into.is c.requires.place
    c.requires.len in
    into.1

pub returns-in-Into-clause-cells : goal.returns-in-Into-clause-cells
returns-in-Into-clause-cells c =
    let into =
    way.into_way c.args.self.now c.args.ready c.in-Into.chunk c.in-Into.at c.args.ins.now.len c.requires.ready c.in-Into.is c.requires.place
    c.requires.len in
    c.put_at.ensures.cells c.args.ready.place into.0

pub returns-in-Into-clause-text : goal.returns-in-Into-clause-text
returns-in-Into-clause-text c =
    let into =
    way.into_way c.args.self.now c.args.ready c.in-Into.chunk c.in-Into.at c.args.ins.now.len c.requires.ready c.in-Into.is c.requires.place
    c.requires.len in
    c.put_at.ensures.text c.args.ready.place into.0

pub room_below-requires-clause-keep : goal.room_below-requires-clause-keep
room_below-requires-clause-keep c =
    let cut =
    way.cut_way c.args.self.now c.args.ready c.in-Cut.chunk c.in-Cut.at c.in-Cut.keep c.args.ins.now.len c.requires.ready c.in-Cut.is
    c.requires.place c.requires.len in
    omega (arith, cut.1.less, cut.1.most)

pub split-requires-clause-room : goal.split-requires-clause-room
split-requires-clause-room c =
    let cut =
    way.cut_way c.args.self.now c.args.ready c.in-Cut.chunk c.in-Cut.at c.in-Cut.keep c.args.ins.now.len c.requires.ready c.in-Cut.is
    c.requires.place c.requires.len in
    cut.1.fresh

pub split-requires-clause-gaps : goal.split-requires-clause-gaps
split-requires-clause-gaps c =
    let cut =
    way.cut_way c.args.self.now c.args.ready c.in-Cut.chunk c.in-Cut.at c.in-Cut.keep c.args.ins.now.len c.requires.ready c.in-Cut.is
    c.requires.place c.requires.len in
    cut.1.gaps

pub split-requires-clause-fresh_gaps : goal.split-requires-clause-fresh_gaps
split-requires-clause-fresh_gaps c =
    let cut =
    way.cut_way c.args.self.now c.args.ready c.in-Cut.chunk c.in-Cut.at c.in-Cut.keep c.args.ins.now.len c.requires.ready c.in-Cut.is
    c.requires.place c.requires.len in
    cut.1.fresh_gaps

pub split-requires-clause-spare : goal.split-requires-clause-spare
split-requires-clause-spare c =
    let cut =
    way.cut_way c.args.self.now c.args.ready c.in-Cut.chunk c.in-Cut.at c.in-Cut.keep c.args.ins.now.len c.requires.ready c.in-Cut.is
    c.requires.place c.requires.len in
    cut.1.spare

pub split-requires-clause-chunk : goal.split-requires-clause-chunk
split-requires-clause-chunk c =
    let cut =
    way.cut_way c.args.self.now c.args.ready c.in-Cut.chunk c.in-Cut.at c.in-Cut.keep c.args.ins.now.len c.requires.ready c.in-Cut.is
    c.requires.place c.requires.len in
    cut.0.chunk

pub split-requires-clause-some : goal.split-requires-clause-some
split-requires-clause-some c =
    let cut =
    way.cut_way c.args.self.now c.args.ready c.in-Cut.chunk c.in-Cut.at c.in-Cut.keep c.args.ins.now.len c.requires.ready c.in-Cut.is
    c.requires.place c.requires.len in
    cut.1.some

pub split-requires-clause-less : goal.split-requires-clause-less
split-requires-clause-less c =
    let cut =
    way.cut_way c.args.self.now c.args.ready c.in-Cut.chunk c.in-Cut.at c.in-Cut.keep c.args.ins.now.len c.requires.ready c.in-Cut.is
    c.requires.place c.requires.len in
    cut.1.less

pub put_at-requires-then-at-keep-clause-chunk : goal.put_at-requires-then-at-keep-clause-chunk
put_at-requires-then-at-keep-clause-chunk c =
    let cut =
    way.cut_way c.args.self.now c.args.ready c.in-Cut.chunk c.in-Cut.at c.in-Cut.keep c.args.ins.now.len c.requires.ready c.in-Cut.is
    c.requires.place c.requires.len in
    let low =
    way.cut_low c.args.self.now c.split.new.self c.in-Cut.chunk c.in-Cut.at c.in-Cut.keep c.args.ins.now.len c.args.ready.place
    c.room_below.result cut.0 cut.1 c.if-at-keep.true c.split.ensures.chunks (c.room_below.ensures c.if-at-keep.true)
    c.split.ensures.lower c.split.ensures.lower_gaps in
    low.0.chunk

pub put_at-requires-then-at-keep-clause-within : goal.put_at-requires-then-at-keep-clause-within
put_at-requires-then-at-keep-clause-within c =
    let cut =
    way.cut_way c.args.self.now c.args.ready c.in-Cut.chunk c.in-Cut.at c.in-Cut.keep c.args.ins.now.len c.requires.ready c.in-Cut.is
    c.requires.place c.requires.len in
    let low =
    way.cut_low c.args.self.now c.split.new.self c.in-Cut.chunk c.in-Cut.at c.in-Cut.keep c.args.ins.now.len c.args.ready.place
    c.room_below.result cut.0 cut.1 c.if-at-keep.true c.split.ensures.chunks (c.room_below.ensures c.if-at-keep.true)
    c.split.ensures.lower c.split.ensures.lower_gaps in
    low.0.within

pub put_at-requires-then-at-keep-clause-room : goal.put_at-requires-then-at-keep-clause-room
put_at-requires-then-at-keep-clause-room c =
    let cut =
    way.cut_way c.args.self.now c.args.ready c.in-Cut.chunk c.in-Cut.at c.in-Cut.keep c.args.ins.now.len c.requires.ready c.in-Cut.is
    c.requires.place c.requires.len in
    let low =
    way.cut_low c.args.self.now c.split.new.self c.in-Cut.chunk c.in-Cut.at c.in-Cut.keep c.args.ins.now.len c.args.ready.place
    c.room_below.result cut.0 cut.1 c.if-at-keep.true c.split.ensures.chunks (c.room_below.ensures c.if-at-keep.true)
    c.split.ensures.lower c.split.ensures.lower_gaps in
    low.1

pub overflow_add-chunk : goal.overflow_add-chunk
overflow_add-chunk c =
    let cut =
    way.cut_way c.args.self.now c.args.ready c.in-Cut.chunk c.in-Cut.at c.in-Cut.keep c.args.ins.now.len c.requires.ready c.in-Cut.is
    c.requires.place c.requires.len in
    let lt = cut.0.chunk in
    let few = c.known.ensures.few in
    record { fits = omega (arith, lt, few) }

pub put_at-requires-else-at-keep-clause-chunk : goal.put_at-requires-else-at-keep-clause-chunk
put_at-requires-else-at-keep-clause-chunk c =
    let cut =
    way.cut_way c.args.self.now c.args.ready c.in-Cut.chunk c.in-Cut.at c.in-Cut.keep c.args.ins.now.len c.requires.ready c.in-Cut.is
    c.requires.place c.requires.len in
    let high =
    way.cut_high c.args.self.now c.split.new.self c.in-Cut.chunk (c.in-Cut.chunk + 1) c.in-Cut.at c.in-Cut.keep c.args.ins.now.len
    c.args.ready.place cut.0 cut.1 (omega (arith, c.if-at-keep.false)) c.split.ensures.chunks (omega arith) c.split.ensures.upper
    c.split.ensures.upper_gaps in
    high.0.chunk

pub put_at-requires-else-at-keep-clause-within : goal.put_at-requires-else-at-keep-clause-within
put_at-requires-else-at-keep-clause-within c =
    let cut =
    way.cut_way c.args.self.now c.args.ready c.in-Cut.chunk c.in-Cut.at c.in-Cut.keep c.args.ins.now.len c.requires.ready c.in-Cut.is
    c.requires.place c.requires.len in
    let high =
    way.cut_high c.args.self.now c.split.new.self c.in-Cut.chunk (c.in-Cut.chunk + 1) c.in-Cut.at c.in-Cut.keep c.args.ins.now.len
    c.args.ready.place cut.0 cut.1 (omega (arith, c.if-at-keep.false)) c.split.ensures.chunks (omega arith) c.split.ensures.upper
    c.split.ensures.upper_gaps in
    high.0.within

pub put_at-requires-else-at-keep-clause-room : goal.put_at-requires-else-at-keep-clause-room
put_at-requires-else-at-keep-clause-room c =
    let cut =
    way.cut_way c.args.self.now c.args.ready c.in-Cut.chunk c.in-Cut.at c.in-Cut.keep c.args.ins.now.len c.requires.ready c.in-Cut.is
    c.requires.place c.requires.len in
    let high =
    way.cut_high c.args.self.now c.split.new.self c.in-Cut.chunk (c.in-Cut.chunk + 1) c.in-Cut.at c.in-Cut.keep c.args.ins.now.len
    c.args.ready.place cut.0 cut.1 (omega (arith, c.if-at-keep.false)) c.split.ensures.chunks (omega arith) c.split.ensures.upper
    c.split.ensures.upper_gaps in
    high.1

pub returns-then-at-keep-clause-cells : goal.returns-then-at-keep-clause-cells
returns-then-at-keep-clause-cells c =
    let cut =
    way.cut_way c.args.self.now c.args.ready c.in-Cut.chunk c.in-Cut.at c.in-Cut.keep c.args.ins.now.len c.requires.ready c.in-Cut.is
    c.requires.place c.requires.len in
    let low =
    way.cut_low c.args.self.now c.split.new.self c.in-Cut.chunk c.in-Cut.at c.in-Cut.keep c.args.ins.now.len c.args.ready.place
    c.room_below.result cut.0 cut.1 c.if-at-keep.true c.split.ensures.chunks (c.room_below.ensures c.if-at-keep.true)
    c.split.ensures.lower c.split.ensures.lower_gaps in
    c.put_at-then-at-keep.ensures.cells c.args.ready.place low.0
    ∙ ap (λ (s : List CellData). put_in c.args.ready.place (bare_cells c.args.ins.now) s) c.split.ensures.cells

pub returns-then-at-keep-clause-text : goal.returns-then-at-keep-clause-text
returns-then-at-keep-clause-text c =
    let cut =
    way.cut_way c.args.self.now c.args.ready c.in-Cut.chunk c.in-Cut.at c.in-Cut.keep c.args.ins.now.len c.requires.ready c.in-Cut.is
    c.requires.place c.requires.len in
    let low =
    way.cut_low c.args.self.now c.split.new.self c.in-Cut.chunk c.in-Cut.at c.in-Cut.keep c.args.ins.now.len c.args.ready.place
    c.room_below.result cut.0 cut.1 c.if-at-keep.true c.split.ensures.chunks (c.room_below.ensures c.if-at-keep.true)
    c.split.ensures.lower c.split.ensures.lower_gaps in
    c.put_at-then-at-keep.ensures.text c.args.ready.place low.0
    ∙ ap (λ (s : List ℕ). put_in c.args.ready.place c.args.text.now s) c.split.ensures.text

pub returns-else-at-keep-clause-cells : goal.returns-else-at-keep-clause-cells
returns-else-at-keep-clause-cells c =
    let cut =
    way.cut_way c.args.self.now c.args.ready c.in-Cut.chunk c.in-Cut.at c.in-Cut.keep c.args.ins.now.len c.requires.ready c.in-Cut.is
    c.requires.place c.requires.len in
    let high =
    way.cut_high c.args.self.now c.split.new.self c.in-Cut.chunk (c.in-Cut.chunk + 1) c.in-Cut.at c.in-Cut.keep c.args.ins.now.len
    c.args.ready.place cut.0 cut.1 (omega (arith, c.if-at-keep.false)) c.split.ensures.chunks (omega arith) c.split.ensures.upper
    c.split.ensures.upper_gaps in
    c.put_at-else-at-keep.ensures.cells c.args.ready.place high.0
    ∙ ap (λ (s : List CellData). put_in c.args.ready.place (bare_cells c.args.ins.now) s) c.split.ensures.cells

pub returns-else-at-keep-clause-text : goal.returns-else-at-keep-clause-text
returns-else-at-keep-clause-text c =
    let cut =
    way.cut_way c.args.self.now c.args.ready c.in-Cut.chunk c.in-Cut.at c.in-Cut.keep c.args.ins.now.len c.requires.ready c.in-Cut.is
    c.requires.place c.requires.len in
    let high =
    way.cut_high c.args.self.now c.split.new.self c.in-Cut.chunk (c.in-Cut.chunk + 1) c.in-Cut.at c.in-Cut.keep c.args.ins.now.len
    c.args.ready.place cut.0 cut.1 (omega (arith, c.if-at-keep.false)) c.split.ensures.chunks (omega arith) c.split.ensures.upper
    c.split.ensures.upper_gaps in
    c.put_at-else-at-keep.ensures.text c.args.ready.place high.0
    ∙ ap (λ (s : List ℕ). put_in c.args.ready.place c.args.text.now s) c.split.ensures.text
