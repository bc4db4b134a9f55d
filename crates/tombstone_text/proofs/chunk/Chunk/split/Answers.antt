use Rattle.std.proofs.Common.{◌≡◌, ℕ, List, length, map, take, drop, sym, ap, ◌∙◌, subst, arith}
use Rattle.std.proofs.lemmas.List.{take-map, drop-map, length-take, length-drop}
use Rattle.ttf_form.specs.Cells.{CellData}
use Rattle.tombstone_text.specs.Chunks.{flag_of}
use Rattle.tombstone_text.specs.Code.Spans.{AreFilled, SpanData, cells_in, pieces}
use Rattle.tombstone_text.proofs.Pieces.{cells_low, cells_high, pieces_take, pieces_drop, spans_few, spans_none}
use Rattle.tombstone_text.proofs.chunk.Chunk.split.Goals as goal

pub invariant_of-self : goal.invariant_of-self
invariant_of-self c =
    let keep = c.args.keep in
    let ss = c.border-i.new.spans.items in
    let i = c.border-i.result in
    let xs = cells_in c.self.inside.spans.items in
    let spans = c.shrink_spans.ensures.items ∙ c.move_spans.ensures.lower in
    let now : cells_in c.shrink_spans.new.spans.items ≡ take keep xs =
    ap (λ s. cells_in s) spans ∙ cells_low ss i keep c.border-i.ensures.border
    ∙ ap (λ (s : List CellData). take keep s) c.border-i.ensures.cells in
    let text = ap (λ (s : List ℕ). length s) (c.shrink_to-2.ensures.items ∙ c.move_column-2.ensures.lower) in
    let cells = ap (λ (s : List CellData). length s) now in
    let chars = length-take keep c.self.inside.text.items in
    let long = length-take keep xs in
    record {
      filled = subst (λ s. AreFilled (pieces s)) (sym spans) (pieces_take ss i c.border-i.ensures.filled);
      flags_are =
          c.shrink_to.ensures.items ∙ c.move_column.ensures.lower ∙ ap (λ (fs : List ℕ). take keep fs) c.self.invariant.flags_are
          ∙ take-map flag_of keep xs ∙ ap (λ (s : List CellData). map flag_of s) (sym now);
      long = omega (arith, text, cells, chars, long, c.self.invariant.long);
      most = omega (arith, cells, long, c.self.invariant.most);
    }

pub invariant_of-upper : goal.invariant_of-upper
invariant_of-upper c =
    let keep = c.args.keep in
    let ss = c.border-i.new.spans.items in
    let i = c.border-i.result in
    let xs = cells_in c.self.inside.spans.items in
    let spans = c.shrink_spans-2.ensures.items ∙ c.move_spans.ensures.upper in
    let now : cells_in c.shrink_spans-2.new.spans.items ≡ drop keep xs =
    ap (λ s. cells_in s) spans ∙ cells_high ss i keep c.border-i.ensures.border
    ∙ ap (λ (s : List CellData). drop keep s) c.border-i.ensures.cells in
    let text = ap (λ (s : List ℕ). length s) c.move_column-2.ensures.upper in
    let cells = ap (λ (s : List CellData). length s) now in
    let chars = length-drop keep c.self.inside.text.items in
    let long = length-drop keep xs in
    record {
      filled = subst (λ s. AreFilled (pieces s)) (sym spans) (pieces_drop ss i c.border-i.ensures.filled);
      flags_are =
          c.move_column.ensures.upper ∙ ap (λ (fs : List ℕ). drop keep fs) c.self.invariant.flags_are
          ∙ drop-map flag_of keep xs ∙ ap (λ (s : List CellData). map flag_of s) (sym now);
      long = omega (arith, text, cells, chars, long, c.self.invariant.long);
      most = omega (arith, cells, long, c.self.invariant.most);
    }

pub move_spans-requires-clause-empty : goal.move_spans-requires-clause-empty
move_spans-requires-clause-empty c =
    spans_none c.upper.inside.spans.items c.upper.invariant.filled (ap (λ s. s.cells) c.upper.view_is ∙ c.requires.empty)

pub move_spans-requires-clause-room : goal.move_spans-requires-clause-room
move_spans-requires-clause-room c =
    let few = spans_few c.border-i.new.spans.items c.border-i.ensures.filled in
    let cells = ap (λ (s : List CellData). length s) c.border-i.ensures.cells in
    let gaps = ap (λ s. s.gaps) c.upper.view_is in
    omega (arith, few, cells, c.self.invariant.most, gaps, c.requires.upper_gaps)

pub shrink_spans-requires-2 : goal.shrink_spans-requires-2
shrink_spans-requires-2 c =
    let few = spans_few c.border-i.new.spans.items c.border-i.ensures.filled in
    let cells = ap (λ (s : List CellData). length s) c.border-i.ensures.cells in
    let gaps = ap (λ s. s.gaps) c.upper.view_is in
    let moved = ap (λ (s : List SpanData). length s) c.move_spans.ensures.upper in
    let long = length-drop c.border-i.result c.border-i.new.spans.items in
    omega (arith, few, cells, c.self.invariant.most, gaps, c.requires.upper_gaps, moved, long, c.move_spans.ensures.to_room)

pub returns-clause-lower : goal.returns-clause-lower
returns-clause-lower c =
    let keep = c.args.keep in
    ap (λ s. cells_in s) (c.shrink_spans.ensures.items ∙ c.move_spans.ensures.lower)
    ∙ cells_low c.border-i.new.spans.items c.border-i.result keep c.border-i.ensures.border
    ∙ ap (λ (s : List CellData). take keep s) (c.border-i.ensures.cells ∙ ap (λ s. s.cells) c.self.view_is)

pub returns-clause-upper : goal.returns-clause-upper
returns-clause-upper c =
    let keep = c.args.keep in
    ap (λ s. cells_in s) (c.shrink_spans-2.ensures.items ∙ c.move_spans.ensures.upper)
    ∙ cells_high c.border-i.new.spans.items c.border-i.result keep c.border-i.ensures.border
    ∙ ap (λ (s : List CellData). drop keep s) (c.border-i.ensures.cells ∙ ap (λ s. s.cells) c.self.view_is)

pub returns-clause-lower_long : goal.returns-clause-lower_long
returns-clause-lower_long c =
    let keep = c.args.keep in
    let xs = cells_in c.self.inside.spans.items in
    let now : cells_in c.shrink_spans.new.spans.items ≡ take keep xs =
    ap (λ s. cells_in s) (c.shrink_spans.ensures.items ∙ c.move_spans.ensures.lower)
    ∙ cells_low c.border-i.new.spans.items c.border-i.result keep c.border-i.ensures.border
    ∙ ap (λ (s : List CellData). take keep s) c.border-i.ensures.cells in
    let text = ap (λ (s : List ℕ). length s) (c.shrink_to-2.ensures.items ∙ c.move_column-2.ensures.lower) in
    let cells = ap (λ (s : List CellData). length s) now in
    omega (arith, text, cells, length-take keep c.self.inside.text.items, length-take keep xs, c.self.invariant.long)

pub returns-clause-upper_long : goal.returns-clause-upper_long
returns-clause-upper_long c =
    let keep = c.args.keep in
    let xs = cells_in c.self.inside.spans.items in
    let now : cells_in c.shrink_spans-2.new.spans.items ≡ drop keep xs =
    ap (λ s. cells_in s) (c.shrink_spans-2.ensures.items ∙ c.move_spans.ensures.upper)
    ∙ cells_high c.border-i.new.spans.items c.border-i.result keep c.border-i.ensures.border
    ∙ ap (λ (s : List CellData). drop keep s) c.border-i.ensures.cells in
    let text = ap (λ (s : List ℕ). length s) c.move_column-2.ensures.upper in
    let cells = ap (λ (s : List CellData). length s) now in
    omega (arith, text, cells, length-drop keep c.self.inside.text.items, length-drop keep xs, c.self.invariant.long)
