use Rattle.std.proofs.Common.{ℕ, ◌<◌, List, length, map, set, get_or, sym, ap, ◌∙◌, arith}
use Rattle.std.proofs.lemmas.List.{map-set}
use Rattle.ttf_form.specs.Cells.{CellData, marked}
use Rattle.ttf_form.specs.Laws.Lists.{length-change}
use Rattle.tombstone_text.specs.Chunks.{flag_of}
use Rattle.tombstone_text.specs.Code.Chunks.{blank}
use Rattle.tombstone_text.specs.Code.Spans.{cells_in}
use Rattle.tombstone_text.proofs.Shown.{set_change, get_same}
use Rattle.tombstone_text.proofs.chunk.Chunk.cover.Goals as goal

pub invariant_of-self : goal.invariant_of-self
invariant_of-self c =
    let xs = cells_in c.self.inside.spans.items in
    let k = c.args.at in
    let f = marked c.args.mark in
    let x = get_or xs k blank in
    let seen = ap (λ s. length s.cells) c.self.view_is in
    let there : k < length xs = omega (arith, seen, c.requires.within) in
    let now = ap (λ (s : List CellData). length s) c.mark-flag.ensures.cells in
    let long = length-change f k xs in
    record {
      filled = c.mark-flag.ensures.filled;
      flags_are =
          ap (λ n. set c.self.inside.flags.items k n) c.mark-flag.ensures.flag
          ∙ ap (λ (fs : List ℕ). set fs k (flag_of (f x))) c.self.invariant.flags_are
          ∙ sym (map-set flag_of xs k (f x))
          ∙ ap (λ (s : List CellData). map flag_of s)
          (set_change f xs k x there (get_same xs k blank x there) ∙ sym c.mark-flag.ensures.cells);
      long = omega (arith, now, long, c.self.invariant.long);
      most = omega (arith, now, long, c.self.invariant.most);
    }
