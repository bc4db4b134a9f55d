use Rattle.std.proofs.Common.{◌≡◌, List, length, map, sym, ap, ◌∙◌, subst, arith}
use Rattle.std.proofs.lemmas.List.{length-map, take_at}
use Rattle.ttf_form.specs.Cells.{CellData}
use Rattle.tombstone_text.specs.Chunks.{flat}
use Rattle.tombstone_text.specs.Code.Spans.{AreFilled, cells_in, pieces, raised_run}
use Rattle.tombstone_text.proofs.Pieces.{filled_map}
use Rattle.tombstone_text.proofs.Raising.{flat_map_all}
use Rattle.tombstone_text.proofs.chunk.Chunk.raise.Goals as goal

pub invariant_of-self : goal.invariant_of-self
invariant_of-self c =
    let f = raised_run c.args.generation c.args.name.now in
    let ss = c.self.inside.spans.items in
    let now : cells_in c.raise.new.spans.items ≡ map f (cells_in ss) =
    ap (λ cs. flat cs) c.raise.ensures.pieces ∙ flat_map_all f (pieces ss) in
    let long = ap (λ (s : List CellData). length s) now in
    let same = length-map (cells_in ss) f in
    record {
      filled = subst AreFilled (sym c.raise.ensures.pieces) (filled_map f (pieces ss) c.self.invariant.filled);
      flags_are = take_at c.raise.new.flags _ _ (c.raise.auto.flags ∙ c.as_mut_slice.ensures.len) ∙ c.raise.ensures.flags;
      long = omega (arith, long, same, c.self.invariant.long);
      most = omega (arith, long, same, c.self.invariant.most);
    }

pub returns-clause-cells : goal.returns-clause-cells
returns-clause-cells c =
    let f = raised_run c.args.generation c.args.name.now in
    ap (λ cs. flat cs) c.raise.ensures.pieces ∙ flat_map_all f (pieces c.self.inside.spans.items) ∙ ap (λ s. map f s.cells) c.self.view_is
