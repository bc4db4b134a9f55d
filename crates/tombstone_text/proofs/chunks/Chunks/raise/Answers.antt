use Rattle.std.proofs.Common.{List, map, sym, ap, ◌∙◌, subst}
use Rattle.ttf_form.specs.Cells.{CellData}
use Rattle.tombstone_text.specs.Chunks.{flat}
use Rattle.tombstone_text.specs.Code.Inserts.{AreInserts}
use Rattle.tombstone_text.specs.Code.Spans.{raised_run}
use Rattle.tombstone_text.proofs.Raising.{flat_map_all}
use Rattle.tombstone_text.proofs.chunks.Chunks.raise.Goals as goal

pub raise_from-requires-clause-inserts : goal.raise_from-requires-clause-inserts
raise_from-requires-clause-inserts c = subst AreInserts (sym c.known.ensures.chunks) c.requires.inserts

pub returns-clause-cells : goal.returns-clause-cells
returns-clause-cells c =
    let f = raised_run c.args.generation c.args.name.now in
    sym c.known-2.ensures.chunks
    ∙ ap (λ ds. flat ds) c.raise_from.ensures.chunks
    ∙ flat_map_all f c.args.self.now.chunks
    ∙ ap (λ (s : List CellData). map f s) c.known.ensures.chunks
