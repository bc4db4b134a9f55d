use Rattle.std.proofs.Common.{Option, Some, option_map, ap, sym, ◌∙◌}
use Rattle.context_diff.specs.Replays.{Cell}
use Rattle.char_marks.specs.declared.value.Values.{Values}
use Rattle.char_marks.specs.Values.{values_of}
use Rattle.char_marks.proofs.Spots.{stands_there, none_there}
use Rattle.char_marks.proofs.marks.Marks.cell_values.Goals as goal

pub values_at-requires-clause-there : goal.values_at-requires-clause-there
values_at-requires-clause-there c =
    stands_there c.args.site.now.history c.cells-cells.result.now.cells c.args.i c.in-Some.cell c.id.result c.cells-cells.ensures.replayed
    c.in-Some.ensures c.id.ensures.name c.id.ensures.offset

pub returns-in-Some : goal.returns-in-Some
returns-in-Some c =
    let h = c.args.site.now.history in
    ap (λ (v : Values). Some v) c.values_at.ensures
    ∙ sym (ap (λ (o : Option Cell). option_map (values_of h c.args.self.now) o)
    (stands_there h c.cells-cells.result.now.cells c.args.i c.in-Some.cell c.id.result c.cells-cells.ensures.replayed c.in-Some.ensures
    c.id.ensures.name c.id.ensures.offset))

pub returns-in-None : goal.returns-in-None
returns-in-None c =
    let h = c.args.site.now.history in
    sym (ap (λ (o : Option Cell). option_map (values_of h c.args.self.now) o)
    (none_there h c.cells-cells.result.now.cells c.args.i c.cells-cells.ensures.replayed c.in-None.ensures))
