use Rattle.std.proofs.Common.{◌++◌, List, length, filter, ap, ◌∙◌, arith}
use Rattle.std.specs.Prelude.{encode_utf8_all}
use Rattle.std.proofs.lemmas.List.{length-map}
use Rattle.std.proofs.lemmas.Result.{on_ok_weaker}
use Rattle.ttf_form.specs.Cells.{cell_key, cell_shown}
use Rattle.fixed_replay.proofs.CallerLemmas.{replayed_shown, replayed_chars_beside}
use Rattle.site_ranges.specs.Ranges.{range_of}
use Rattle.site_ranges.proofs.texts.write_range.Goals as goal

pub write_shown-requires : goal.write_shown-requires
write_shown-requires c =
    let cs = c.cells.result.now.cells in
    let many = ap length (replayed_shown c.args.site.now.history cs c.cells.ensures.replayed) in
    omega (arith, many, length-map (filter cell_shown cs) cell_key, c.requires)

pub returns-clause-ok : goal.returns-clause-ok
returns-clause-ok c =
    let t = c.cells.result.now in
    let characters = replayed_chars_beside c.args.site.now.history t.cells c.cells.ensures.replayed t.text c.cells.ensures.text in
    on_ok_weaker c.write_shown.result
    (λ is. is ∙ ap (λ (cs : List _). c.args.out.now.items ++ encode_utf8_all (range_of c.args.place c.args.count cs)) characters)
    c.write_shown.ensures.ok
