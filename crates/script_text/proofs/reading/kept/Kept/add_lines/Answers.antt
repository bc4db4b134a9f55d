use Rattle.std.proofs.Common.{ap, ◌∙◌}
use Rattle.script_text.specs.Code.Keeping.{lines_kept, with_end}
use Rattle.script_text.specs.KeptData.{KeptData}
use Rattle.script_text.proofs.KeptLines.{adding_line, adds_part}
use Rattle.script_text.proofs.reading.kept.Kept.add_lines.Goals as goal
use Rattle.std.proofs.lemmas.Result.{on_ok_weaker}

pub loop-part-preserved : goal.loop-part-preserved
loop-part-preserved c =
    adding_line c.args.self.now c.loop-part.self c.end_line.new.self c.args.piece.now c.loop-part.rest.now c.in-Some.part.now
    c.in-Some.after.now
    c.known.ensures.kept c.in-Some.ensures.first c.in-Some.ensures.found
    (c.in_ok-end_line.ensures.ok ∙ ap with_end c.in_ok-add_part.ensures.ok) c.loop-part.invariant

pub returns-clause-ok : goal.returns-clause-ok
returns-clause-ok c =
    on_ok_weaker c.add_part-2.result
    (λ e. ap (λ (d : KeptData). lines_kept d) e
    ∙ (adds_part c.loop-part.self c.loop-part.rest.now c.known-2.ensures.kept c.in_default.ensures.none ∙ c.loop-part.invariant.lines))
    c.add_part-2.ensures.ok
