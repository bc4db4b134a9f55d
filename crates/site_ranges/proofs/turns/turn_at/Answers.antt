use Rattle.std.proofs.Common.{List, sym, ap, subst, ◌∙◌}
use Rattle.std.specs.Prelude.{Ok}
use Rattle.context_diff.specs.Operations.{OpData}
use Rattle.participant.specs.declared.edits.Edit.{Edit}
use Rattle.participant.specs.Reached.{at}
use Rattle.participant.specs.Runs.{begun, Runs}
use Rattle.site_ranges.specs.Originals.{originals_at}
use Rattle.site_ranges.specs.Code.Turns.{turns}
use Rattle.site_ranges.proofs.Composing.{runs_none}
use Rattle.site_ranges.proofs.Turning.{no_turns}
use Rattle.site_ranges.proofs.turns.turn_at.Goals as goal

pub returns-in-None-clause-run : goal.returns-in-None-clause-run
returns-in-None-clause-run c =
    let none = ap (λ (h : List OpData). originals_at h c.args.i 1) (sym c.book.ensures) ∙ c.in-None.ensures in
    let p = begun (at c.args.site.now c.args.released.now.items) in
    subst (λ (es : List Edit). Runs es p (Ok tt) p) (sym (ap (turns c.args.redo) none ∙ no_turns c.args.redo)) (runs_none p)
