use Rattle.std.proofs.Common.{List, ap, sym, subst, ◌∙◌}
use Rattle.context_diff.specs.Code.Tallies.{TallyData, StandsAt, counts_of, entry_at}
use Rattle.context_diff.proofs.Sites.{read_at, tally_absent, no_entry}
use Rattle.context_diff.proofs.tally.Tallies.cells.Goals as goal

pub returns-in-Ok : goal.returns-in-Ok
returns-in-Ok c =
    let ts = c.self.inside.sites.items in
    let s = c.args.site in
    let at : StandsAt ts s c.in-Ok.at =
    subst (λ (xs : List TallyData). StandsAt xs s c.in-Ok.at) (sym c.self.view_is) c.in-Ok.ensures.found in
    c.cells.ensures
    ∙ (ap (λ (t : TallyData). entry_at t.counts c.args.number)
    (read_at ts c.self.invariant s c.in-Ok.at at c.index.result.now c.index.ensures)
    ∙ ap (λ (xs : List TallyData). entry_at (counts_of xs s) c.args.number) c.self.view_is)

pub returns-in-Err : goal.returns-in-Err
returns-in-Err c =
    sym (ap (λ (t : TallyData). entry_at t.counts c.args.number)
    (tally_absent c.args.self.now c.args.site c.in-Err.field-0 c.in-Err.ensures.absent) ∙ no_entry c.args.number)
