use Rattle.std.proofs.Common.{◌+◌, ◌≤◌, ap, length, sym, subst, ◌∙◌}
use Rattle.context_diff.specs.Replays.{shown}
use Rattle.participant.specs.Reached.{at}
use Rattle.participant.specs.Runs.{deletes, IsRun}
use Rattle.participant.proofs.CallerLemmas.{nothing_cut}
use Rattle.cotpad_c.specs.Hosting.{HostedData, reached}
use Rattle.cotpad_c.specs.Statuses.{number_of}
use Rattle.cotpad_c.proofs.hosted.Hosted.delete_range.Goals as goal

pub returns-clause-cut : goal.returns-clause-cut
returns-clause-cut c = λ there.
    let run = c.delete_range-run.result in
    let after = at c.delete_range-run.new.site c.delete_range-run.new.released.items in
    let inside = subst (λ (h : HostedData). c.args.place + c.args.count ≤ length (shown h.site.history)) (sym c.self.view_is) there in
    record {
      end = run.end;
      status = c.end_number.ensures;
      run =
          subst (λ (h : HostedData). IsRun (deletes c.args.place c.args.count) (reached h) run after) c.self.view_is
          (c.delete_range-run.ensures.run inside);
      within = c.delete_range-run.ensures.within;
      whole = c.delete_range-run.ensures.whole;
    }

pub returns-clause-nothing : goal.returns-clause-nothing
returns-clause-nothing c = λ there none.
    let inside = subst (λ (h : HostedData). c.args.place + c.args.count ≤ length (shown h.site.history)) (sym c.self.view_is) there in
    c.end_number.ensures
    ∙ ap number_of (nothing_cut c.args.place c.args.count _ _ c.delete_range-run.result none (c.delete_range-run.ensures.run inside))
