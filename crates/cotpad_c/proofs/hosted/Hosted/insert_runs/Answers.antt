use Rattle.std.proofs.Common.{ap, subst, ◌∙◌}
use Rattle.participant.specs.Reached.{at}
use Rattle.participant.specs.Runs.{runs, IsRun}
use Rattle.cotpad_c.specs.Hosting.{HostedData, reached}
use Rattle.cotpad_c.specs.Statuses.{number_of}
use Rattle.cotpad_c.proofs.TextRuns.{made_within, nothing_run}
use Rattle.cotpad_c.proofs.hosted.Hosted.insert_runs.Goals as goal

pub returns-clause-typed : goal.returns-clause-typed
returns-clause-typed c =
    let run = c.insert_runs-run.result in
    let after = at c.insert_runs-run.new.site c.insert_runs-run.new.released.items in
    record {
      end = run.end;
      status = c.end_number.ensures;
      run =
          subst (λ (h : HostedData). IsRun (runs c.args.place c.args.text.now) (reached h) run after) c.self.view_is
          c.insert_runs-run.ensures.run;
      within = made_within c.args.place c.args.text.now _ _ run c.insert_runs-run.ensures.run;
      whole = c.insert_runs-run.ensures.whole;
    }

pub returns-clause-nothing : goal.returns-clause-nothing
returns-clause-nothing c = λ none.
    c.end_number.ensures
    ∙ ap number_of (nothing_run c.args.place c.args.text.now _ _ c.insert_runs-run.result none c.insert_runs-run.ensures.run)
