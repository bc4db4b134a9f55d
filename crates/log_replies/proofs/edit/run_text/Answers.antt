use Rattle.std.proofs.Common.{◌≡◌, ℕ, List, chars, subst, sym, ◌∙◌}
use Rattle.std.specs.Prelude.{⊤, Result}
use Rattle.cot_site.specs.Sites.{state_of}
use Rattle.site_answers.specs.declared.local.Local.{Local}
use Rattle.participant.specs.Reached.{at}
use Rattle.participant.specs.Runs.{pieces, runs, begun, progress, Runs}
use Rattle.log_replies.specs.Editing.{all_made}
use Rattle.log_replies.specs.Code.Editing.{IsDone}
use Rattle.log_replies.proofs.Edits.{pieces_ended}
use Rattle.log_replies.proofs.edit.run_text.Goals as goal

pub returns-in-Ok : goal.returns-in-Ok
returns-in-Ok c =
    let text = chars c.args.text.now in
    let read : c.as_slice.result.now ≡ text = c.as_slice.ensures.value ∙ c.in-Ok.ensures in
    let run = c.insert_runs.result in
    let first = begun (at c.args.site.now c.args.released.now.items) in
    let last = progress c.insert_runs.new.site c.insert_runs.new.released.items run.made in
    let ran : Runs (runs c.args.place text) first run.end last =
    subst (λ (cs : List ℕ). Runs (runs c.args.place cs) first run.end last) read c.insert_runs.ensures.run in
    let defined = all_made (runs c.args.place text) (state_of c.args.site.now) in
    let after = state_of c.insert_runs.new.site in
    subst (λ (r : Result ⊤ Local). IsDone defined r after) (sym c.ended.ensures)
    (pieces_ended c.args.place (pieces text) first run.end last ran)
