use Rattle.std.proofs.Common.{chars, subst, sym}
use Rattle.std.specs.Prelude.{⊤, Result}
use Rattle.cot_site.specs.Sites.{state_of}
use Rattle.site_answers.specs.declared.local.Local.{Local}
use Rattle.participant.specs.Reached.{at}
use Rattle.participant.specs.Runs.{letters, inserts, begun, progress}
use Rattle.log_replies.specs.Editing.{all_made}
use Rattle.log_replies.specs.Code.Editing.{IsDone}
use Rattle.log_replies.proofs.Edits.{pieces_ended}
use Rattle.log_replies.proofs.edit.type_text.Goals as goal

pub returns : goal.returns
returns c =
    let text = chars c.args.text.now in
    let run = c.insert_text.result in
    let first = begun (at c.args.site.now c.args.released.now.items) in
    let last = progress c.insert_text.new.site c.insert_text.new.released.items run.made in
    let defined = all_made (inserts c.args.place text) (state_of c.args.site.now) in
    let after = state_of c.insert_text.new.site in
    subst (λ (r : Result ⊤ Local). IsDone defined r after) (sym c.ended.ensures)
    (pieces_ended c.args.place (letters text) first run.end last c.insert_text.ensures.run)
