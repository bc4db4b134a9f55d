use Rattle.std.proofs.Common.{[], ◌∷◌, Err, subst, sym}
use Rattle.cot_site.specs.Sites.{state_of}
use Rattle.site_answers.specs.declared.local.Local.{Local}
use Rattle.participant.specs.Reached.{at}
use Rattle.log_replies.specs.Editing.{all_made}
use Rattle.log_replies.specs.Code.Editing.{IsDone}
use Rattle.log_replies.proofs.Edits.{one_made, one_stopped}
use Rattle.log_replies.proofs.edit.make.Goals as goal

pub returns-in-Ok : goal.returns-in-Ok
returns-in-Ok c =
    one_made c.args.edit (at c.args.site.now c.args.released.now.items) (at c.do_edit.new.site c.do_edit.new.released.items)
    c.in-Ok._made c.in-Ok.ensures.done

pub returns : goal.returns
returns c =
    subst (λ (why : Local). IsDone (all_made (c.args.edit ∷ []) (state_of c.args.site.now)) (Err why) (state_of c.do_edit.new.site))
    (sym c.reason_of.ensures)
    (one_stopped c.args.edit (at c.args.site.now c.args.released.now.items) (at c.do_edit.new.site c.do_edit.new.released.items)
    c.in-Err.why c.in-Err.ensures.done)
