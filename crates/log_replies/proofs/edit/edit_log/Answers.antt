use Rattle.cot_site.specs.Sites.{state_of}
use Rattle.log_replies.specs.Editing.{edit_data, edited}
use Rattle.log_replies.proofs.Edits.{refused_reply}
use Rattle.log_replies.proofs.edit.edit_log.Goals as goal

pub returns-in_ok-refuse_edit-in-Err : goal.returns-in_ok-refuse_edit-in-Err
returns-in_ok-refuse_edit-in-Err c =
    refused_reply (edited (state_of c.args.site.now) (edit_data c.args.edit.now)) c.in-Err.why (state_of c.do_edit.new.site)
    c.args.out.now.items c.refuse_edit.new.out.items
    c.in-Err.ensures c.in_ok-refuse_edit-in-Err.ensures.why c.in_ok-refuse_edit-in-Err.ensures.written
