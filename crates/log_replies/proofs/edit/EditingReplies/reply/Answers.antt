use Rattle.cot_site.specs.Sites.{state_of}
use Rattle.log_replies.specs.Editing.{edit_data}
use Rattle.log_replies.proofs.Edits.{edit_replied}
use Rattle.log_replies.proofs.edit.EditingReplies.reply.Goals as goal

pub returns : goal.returns
returns c =
    edit_replied (edit_data c.args.self.now.edit) (state_of c.args.site.now) c.args.out.now.items c.edit_log.new.out.items c.edit_log.result
    c.edit_log.ensures
