use Rattle.std.proofs.Common.{subst}
use Rattle.cot_site.specs.Sites.{state_of}
use Rattle.participant.specs.Reached.{at}
use Rattle.participant.specs.Edits.{made_by, IsDone}
use Rattle.cotpad_c.specs.Hosting.{HostedData, reached}
use Rattle.cotpad_c.proofs.hosted.Hosted.edit.Goals as goal

pub returns : goal.returns
returns c =
    let after = at c.do_edit.new.site c.do_edit.new.released.items in
    record {
      answer = c.do_edit.result;
      status = c.edit_number.ensures;
      done =
          subst (λ (h : HostedData). IsDone (made_by c.args.edit.now (state_of h.site)) (reached h) c.do_edit.result after) c.self.view_is
          c.do_edit.ensures.done;
    }
