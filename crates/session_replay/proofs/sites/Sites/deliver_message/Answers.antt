use Rattle.std.proofs.Common.{◌∙◌, List, ap, map, refl, subst}
use Rattle.context_diff.specs.Operations.{OpData}
use Rattle.context_diff.specs.Ops.{data_of}
use Rattle.cot_site.specs.Sites.{SiteData, state_of}
use Rattle.session_replay.specs.Sessions.{given}
use Rattle.session_replay.specs.Code.Doing.{AreDone}
use Rattle.session_replay.specs.Code.Messages.{operation_of}
use Rattle.session_replay.proofs.Steps.{done_nothing}
use Rattle.session_replay.proofs.Keeping.{message_is, message_formed, one_message}
use Rattle.session_replay.proofs.sites.Sites.deliver_message.Goals as goal

pub deliver_copy-requires-clause-formed : goal.deliver_copy-requires-clause-formed
deliver_copy-requires-clause-formed c =
    let m = c.index.result.now in
    let copy = data_of c.in-Ok.copy in
    let sites = c.self.inside.sites.items in
    let messages = c.self.inside.messages.items in
    let held = c.op.ensures ∙ ap (λ (zs : List SiteData). operation_of (map state_of zs) m) c.deref.ensures.value in
    let d = c.args.self.now in
    let n = c.args.message in
    let at = message_is sites messages d n m copy _ c.self.view_is c.requires.message c.index.ensures held c.in-Ok.ensures in
    message_formed sites c.self.inside.known.items messages d n copy c.self.invariant c.self.view_is at

pub returns-in-Ok-clause-done : goal.returns-in-Ok-clause-done
returns-in-Ok-clause-done c = λ o at.
    let d = c.args.self.now in
    let m = c.index.result.now in
    let copy = data_of c.in-Ok.copy in
    let held = c.op.ensures ∙ ap (λ (zs : List SiteData). operation_of (map state_of zs) m) c.deref.ensures.value in
    let n = c.args.message in
    let sites = c.self.inside.sites.items in
    let messages = c.self.inside.messages.items in
    let here = message_is sites messages d n m copy _ c.self.view_is c.requires.message c.index.ensures held c.in-Ok.ensures in
    let now = c.deliver_copy.new.self in
    let old = c.args.out.now.items in
    let new = c.deliver_copy.new.out.items in
    subst (λ (p : OpData). AreDone c.deliver_copy.result (given c.args.many c.args.at p d) d now old new)
    (one_message d.messages n copy o here at)
    c.deliver_copy.ensures.done

pub returns-in-Err-clause-done : goal.returns-in-Err-clause-done
returns-in-Err-clause-done c = λ o at. done_nothing _ _ _ _ _ refl refl
