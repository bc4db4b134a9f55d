use Rattle.std.proofs.Common.{◌≡◌, subst}
use Rattle.std.specs.Prelude.{Some, None, IfSome}
use Rattle.cot_site.specs.Sites.{state_of}
use Rattle.log_replies.specs.Replies.{IsLoadedAs, IsRefusedInto}
use Rattle.log_replies.proofs.Answering.{line_replied, state_replied}
use Rattle.log_replies.proofs.Logs.{if_some, if_none, loses_input}
use Rattle.log_replies.proofs.replying.reply_to_input.Goals as goal

pub returns-in-Err-reply_to_site-clause-lost : goal.returns-in-Err-reply_to_site-clause-lost
returns-in-Err-reply_to_site-clause-lost g c = loses_input _ _ _ c.in-Ok-Some.ensures.rest

pub returns-in-Ok-None-clause-reply : goal.returns-in-Ok-None-clause-reply
returns-in-Ok-None-clause-reply g c =
    let k = c.in-Ok-None in
    let e = k.field-0-is in
    let is : k.field-0 ≡ None = cc in
    let command = c.args.command.now in
    let left = g.S.Source.left c.args.source.now in
    let old = c.args.out.now.items in
    let new = c.load_input.new.out.items in
    line_replied (g.C.Replies.replies command) (g.C.Replies.number command) (g.C.Replies.replies_to command) left old new
    (g.met.C.Replies.by_log command)
    (subst (λ n. IfSome left (λ bytes. IsRefusedInto n bytes old new)) c.site.ensures.number
    (if_none k.field-0 (IfSome left (λ bytes. IsRefusedInto c.site.result bytes old new)) is k.ensures.refused))

pub returns-in-Ok-clause-reply : goal.returns-in-Ok-clause-reply
returns-in-Ok-clause-reply g c =
    let k = c.in-Ok-Some in
    let e = k.field-0-is in
    let f = k.site-is in
    let is : k.field-0 ≡ Some k.site = cc in
    let command = c.args.command.now in
    let left = g.S.Source.left c.args.source.now in
    let old = c.args.out.now.items in
    let middle = c.load_input.new.out.items in
    state_replied (g.C.Replies.replies command) (g.C.Replies.number command) (g.C.Replies.replies_to command) (state_of k.site) left old
    middle c.reply_to_site.new.out.items c.in-Ok.refused (g.met.C.Replies.by_log command)
    (subst (λ n. IfSome left (λ bytes. IsLoadedAs n bytes (state_of k.site))) c.site.ensures.number
    (if_some k.field-0 k.site (λ s. IfSome left (λ bytes. IsLoadedAs c.site.result bytes (state_of s))) is k.ensures.loaded))
    (if_some k.field-0 k.site (λ s. middle ≡ old) is k.ensures.same)
    c.in-Ok.ensures
