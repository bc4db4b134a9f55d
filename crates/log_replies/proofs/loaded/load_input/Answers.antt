use Rattle.std.proofs.Common.{subst}
use Rattle.std.specs.Prelude.{IfSome}
use Rattle.log_replies.specs.Code.Loading.{IsFed}
use Rattle.log_replies.proofs.Logs.{loaded_of, loses_input}
use Rattle.log_replies.proofs.loaded.load_input.Goals as goal

pub returns-in-Ok-end_log-clause-loaded : goal.returns-in-Ok-end_log-clause-loaded
returns-in-Ok-end_log-clause-loaded g c =
    let left = g.S.Source.left c.args.source.now in
    let read = c.in-Ok-feed_all.read in
    let reader = c.feed_all.new.reader in
    loaded_of c.args.site read left reader c.in-Ok-end_log.loaded
    (subst (λ n. IfSome left (λ bytes. IsFed n bytes read reader)) c.in-Ok.ensures.site c.in-Ok-feed_all.ensures.fed)
    (c.in-Ok-end_log.ensures.loaded c.args.site)

pub returns-in-Err-end_log-clause-lost : goal.returns-in-Err-end_log-clause-lost
returns-in-Err-end_log-clause-lost g c = loses_input _ _ _ c.in-Ok-feed_all.ensures.rest
