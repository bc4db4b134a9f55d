use Rattle.session_replay.proofs.Keeping.{keeps_first}
use Rattle.session_replay.proofs.sites.Sites.opened.Goals as goal

pub invariant_of-result : goal.invariant_of-result
invariant_of-result c =
    let first = keeps_first c.args.count c.in-Ok.sites.items c.in_ok-known.known.items c.new.result.items in
    first c.requires c.in-Ok.ensures c.in_ok-known.ensures c.new.ensures.items
