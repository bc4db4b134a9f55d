use Rattle.std.proofs.Common.{rules}
use Rattle.outside_io.proofs.CallerLemmas.{Appends-take, Brought-more, kept_by, kept_on, kept_other}
use Rattle.site_node.proofs.sending.send.Goals as goal

pub loop-at-preserved : goal.loop-at-preserved
loop-at-preserved g c = record {
  within = search rules;
  sent =
      Appends-take _ _ _ c.args.bytes.now c.loop-at.at c.in-Ok.taken c.loop-at.invariant.sent
      (rw (← c.split_at.ensures.back) c.in-Ok.ensures.bytes.sent);
  brought =
      Brought-more _ _ _ _ _ _ _ c.args.bytes.now _ c.loop-at.at c.in-Ok.taken c.loop-at.invariant.asked
      (kept_other _ _ c.args.end c.requires.side c.loop-at.invariant.kept) c.split_at.ensures.back c.loop-at.invariant.brought
      c.in-Ok.ensures.other_end.to_come;
  kept =
      kept_on _ _ _ c.loop-at.invariant.kept (kept_by _ _ _ c.requires.side c.in-Ok.ensures.bytes.linked c.in-Ok.ensures.other_end.linked);
  received = search rules;
  to_come = search rules;
  other_sent = search rules;
  other_received = search rules;
  asked = search rules;
  asks = search rules;
  peer = search rules;
  faultless = search rules;
}
