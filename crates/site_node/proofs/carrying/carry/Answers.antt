use Rattle.std.proofs.Common.{◌≡◌, ◌-◌, Ok, rules, refl, ap, subst, ◌∙◌, arith, drop}
use Rattle.outside_io.specs.Ends.{End}
use Rattle.outside_io.proofs.CallerLemmas.{kept_on, kept_other}
use Rattle.wire_codec.proofs.CallerLemmas.{IsBytes}
use Rattle.peer_exchange.specs.declared.messages.Which.{Which}
use Rattle.peer_exchange.specs.Measuring.{MessageData}
use Rattle.peer_exchange.specs.Refusals.{IsWhole}
use Rattle.site_node.specs.Stops.{AreAskedFor}
use Rattle.site_node.specs.Code.Reading.{StopsAfter}
use Rattle.site_node.proofs.Moving.{no_part}
use Rattle.site_node.proofs.Carriages.{carrying_none, carrying_on, all_went, carried, wire_failed, read_stopped, end_back}
use Rattle.site_node.proofs.carrying.carry.Goals as goal

pub loop-next-init : goal.loop-next-init
loop-next-init g c = record {
  part = no_part _ _ (ap (λ (m : MessageData). m.bytes) c.new-reader.ensures);
  within = search rules;
  under_way = search rules;
  which = search rules;
  carrying = carrying_none _ _ _ _ (ap (λ (m : MessageData). m.bytes) c.new-reader.ensures);
  kept = record { first = refl; second = refl };
  received = refl;
  to_come = refl;
  other_sent = refl;
  asked = refl;
  asks = refl;
  peer = refl;
  faultless = refl;
}

pub returns-in-Err-clause-uncarried : goal.returns-in-Err-clause-uncarried
returns-in-Err-clause-uncarried g c =
    let inv = c.loop-next.invariant in
    wire_failed c.args.which _ _ _ _ _ _ c.args.bytes.now (drop c.loop-next.at c.args.bytes.now) c.loop-next.reader.bytes
    c.loop-next.at inv.carrying refl c.in-Err.ensures.front c.in-Err.ensures.other_received
    (subst (λ (w : Which). AreAskedFor w c.loop-next.reader.bytes) inv.which inv.part.asked)

pub returns-in-Ok-send-clause-carried : goal.returns-in-Ok-send-clause-carried
returns-in-Ok-send-clause-carried g c =
    let fits : IsBytes c.args.bytes.now = λ i. omega (arith, c.type_inv.bytes i) in
    let inv = c.loop-next.invariant in
    let bytes = c.read_on.new.reader.bytes in
    let other =
    end_back (g.W.Wire.ends c.send_on.new.wire) (g.W.Wire.ends c.read_on.new.wire) c.args.from c.requires.side
    c.in-Ok-eq0.ensures.other_end in
    let on =
    carrying_on _ _ _ _ _ _ _ _ c.args.bytes.now c.loop-next.at c.in-Ok.next _ bytes inv.carrying c.in-Ok.ensures.sends
    c.in-Ok.ensures.other_received other c.in-Ok-eq0.ensures.gains in
    let none : c.in-Ok-eq0.field-0 ≡ 0 = omega arith in
    let own : IsWhole c.args.which bytes =
    subst (λ (w : Which). IsWhole w bytes) (c.in-Ok-eq0.ensures.which ∙ inv.which) (c.in-Ok-eq0.ensures.whole (ap Ok none)) in
    let pair = c.in-Ok-eq0.ensures.asked ∙ (c.in-Ok.ensures.asked ∙ (inv.asked ∙ c.requires.pair)) in
    let kept = kept_on _ _ _ inv.kept (kept_on _ _ _ c.in-Ok.ensures.kept c.in-Ok-eq0.ensures.kept) in
    carried c.args.which _ _ _ _ _ c.args.bytes.now _ bytes c.into_bytes.result.items _ c.in-Ok.next fits c.in-Ok.ensures.some.0
    on own c.into_bytes.ensures c.split_at.ensures.back c.in-Ok-send.ensures.other_received pair
    (kept_other _ _ c.args.from c.requires.side kept ∙ c.requires.other) c.in-Ok-send.ensures.brought

pub returns-in-Ok-send-clause-sent : goal.returns-in-Ok-send-clause-sent
returns-in-Ok-send-clause-sent g c =
    let inv = c.loop-next.invariant in
    let other =
    end_back (g.W.Wire.ends c.send_on.new.wire) (g.W.Wire.ends c.read_on.new.wire) c.args.from c.requires.side
    c.in-Ok-eq0.ensures.other_end in
    let on =
    carrying_on _ _ _ _ _ _ _ _ c.args.bytes.now c.loop-next.at c.in-Ok.next _ c.read_on.new.reader.bytes inv.carrying
    c.in-Ok.ensures.sends c.in-Ok.ensures.other_received other c.in-Ok-eq0.ensures.gains in
    all_went _ _ _ c.args.bytes.now _ c.in-Ok.next c.split_at.ensures.back on.sent c.in-Ok-send.ensures.whole

pub returns-in-Err-send-clause-uncarried : goal.returns-in-Err-send-clause-uncarried
returns-in-Err-send-clause-uncarried g c =
    let inv = c.loop-next.invariant in
    let bytes = c.read_on.new.reader.bytes in
    let other =
    end_back (g.W.Wire.ends c.send_on.new.wire) (g.W.Wire.ends c.read_on.new.wire) c.args.from c.requires.side
    c.in-Ok-eq0.ensures.other_end in
    let on =
    carrying_on _ _ _ _ _ _ _ _ c.args.bytes.now c.loop-next.at c.in-Ok.next _ bytes inv.carrying c.in-Ok.ensures.sends
    c.in-Ok.ensures.other_received other c.in-Ok-eq0.ensures.gains in
    let asked : AreAskedFor c.args.which bytes =
    subst (λ (w : Which). AreAskedFor w bytes) (c.in-Ok-eq0.ensures.which ∙ inv.which) c.in-Ok-eq0.ensures.part.asked in
    wire_failed c.args.which _ _ _ _ _ _ c.args.bytes.now _ bytes c.in-Ok.next on c.split_at.ensures.back
    c.in-Err-send.ensures.front c.in-Err-send.ensures.other_received asked

pub loop-next-preserved : goal.loop-next-preserved
loop-next-preserved g c =
    let inv = c.loop-next.invariant in
    let other =
    end_back (g.W.Wire.ends c.send_on.new.wire) (g.W.Wire.ends c.read_on.new.wire) c.args.from c.requires.side
    c.in-Ok-read_on.ensures.other_end in
    record {
      part = c.in-Ok-read_on.ensures.part;
      within = c.in-Ok.ensures.some.0;
      under_way = search rules;
      which = search rules;
      carrying =
          carrying_on _ _ _ _ _ _ _ _ c.args.bytes.now c.loop-next.at c.in-Ok.next _ c.read_on.new.reader.bytes inv.carrying
          c.in-Ok.ensures.sends c.in-Ok.ensures.other_received other c.in-Ok-read_on.ensures.gains;
      kept = kept_on _ _ _ inv.kept (kept_on _ _ _ c.in-Ok.ensures.kept c.in-Ok-read_on.ensures.kept);
      received = ap (λ (e : End). e.received) other ∙ (c.in-Ok.ensures.received ∙ inv.received);
      to_come = ap (λ (e : End). e.to_come) other ∙ (c.in-Ok.ensures.to_come ∙ inv.to_come);
      other_sent = c.in-Ok-read_on.ensures.gains.moved.sent ∙ (c.in-Ok.ensures.other_sent ∙ inv.other_sent);
      asked = search rules;
      asks = search rules;
      peer = search rules;
      faultless = search rules;
    }

pub returns-in-Err-read_on-clause-uncarried : goal.returns-in-Err-read_on-clause-uncarried
returns-in-Err-read_on-clause-uncarried g c =
    let fits : IsBytes c.args.bytes.now = λ i. omega (arith, c.type_inv.bytes i) in
    let inv = c.loop-next.invariant in
    let other =
    end_back (g.W.Wire.ends c.send_on.new.wire) (g.W.Wire.ends c.read_on.new.wire) c.args.from c.requires.side
    c.in-Err-read_on.ensures.other_end in
    read_stopped c.args.which _ _ _ _ _ _ _ _ c.args.bytes.now c.loop-next.reader.bytes c.loop-next.at c.in-Ok.next _ fits
    inv.carrying c.in-Ok.ensures.sends c.in-Ok.ensures.other_received other
    (c.in-Ok.ensures.some.0, c.in-Ok.ensures.some.1, λ all. c.in-Ok.ensures.some.2 (c.len.ensures ∙ all))
    (subst (λ (w : Which).
    StopsAfter w (g.W.Wire.ends c.send_on.new.wire (1 - c.args.from)) (g.W.Wire.ends c.read_on.new.wire (1 - c.args.from))
    c.loop-next.reader.bytes c.in-Err-read_on.why) inv.which c.in-Err-read_on.ensures.stopped)
    (λ offset is. c.in-Err-read_on.ensures.cut offset (let e = is in cc))
