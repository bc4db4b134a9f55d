use Rattle.std.proofs.Common.{ℕ, List, rules, refl, sym, ap, subst}
use Rattle.outside_io.proofs.CallerLemmas.{kept_on}
use Rattle.peer_exchange.specs.Measuring.{MessageData}
use Rattle.site_node.specs.Moves.{Receives}
use Rattle.site_node.proofs.Moving.{no_part, receives_none, receives_gain, stopped_after}
use Rattle.site_node.proofs.receiving.receive.Goals as goal

pub loop-reader-init : goal.loop-reader-init
loop-reader-init g c = record {
  part = no_part _ _ (ap (λ (m : MessageData). m.bytes) c.new-reader.ensures);
  which = search rules;
  came = receives_none _ _ (ap (λ (m : MessageData). m.bytes) c.new-reader.ensures);
  other_end = refl;
  kept = record { first = refl; second = refl };
  asked = refl;
  asks = refl;
  peer = refl;
  faultless = refl;
}

pub returns-in-Ok-eq0-clause-received : goal.returns-in-Ok-eq0-clause-received
returns-in-Ok-eq0-clause-received g c =
    subst (λ (bytes : List ℕ).
    Receives (g.W.Wire.ends c.args.wire.now c.args.end) (g.W.Wire.ends c.read_on.new.wire c.args.end) bytes) (sym c.into_bytes.ensures)
    (receives_gain _ _ _ _ _ _ refl c.loop-reader.invariant.came c.in-Ok-eq0.ensures.gains)

pub returns-in-Err-clause-stopped : goal.returns-in-Err-clause-stopped
returns-in-Err-clause-stopped g c =
    stopped_after c.args.which c.loop-reader.reader.which _ _ _ c.loop-reader.reader.bytes _ c.loop-reader.invariant.which
    c.loop-reader.invariant.came
    c.in-Err.ensures.stopped

pub loop-reader-preserved : goal.loop-reader-preserved
loop-reader-preserved g c = record {
  part = c.in-Ok.ensures.part;
  which = search rules;
  came = receives_gain _ _ _ _ _ _ refl c.loop-reader.invariant.came c.in-Ok.ensures.gains;
  other_end = search rules;
  kept = kept_on _ _ _ c.loop-reader.invariant.kept c.read_on.ensures.kept;
  asked = search rules;
  asks = search rules;
  peer = search rules;
  faultless = search rules;
}
