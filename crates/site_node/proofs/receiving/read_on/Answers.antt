use Rattle.std.proofs.Common.{◌≡◌, ◌<◌, ◌≤◌, ◌++◌, rules, sym, ap, subst, ◌∙◌, length, arith}
use Rattle.peer_exchange.specs.declared.messages.TheConstants.{MAX_MESSAGE}
use Rattle.peer_exchange.specs.declared.messages.Measure.TheVariants as message
use Rattle.peer_exchange.specs.declared.messages.PeerCause.TheVariants.{Limit}
use Rattle.peer_exchange.specs.Measuring.{MessageData, measure_of}
use Rattle.peer_exchange.specs.Refusals.{IsWhole}
use Rattle.site_node.specs.Moves.{Gains}
use Rattle.site_node.specs.Code.Reading.{IsPart}
use Rattle.site_node.proofs.Explaining.{bad_spoils, never_cut}
use Rattle.site_node.proofs.Moving.{gains_none, asked_on, asked_to, midway, stops_by, stops_short}
use Rattle.site_node.proofs.receiving.read_on.Goals as goal

pub returns-in-Whole-clause-whole : goal.returns-in-Whole-clause-whole
returns-in-Whole-clause-whole g c = λ none.
    let said : measure_of c.args.reader.now.which c.args.reader.now.bytes ≡ message.Whole c.in-Whole.used = sym c.in-Whole.ensures.value in
    subst (λ (m : MessageData). IsWhole m.which m.bytes) (sym c.measure.ensures.same)
    (said ∙ ap message.Whole (c.requires.part.past c.in-Whole.used said))

pub returns-in-Whole-clause-part : goal.returns-in-Whole-clause-part
returns-in-Whole-clause-part g c = subst (λ (m : MessageData). IsPart m.which m.bytes) (sym c.measure.ensures.same) c.requires.part

pub returns-in-Whole-clause-gains : goal.returns-in-Whole-clause-gains
returns-in-Whole-clause-gains g c = gains_none _ _ _ (ap (λ (m : MessageData). m.bytes) c.measure.ensures.same)

pub returns-in-Bad-clause-stopped : goal.returns-in-Bad-clause-stopped
returns-in-Bad-clause-stopped g c =
    let before = c.args.reader.now in
    stops_by before.which _ before.bytes c.in-Bad.offset c.in-Bad.cause _ c.spoilt.ensures c.requires.part.asked
    (bad_spoils before.which before.bytes c.in-Bad.offset c.in-Bad.cause (sym c.in-Bad.ensures.value))

pub returns-in-Bad-clause-cut : goal.returns-in-Bad-clause-cut
returns-in-Bad-clause-cut g c = λ offset is.
    let before = c.args.reader.now in
    absurd (never_cut before.which before.bytes c.in-Bad.offset offset c.in-Bad.cause c.spoilt.result (sym c.in-Bad.ensures.value)
    c.spoilt.ensures (let e = is in cc))

pub returns-then-len-eq-MAX_MESSAGE-clause-stopped : goal.returns-then-len-eq-MAX_MESSAGE-clause-stopped
returns-then-len-eq-MAX_MESSAGE-clause-stopped g c =
    let before = c.args.reader.now in
    let size : length before.bytes ≡ MAX_MESSAGE = search rules in
    let here : c.len-len.result ≡ MAX_MESSAGE = search rules in
    stops_by before.which _ before.bytes c.len-len.result Limit _ c.spoilt-then-len-eq-MAX_MESSAGE.ensures c.requires.part.asked
    ((c.in-More.at_least, sym c.in-More.ensures.value), size, here)

pub returns-in-Ok-eq0-clause-stopped : goal.returns-in-Ok-eq0-clause-stopped
returns-in-Ok-eq0-clause-stopped g c =
    let before = c.args.reader.now in
    let none : length c.read_once.new.reader.bytes ≡ length c.measure.new.self.bytes = omega (arith, c.in-Ok-eq0.ensures.size) in
    let few : length before.bytes < MAX_MESSAGE = search rules in
    stops_short before.which _ _ before.bytes _ _ c.in-More.at_least c.len-len.result _ c.in-Ok-eq0.ensures.gains none
    (sym c.in-More.ensures.value) few c.len-len.ensures c.spoilt-in-Ok-eq0.ensures c.requires.part.asked

pub returns-in-Ok-clause-part : goal.returns-in-Ok-clause-part
returns-in-Ok-clause-part g c =
    let before = c.args.reader.now in
    let after = c.read_once.new.reader in
    let same : c.measure.new.self ≡ before = c.measure.ensures.same in
    let gains = c.in-Ok.ensures.gains in
    let asks = ap (λ (m : MessageData). measure_of m.which m.bytes) same ∙ sym c.in-More.ensures.value in
    let within : length after.bytes ≤ c.in-More.at_least = search rules in
    let short : length after.bytes ≤ MAX_MESSAGE = search rules in
    let which : after.which ≡ before.which = search rules in
    let grown : after.bytes ≡ before.bytes ++ gains.piece =
    gains.grown ∙ ap (λ (m : MessageData). m.bytes ++ gains.piece) same in
    record {
      short = short;
      past = c.in-Ok.ensures.not_past c.in-More.at_least asks within;
      asked = rw which (asked_to before.which before.bytes gains.piece after.bytes c.in-More.at_least grown (sym c.in-More.ensures.value)
          within short);
    }

pub returns-in-Ok-clause-gains : goal.returns-in-Ok-clause-gains
returns-in-Ok-clause-gains g c =
    subst (λ (m : MessageData).
    Gains (g.W.Wire.ends c.args.wire.now c.args.end) (g.W.Wire.ends c.read_once.new.wire c.args.end) m.bytes
    c.read_once.new.reader.bytes) c.measure.ensures.same c.in-Ok.ensures.gains

pub returns-in-Err-clause-stopped : goal.returns-in-Err-clause-stopped
returns-in-Err-clause-stopped g c =
    let before = c.args.reader.now in
    let lost = c.in-Err.ensures.lost in
    record {
      piece = lost.piece;
      receives = lost.moved;
      explains = midway before.which (before.bytes ++ lost.piece) _
          (asked_on before.which before.bytes lost.piece c.in-More.at_least c.wanted-wanted.result (sym c.in-More.ensures.value)
          (search rules) (search rules) (search rules))
          c.in-Err.ensures.stops;
    }
