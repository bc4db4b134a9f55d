use Rattle.std.proofs.Common.{sym, ◌∙◌, refl, ap, drop, arith}
use Rattle.wire_codec.proofs.CallerLemmas.{IsBytes, IsBytes-drop}
use Rattle.peer_exchange.specs.Measuring.{piece_of}
use Rattle.peer_exchange.proofs.Staying.{is_there}
use Rattle.peer_exchange.proofs.Going.{one_on, stop}
use Rattle.peer_exchange.proofs.measuring.judged.Goals as goal

pub returns-in-Got : goal.returns-in-Got
returns-in-Got c =
    let rest = drop c.args.place.at c.args.bytes.now in
    let got = ap (piece_of c.args.place.stage) (sym c.split_at.ensures.back) ∙ sym c.in-Got.ensures.value in
    let fits : IsBytes c.args.bytes.now = λ i. omega (arith, c.type_inv.bytes i) in
    let some =
    (is_there c.args.place.stage rest c.in-Got.next c.in-Got.used (IsBytes-drop c.args.place.at c.args.bytes.now fits) got).some in
    (one_on c.args.bytes.now c.args.place _ c.in-Got.next c.in-Got.used fits c.requires.within got refl refl, omega (arith, some))

pub returns-in-Whole : goal.returns-in-Whole
returns-in-Whole c =
    sym (stop c.args.place.stage c.args.place.at (drop c.args.place.at c.args.bytes.now) _
    (ap (piece_of c.args.place.stage) (sym c.split_at.ensures.back) ∙ sym c.in-Whole.ensures.value))

pub returns-in-More : goal.returns-in-More
returns-in-More c =
    sym (stop c.args.place.stage c.args.place.at (drop c.args.place.at c.args.bytes.now) _
    (ap (piece_of c.args.place.stage) (sym c.split_at.ensures.back) ∙ sym c.in-More.ensures.value))

pub returns-in-Bad : goal.returns-in-Bad
returns-in-Bad c =
    sym (stop c.args.place.stage c.args.place.at (drop c.args.place.at c.args.bytes.now) _
    (ap (piece_of c.args.place.stage) (sym c.split_at.ensures.back) ∙ sym c.in-Bad.ensures.value))
