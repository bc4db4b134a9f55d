use Rattle.std.proofs.Common.{arith}
use Rattle.wire_codec.proofs.CallerLemmas.{IsBytes}
use Rattle.cot_site.specs.Releases.{IsSound}
use Rattle.cot_site.specs.Sites.{state_of}
use Rattle.peer_exchange.specs.Closing.{IsUnclosed}
use Rattle.op_name.proofs.CallerLemmas.{handed_on}
use Rattle.peer_exchange.proofs.Later.{taking_in_keeps_histories, untaken_later}
use Rattle.peer_exchange.proofs.SecondMessages.{memory_unclosed, unread_unclosed}
use Rattle.peer_exchange.proofs.closing.close.Goals as goal

pub returns-in_err-whole-clause-refused : goal.returns-in_err-whole-clause-refused
returns-in_err-whole-clause-refused c =
    let s = state_of c.args.site.now in
    let fits : IsBytes c.args.second.now = λ i. omega (arith, c.type_inv.second i) in
    let why = c.in_err-whole.field-0.0 in
    handed_on (IsUnclosed s c.args.second.now s) c.from_residual.result why c.from_residual.ensures.1
    (unread_unclosed s c.args.second.now why fits c.in_err-whole.ensures.refused)

pub returns-in_err-state-clause-refused : goal.returns-in_err-state-clause-refused
returns-in_err-state-clause-refused c =
    let s = state_of c.args.site.now in
    let fits : IsBytes c.args.second.now = λ i. omega (arith, c.type_inv.second i) in
    handed_on (IsUnclosed s c.args.second.now s) c.from_residual-in_err-state.result _ c.from_residual-in_err-state.ensures.1
    (memory_unclosed s c.args.second.now fits c.in_ok-whole.ensures.whole)

pub returns-in_err-taken-clause-later : goal.returns-in_err-taken-clause-later
returns-in_err-taken-clause-later c =
    let s = state_of c.args.site.now in
    let sound : IsSound s =
    record { number = c.known.ensures.number; history = c.known.ensures.history; waiting = c.known.ensures.waiting } in
    let u = c.in_err-taken.ensures.untaken in
    untaken_later s (state_of c.take_frames.new.site) u.0 c.in_err-taken.field-0.0 sound u.1.formed u.2

pub returns-in-Ok-clause-later : goal.returns-in-Ok-clause-later
returns-in-Ok-clause-later c =
    let s = state_of c.args.site.now in
    let sound : IsSound s =
    record { number = c.known.ensures.number; history = c.known.ensures.history; waiting = c.known.ensures.waiting } in
    let u = c.in_ok-taken.ensures.taken in
    (taking_in_keeps_histories s (state_of c.take_frames.new.site) u.0 sound u.1.formed u.3).1

pub returns-clause-later : goal.returns-clause-later
returns-clause-later c =
    let s = state_of c.args.site.now in
    let sound : IsSound s =
    record { number = c.known.ensures.number; history = c.known.ensures.history; waiting = c.known.ensures.waiting } in
    let u = c.in_ok-taken.ensures.taken in
    (taking_in_keeps_histories s (state_of c.take_frames.new.site) u.0 sound u.1.formed u.3).1
