use Rattle.std.proofs.Common.{◌≡◌, ℕ, Result, sym, subst, arith}
use Rattle.std.specs.Prelude.{IsErrAnd}
use Rattle.wire_codec.proofs.CallerLemmas.{IsBytes}
use Rattle.cot_site.specs.Releases.{IsSound}
use Rattle.cot_site.specs.Sites.{state_of}
use Rattle.peer_exchange.specs.declared.peer.Peer.{Peer}
use Rattle.peer_exchange.specs.Closing.{IsUnfinished}
use Rattle.op_name.proofs.CallerLemmas.{handed_on}
use Rattle.peer_exchange.proofs.WholeFrames.{whole_third}
use Rattle.peer_exchange.proofs.SecondMessages.{unread_unfinished}
use Rattle.peer_exchange.proofs.Later.{taking_in_keeps_histories, untaken_later}
use Rattle.peer_exchange.proofs.closing.finish.Goals as goal

pub take_frames-requires-clause-frames : goal.take_frames-requires-clause-frames
take_frames-requires-clause-frames c =
    let fits : IsBytes c.args.third.now = λ i. omega (arith, c.type_inv.third i) in
    whole_third c.args.third.now fits c.in_ok-whole.ensures.whole

pub returns-in_err-whole-clause-refused : goal.returns-in_err-whole-clause-refused
returns-in_err-whole-clause-refused c =
    let s = state_of c.args.site.now in
    let fits : IsBytes c.args.third.now = λ i. omega (arith, c.type_inv.third i) in
    let why = c.in_err-whole.field-0.0 in
    handed_on (IsUnfinished s c.args.third.now s) c.from_residual.result why c.from_residual.ensures.1
    (unread_unfinished s c.args.third.now why fits c.in_err-whole.ensures.refused)

pub returns-in_err-whole-clause-needed : goal.returns-in_err-whole-clause-needed
returns-in_err-whole-clause-needed c = λ is.
    let why = c.in_err-whole.field-0.0 in
    let memory = subst (λ (r : Result ℕ Peer). IsErrAnd r (λ (x : Peer). x ≡ why)) is c.from_residual.ensures.1 in
    absurd (c.in_err-whole.ensures.memory (sym memory))

pub returns-in-Err-clause-later : goal.returns-in-Err-clause-later
returns-in-Err-clause-later c =
    let s = state_of c.args.site.now in
    let sound : IsSound s =
    record { number = c.known.ensures.number; history = c.known.ensures.history; waiting = c.known.ensures.waiting } in
    let u = c.in-Err.ensures.untaken in
    untaken_later s (state_of c.take_frames.new.site) u.0 c.in-Err.why sound u.1.formed u.2

pub returns-in-Ok-clause-later : goal.returns-in-Ok-clause-later
returns-in-Ok-clause-later c =
    let s = state_of c.args.site.now in
    let sound : IsSound s =
    record { number = c.known.ensures.number; history = c.known.ensures.history; waiting = c.known.ensures.waiting } in
    let u = c.in-Ok.ensures.taken in
    (taking_in_keeps_histories s (state_of c.take_frames.new.site) u.0 sound u.1.formed u.3).1
