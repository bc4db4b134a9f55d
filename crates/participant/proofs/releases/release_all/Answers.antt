use Rattle.std.proofs.Common.{sym, subst}
use Rattle.cot_site.specs.Releases.{IsSound, IsLater}
use Rattle.cot_site.specs.Sites.{state_of}
use Rattle.cot_site.specs.States.{IsSettled}
use Rattle.cot_site.proofs.CallerLemmas.{settled_settles}
use Rattle.participant.proofs.Later.{sound_of, later_settled, later_half}
use Rattle.participant.proofs.releases.release_all.Goals as goal

pub returns-in-Ok-clause-settled : goal.returns-in-Ok-clause-settled
returns-in-Ok-clause-settled c =
    let s = state_of c.args.site.now in
    let sound : IsSound s = sound_of c.args.site.now c.known.ensures.number c.known.ensures.history c.known.ensures.waiting in
    subst IsSettled (sym c.in-Ok.ensures.state) (settled_settles s sound)

pub returns-in-Ok-clause-later : goal.returns-in-Ok-clause-later
returns-in-Ok-clause-later c =
    let s = state_of c.args.site.now in
    let sound : IsSound s = sound_of c.args.site.now c.known.ensures.number c.known.ensures.history c.known.ensures.waiting in
    subst (IsLater s) (sym c.in-Ok.ensures.state) (later_settled s sound)

pub returns-in-Err-clause-later : goal.returns-in-Err-clause-later
returns-in-Err-clause-later c =
    let s = state_of c.args.site.now in
    let sound : IsSound s = sound_of c.args.site.now c.known.ensures.number c.known.ensures.history c.known.ensures.waiting in
    later_half s (state_of c.settle.new.self) c.args.released.now.items c.settle.new.released.items sound c.in-Err.ensures.err
