-- Generated sessions event by event.
use Rattle.std.proofs.Common.{◌≡◌, ℕ, suc, ◌+◌, Bool, true, false, refl, ap, sym, ◌∙◌, arith, length}
use Rattle.session_replay.specs.declared.draws.Draw.{Draw}
use Rattle.session_replay.specs.Steps.{last_of}
use Rattle.session_replay.specs.Sessions.{SessionData, opened, synced}
use Rattle.session_replay.specs.Generating.{Plan, draws_from, number_after, turn_of, is_due, synced_if, acted, generating}

next_is : (k : ℕ) → suc k ≡ k + 1
next_is k = omega arith

-- the event of number k, and the deliveries after it if they are due
pub session_next : (p : Plan) (k : ℕ) (d after : SessionData) (n : ℕ) (r : Draw) → d ≡ (generating p k).session
    → n ≡ (generating p k).number → r ≡ draws_from n → after ≡ acted (turn_of p k) r d
    → synced_if (is_due p (k + 1)) after ≡ (generating p (k + 1)).session
unfolding generating
session_next p k d after n r session number draws does =
    let drawn : r ≡ draws_from (generating p k).number = draws ∙ ap draws_from number in
    ap (λ m. synced_if (is_due p m) after) (sym (next_is k))
    ∙ (ap (synced_if (is_due p (suc k))) (does ∙ (λ i. acted (turn_of p k) (drawn i) (session i)))
    ∙ ap (λ m. (generating p m).session) (next_is k))

pub number_next : (p : Plan) (k n m : ℕ) → n ≡ (generating p k).number → m ≡ number_after n → m ≡ (generating p (k + 1)).number
unfolding generating
number_next p k n m number after = after ∙ (ap number_after number ∙ ap (λ j. (generating p j).number) (next_is k))

pub synced_due : (due : Bool) (d now : SessionData) → due ≡ true → now ≡ last_of d (synced 0 (length d.sites) d) → now ≡ synced_if due d
synced_due true d now is at = at
synced_due false d now is at = absurd cc

pub not_due : (due : Bool) (d : SessionData) → due ≡ false → d ≡ synced_if due d
not_due true d is = absurd cc
not_due false d is = refl

-- no event yet
pub generating_none : (p : Plan) → ((generating p 0).session ≡ opened p.sites) × ((generating p 0).number ≡ p.start)
unfolding generating
generating_none p = (refl, refl)
