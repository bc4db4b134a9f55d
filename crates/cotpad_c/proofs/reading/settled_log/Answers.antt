use Rattle.std.proofs.Common.{◌≡◌, ℕ, inl, inr, List, ◌++◌, sym, ap, subst, ◌∙◌, length, arith}
use Rattle.std.proofs.lemmas.Bool.{cases_lt}
use Rattle.causal_gate.specs.Waiting.{AreApart}
use Rattle.cot_site.specs.Sites.{state_of}
use Rattle.cot_site.specs.States.{State}
use Rattle.cot_site.specs.Releases.{IsSound}
use Rattle.session_log.specs.declared.reading.TheConstants.{MAX_LOG}
use Rattle.session_log.specs.Logs.{log_of}
use Rattle.cotpad_c.specs.Saving.{Loads}
use Rattle.cotpad_c.proofs.SavedLogs.{handed_out, log_loads}
use Rattle.cotpad_c.proofs.reading.settled_log.Goals as goal

pub returns-in-Ok-clause-loads : goal.returns-in-Ok-clause-loads
returns-in-Ok-clause-loads c = λ ok.
    let s : State = state_of c.args.site.now in
    let sound : IsSound s =
    record { number = c.known.ensures.number; history = c.known.ensures.history; waiting = c.known.ensures.waiting } in
    let apart : AreApart s.waiting = subst AreApart c.pool.ensures c.known-2.ensures.apart in
    let bytes : List ℕ = c.as_slice.result.now in
    let is : bytes ≡ log_of s.history s.waiting =
    c.as_slice.ensures.value ∙ c.in-Ok.ensures.ok
    ∙ ap (λ (front : List ℕ). front ++ log_of s.history s.waiting) c.new-bytes.ensures.items in
    elim (cases_lt MAX_LOG (length bytes)) [
      | inl long ↦ absurd (omega (arith, (c.hand_out_log.ensures.long long).0, ok))
      | inr short ↦
          let whole =
          handed_out c.hand_out_log.result bytes c.args.out.now c.hand_out_log.new.out c.hand_out_log.new.needed
          (c.hand_out_log.ensures.wrote short) ok in
          subst (λ (it : List ℕ). Loads it s) (sym whole) (log_loads s bytes c.round_trip.ensures sound c.requires apart is short)
    ]
