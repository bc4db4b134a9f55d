use Rattle.std.proofs.Common.{◌≡◌, Bool, true, false, refl, ap, sym, ◌∙◌}
use Rattle.std.specs.Prelude.{not}
use Rattle.std.proofs.lemmas.Bool.{true≢false}
use Rattle.cot_site.specs.Sites.{state_of}
use Rattle.cot_site.specs.States.{State}
use Rattle.cot_site.specs.Releases.{IsSound}
use Rattle.cotpad_c.proofs.SavedLogs.{none_found}
use Rattle.cotpad_c.proofs.reading.is_settled.Goals as goal

true_of_not : (b : Bool) → not b ≡ false → b ≡ true
true_of_not true e = refl
true_of_not false e = absurd (true≢false e)

pub returns : goal.returns
returns c =
    let s : State = state_of c.args.site.now in
    let sound : IsSound s =
    record { number = c.known.ensures.number; history = c.known.ensures.history; waiting = c.known.ensures.waiting } in
    let found =
    none_found s c.vector.result.now.set c.pool.result.now c.known.ensures.history c.vector.ensures c.pool.ensures
    (c.settled_states_have_none_ready.ensures s sound) in (
      λ none. found.0 (c.first_ready.ensures.none.0 (c.is_none.ensures ∙ ap not none)),
      λ settled. true_of_not c.is_none.result (sym c.is_none.ensures ∙ c.first_ready.ensures.none.1 (found.1 settled)),
    )
