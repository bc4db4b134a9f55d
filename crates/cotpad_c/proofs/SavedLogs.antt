-- Which sites are settled, and that their logs are loaded again.
use Rattle.std.proofs.Common.{◌≡◌, ◌↔◌, ◌≤◌, ℕ, inl, inr, List, sym, ap, subst, ◌∙◌, length, take, drop}
use Rattle.std.specs.Prelude.{Contains}
use Rattle.std.proofs.Math.Seq.{take-append_seam}
use Rattle.context_vector.specs.Contexts.{ContextData}
use Rattle.context_diff.specs.Operations.{OpData, member_of}
use Rattle.context_diff.specs.Histories.{IsValid, context_of_all}
use Rattle.context_diff.proofs.CallerLemmas.{complete}
use Rattle.causal_gate.specs.Waiting.{NoneReady, AreApart}
use Rattle.causal_gate.specs.Waiting as gate
use Rattle.cot_site.specs.States.{State, IsReady, NoneIsReady, IsSettled}
use Rattle.cot_site.specs.Releases.{IsSound}
use Rattle.session_log.specs.declared.reading.TheConstants.{MAX_LOG}
use Rattle.session_log.specs.Logs.{log_of}
use Rattle.session_log.specs.Loadings.{IsLoaded}
use Rattle.session_log.specs.Laws.{RoundTrip}
use Rattle.cotpad_c.specs.declared.status.TheConstants.{OK}
use Rattle.cotpad_c.specs.Statuses.{Wrote}
use Rattle.cotpad_c.specs.Saving.{Loads}

-- ---- readiness, as a pool tells it and as a state does

ready_there : (h : List OpData) (o : OpData) → IsValid h → IsReady h o → gate.IsReady (context_of_all h) o
ready_there h o valid (inl known) = inl ((complete h valid).holds (member_of o) ∙ known)
ready_there h o valid (inr lacks) = inr (λ m at. (complete h valid).holds m ∙ lacks m at)

ready_here : (h : List OpData) (o : OpData) → IsValid h → gate.IsReady (context_of_all h) o → IsReady h o
ready_here h o valid (inl known) = inl (sym ((complete h valid).holds (member_of o)) ∙ known)
ready_here h o valid (inr within) = inr (λ m at. sym ((complete h valid).holds m) ∙ within m at)

-- the pool finds none ready exactly where the state is settled
pub none_found : (s : State) (have : ContextData) (w : List OpData) → IsValid s.history → have ≡ context_of_all s.history → w ≡ s.waiting
    → IsSettled s ↔ NoneIsReady s → NoneReady have w ↔ IsSettled s
none_found s have w valid is there law = (
  λ none. law.1 (λ o at ready. none o (subst (λ (x : List OpData). Contains x o) (sym there) at)
      (subst (λ (x : ContextData). gate.IsReady x o) (sym is) (ready_there s.history o valid ready))),
  λ settled o at ready. law.0 settled o (subst (λ (x : List OpData). Contains x o) there at)
      (ready_here s.history o valid (subst (λ (x : ContextData). gate.IsReady x o) is ready)),
)

-- ---- logs

-- what was handed out are the bytes
pub handed_out : (n : ℕ) (bytes old new : List ℕ) (needed : ℕ) → Wrote n bytes old new needed → n ≡ OK → take needed new ≡ bytes
handed_out n bytes old new needed w ok =
    ap (λ (k : ℕ). take k new) w.count ∙ ap (take (length bytes)) (w.all ok) ∙ take-append_seam bytes (drop (length bytes) old)

pub log_loads : (s : State) (bytes : List ℕ) → RoundTrip → IsSound s → IsSettled s → AreApart s.waiting → bytes ≡ log_of s.history s.waiting
    → length bytes ≤ MAX_LOG → Loads bytes s
log_loads s bytes law sound settled apart is short =
    record {
      short = short;
      loaded =
          λ number. subst (λ (b : List ℕ). IsLoaded number b (record s { number = number })) (sym is) (law s number sound settled apart);
    }
