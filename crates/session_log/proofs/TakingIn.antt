-- Taking in the operations of a log, one after the other.
use Rattle.std.proofs.Common.{◌≡◌, ◌≢◌, false, List, [], ◌∷◌, ◌++◌, refl, ap, sym, subst, ◌∙◌, append_assoc}
use Rattle.std.specs.Prelude.{ℕ, Some, None}
use Rattle.std.proofs.lemmas.Bool.{cond-true, cond-false}
use Rattle.std.proofs.lemmas.Option.{none-some}
use Rattle.context_diff.specs.Operations.{OpData}
use Rattle.wire_codec.specs.declared.version.Version.{Version}
use Rattle.cot_site.specs.States.{State, judged}
use Rattle.participant.specs.Reached.{from, with_delivered, all_settled}
use Rattle.participant.specs.Taking.{is_refusal}
use Rattle.site_answers.specs.declared.release.Release.{Release}
use Rattle.session_log.specs.declared.log_bad.LogBad.{LogBad}
use Rattle.session_log.specs.declared.log_bad.LogBad.TheVariants as bad
use Rattle.session_log.specs.Logs.{BeginsWith, offset_after, IsLogOf}
use Rattle.session_log.specs.Loadings.{led_to, first_refusal, verdicts_after, after_one, IsRefusal, after_all, AreTakenIn, new_state, IsLoaded, IsFirstRefusal, IsUnloaded}
use Rattle.session_log.specs.Code.Passing.{LeftData, PassesOver, HasNoStep}
use Rattle.session_log.proofs.Frames.{IsPassed, passed_more, passed_end, unread, log_continues, log_as, one_log, log_no_fault}

-- ---- one operation

-- one that isn't refused is delivered, and all that is ready then is released
pub led_unrefused : (s : State) (o : OpData) → is_refusal (judged s o) ≡ false → led_to s o ≡ all_settled (with_delivered (from s) o)
led_unrefused s o fine = cond-true _ _ _ (cond-false _ _ _ fine)

-- after one that isn't refused, the first refusal is that of a release
pub first_released : (s : State) (o : OpData) (rs : List Release)
    → is_refusal (judged s o) ≡ false → rs ≡ (led_to s o).released → first_refusal (verdicts_after s o) ≡ first_refusal rs
first_released s o rs fine is = cond-false _ _ _ fine ∙ ap first_refusal (sym is)

-- ---- one operation after the other

pub after-append : (s : State) (fs bs : List OpData) → after_all s (fs ++ bs) ≡ after_all (after_all s fs) bs
after-append s [] bs = refl
after-append s (a ∷ fs) bs = after-append (after_one s a) fs bs

pub taken-append : (s : State) (fs bs : List OpData) → AreTakenIn s fs → AreTakenIn (after_all s fs) bs → AreTakenIn s (fs ++ bs)
taken-append s [] bs first rest = rest
taken-append s (a ∷ fs) bs first rest = (first.0, taken-append (after_one s a) fs bs first.1 rest)

pub taken_one : (s : State) (fs : List OpData) (o : OpData) (bs : List OpData) → AreTakenIn s (fs ++ o ∷ bs)
    → first_refusal (verdicts_after (after_all s fs) o) ≡ None
taken_one s [] o bs all = all.0
taken_one s (a ∷ fs) o bs all = taken_one (after_one s a) fs o bs all.1

pub taken_back : (s : State) (fs bs : List OpData) → AreTakenIn s (fs ++ bs) → AreTakenIn (after_all s fs) bs
taken_back s [] bs all = all
taken_back s (a ∷ fs) bs all = taken_back (after_one s a) fs bs all.1

-- one more is taken in
pub taken_more : (site : ℕ) (ops : List OpData) (o : OpData) (s t : State) → AreTakenIn (new_state site) ops
    → s ≡ after_all (new_state site) ops → first_refusal (verdicts_after s o) ≡ None → t ≡ after_one s o
    → AreTakenIn (new_state site) (ops ++ o ∷ []) × (t ≡ after_all (new_state site) (ops ++ o ∷ []))
taken_more site ops o s t taken state none is =
    let none_at : first_refusal (verdicts_after (after_all (new_state site) ops) o) ≡ None =
    ap (λ (x : State). first_refusal (verdicts_after x o)) (sym state) ∙ none in (
      taken-append (new_state site) ops (o ∷ []) taken (none_at, tt),
      is ∙ ap (λ (x : State). after_one x o) state ∙ sym (after-append (new_state site) ops (o ∷ [])),
    )

-- the operation after these is refused
pub refused_at : (site : ℕ) (v : Version) (bytes next : List ℕ) (ops : List OpData) (o : OpData) (log : List OpData) (s : State)
    (offset : ℕ) (r : Release)
    → BeginsWith v bytes (ops ++ o ∷ []) next → IsLogOf bytes log → AreTakenIn (new_state site) ops → s ≡ after_all (new_state site) ops
    → offset ≡ offset_after v ops → first_refusal (verdicts_after s o) ≡ Some r
    → IsFirstRefusal site bytes offset r
refused_at site v bytes next ops o log s offset r begins is_log taken state place first =
    let f = log_continues v bytes (ops ++ o ∷ []) log next begins is_log in
    let parts : log ≡ ops ++ o ∷ f.others = f.parts ∙ append_assoc ops (o ∷ []) f.others in
    let whole = log_as v bytes (ops ++ o ∷ []) log next begins is_log in
    record {
      before = ops;
      op = o;
      behind = f.others;
      log = record { version = v; begins = subst (λ (os : List OpData). BeginsWith v bytes os []) parts whole };
      place = place;
      taken = taken;
      first = ap (λ (x : State). first_refusal (verdicts_after x o)) (sym state) ∙ first;
    }

-- ---- on the way

-- these operations were passed over and taken in
pub record IsLoading (site : ℕ) (bytes : List ℕ) (left : LeftData) (s : State) : Type 0 where
  pub ops : List OpData
  pub passed : IsPassed bytes ops left
  pub taken : AreTakenIn (new_state site) ops
  pub state : s ≡ after_all (new_state site) ops

pub loading_more : (site : ℕ) (bytes : List ℕ) (left next : LeftData) (s t : State) (o : OpData) → IsLoading site bytes left s
    → PassesOver left o next → first_refusal (verdicts_after s o) ≡ None → t ≡ after_one s o → IsLoading site bytes next t
loading_more site bytes left next s t o w step none is =
    let more = taken_more site w.ops o s t w.taken w.state none is in
    record {
      ops = w.ops ++ o ∷ [];
      passed = passed_more bytes w.ops o left next w.passed step;
      taken = more.0;
      state = more.1;
    }

pub loading_end : (site : ℕ) (bytes : List ℕ) (left : LeftData) (s : State) → IsLoading site bytes left s → left.bytes ≡ []
    → IsLoaded site bytes s
loading_end site bytes left s w none = record {
  ops = w.ops;
  log = passed_end bytes w.ops left w.passed none;
  taken = w.taken;
  state = w.state;
}

-- a log has no fault, so what is left of it is passed over, unless memory is wanted
pub loading_stopped : (site : ℕ) (bytes : List ℕ) (left : LeftData) (s : State) (why : LogBad) → ((os : List OpData) × IsLogOf bytes os)
    → IsLoading site bytes left s → HasNoStep left why → IsUnloaded site bytes why
loading_stopped site bytes left s bad.Header log w no_step = absurd no_step
loading_stopped site bytes left s (bad.Cut offset) log w no_step = unread bytes w.ops left (bad.Cut offset) w.passed no_step
loading_stopped site bytes left s (bad.Bad offset cause) log w no_step = unread bytes w.ops left (bad.Bad offset cause) w.passed no_step
loading_stopped site bytes left s (bad.Refused offset member verdict) log w no_step = absurd no_step
loading_stopped site bytes left s bad.Memory log w no_step = log

-- the first refusal
pub loading_refused : (site : ℕ) (bytes : List ℕ) (left next : LeftData) (s : State) (o : OpData) (why : LogBad)
    → ((os : List OpData) × IsLogOf bytes os) → IsLoading site bytes left s → PassesOver left o next
    → IsRefusal left.offset (verdicts_after s o) why → IsUnloaded site bytes why
loading_refused site bytes left next s o bad.Header log w step refusal = absurd refusal
loading_refused site bytes left next s o (bad.Cut offset) log w step refusal = absurd refusal
loading_refused site bytes left next s o (bad.Bad offset cause) log w step refusal = absurd refusal
loading_refused site bytes left next s o (bad.Refused offset member verdict) log w step (place, first) =
    let at : offset ≡ offset_after next.version w.ops =
    place ∙ w.passed.place ∙ ap (λ (v : Version). offset_after v w.ops) (sym step.version) in
    refused_at site next.version bytes next.bytes w.ops o log.0 s offset (record { member = member; verdict = verdict })
    (passed_more bytes w.ops o left next w.passed step).begins log.1 w.taken w.state at first
loading_refused site bytes left next s o bad.Memory log w step refusal = log

-- ---- one loading

pub one_loaded : (site : ℕ) (bytes : List ℕ) (s t : State) → IsLoaded site bytes s → IsLoaded site bytes t → t ≡ s
one_loaded site bytes s t a b =
    b.state ∙ ap (λ (os : List OpData). after_all (new_state site) os) (one_log bytes b.ops a.ops b.log a.log) ∙ sym a.state

pub loaded_not_refused : (site : ℕ) (bytes : List ℕ) (s : State) → IsLoaded site bytes s → (why : LogBad) → why ≢ bad.Memory
    → ¬ IsUnloaded site bytes why
loaded_not_refused site bytes s w bad.Header apart u = log_no_fault bytes w.ops bad.Header w.log apart u
loaded_not_refused site bytes s w (bad.Cut offset) apart u = log_no_fault bytes w.ops (bad.Cut offset) w.log apart u
loaded_not_refused site bytes s w (bad.Bad offset cause) apart u = log_no_fault bytes w.ops (bad.Bad offset cause) w.log apart u
loaded_not_refused site bytes s w (bad.Refused offset member verdict) apart u =
    let same = one_log bytes w.ops (u.before ++ u.op ∷ u.behind) w.log u.log in
    let all : AreTakenIn (new_state site) (u.before ++ u.op ∷ u.behind) = subst (AreTakenIn (new_state site)) same w.taken in
    none-some (record { member = member; verdict = verdict }) (sym (taken_one (new_state site) u.before u.op u.behind all) ∙ u.first)
loaded_not_refused site bytes s w bad.Memory apart u = apart refl
