-- What the answers of `scan_state` and `decode_state` say of the bytes.
use Rattle.std.proofs.Common.{◌≡◌, ℕ, List, ◌++◌, length, drop, Result, Ok, Err, refl, sym, ap, ◌∙◌}
use Rattle.std.specs.Prelude.{IsOk, IfOk}
use Rattle.context_vector.specs.Contexts.{ContextData, AreCounts}
use Rattle.wire_codec.specs.declared.state_answers.DecodedState.{DecodedState}
use Rattle.wire_codec.specs.declared.state_answers.DecodedState.TheVariants as decoded
use Rattle.wire_codec.specs.declared.fault.Fault.{Fault}
use Rattle.wire_codec.specs.declared.fault.Unread.{Unread}
use Rattle.wire_codec.specs.declared.fault.Unread.TheVariants.{More, Bad}
use Rattle.wire_codec.specs.declared.rules.LentContext.{LentContext}
use Rattle.wire_codec.specs.Reading.{fault}
use Rattle.wire_codec.specs.Code.Lent.{state_as}
use Rattle.wire_codec.specs.States.{state_bytes, IsState, judge_state, HasState, IsBadState, state_scan_of, state_judgement_of, SaysOfState, TellsOfState}
use Rattle.wire_codec.proofs.Steps.{IsBytes}
use Rattle.wire_codec.proofs.StateJudgement.{state_takes, state_again, state_stays, state_more, state_within}

-- a state is judged to be there, whatever follows it
pub state_only : (bytes : List ℕ) (c : ContextData) (rest : List ℕ) → IsState c → bytes ≡ state_bytes c ++ rest
    → judge_state bytes ≡ Ok (c, length (state_bytes c))
state_only bytes c rest is e = ap judge_state e ∙ state_again c rest is

-- no continuation of bad bytes begins with a state
never_a_state : (bytes more : List ℕ) (f : Fault) → judge_state bytes ≡ Err (Bad f) → ¬ HasState (bytes ++ more)
never_a_state bytes more f e has =
    let here = has.2 in
    let good = state_only (bytes ++ more) has.0 (drop has.1 (bytes ++ more)) here.is here.parts in
    let bad = state_stays bytes more (Err (Bad f)) (λ n more_asked. absurd (let never = more_asked in cc)) e in
    absurd (let never = sym good ∙ bad in cc)

state_bad_says : (bytes : List ℕ) (f : Fault) → IsBytes bytes → judge_state bytes ≡ Err (Bad f) → IsBadState bytes f.offset
state_bad_says bytes f fits e = record { within = state_within bytes f fits e; never = λ more. never_a_state bytes more f e }

says_of : (bytes : List ℕ) (j : Result (ContextData × ℕ) Unread) → IsBytes bytes → judge_state bytes ≡ j
    → SaysOfState bytes (state_scan_of j)
says_of bytes (Ok x) fits e = (x.0, state_takes bytes x.0 x.1 fits e)
says_of bytes (Err (More n)) fits e = state_more bytes n fits e
says_of bytes (Err (Bad f)) fits e = state_bad_says bytes f fits e

pub state_says : (bytes : List ℕ) → IsBytes bytes → SaysOfState bytes (state_scan_of (judge_state bytes))
state_says bytes fits = says_of bytes (judge_state bytes) fits refl

pub state_tells : (bytes : List ℕ) (d : DecodedState) → IsBytes bytes → state_judgement_of d ≡ judge_state bytes → TellsOfState bytes d
state_tells bytes (decoded.Got vector used) fits e = state_takes bytes vector.set used fits (sym e)
state_tells bytes (decoded.More n) fits e = state_more bytes n fits (sym e)
state_tells bytes (decoded.Bad cause offset) fits e = state_bad_says bytes (fault cause offset) fits (sym e)

-- the counts of a state that was judged good
pub state_counts : (bytes : List ℕ) (judged : Result (LentContext × ℕ) Unread) → IsBytes bytes → state_as judged ≡ judge_state bytes
    → IfOk judged (λ p. AreCounts 0 p.0.counts)
state_counts bytes (Ok p) fits e = (state_takes bytes _ p.1 fits (sym e)).is.is.counts
state_counts bytes (Err r) fits e = tt

-- out of memory only where there is a state
pub judged_state : (bytes : List ℕ) (judged : Result (LentContext × ℕ) Unread) → IsBytes bytes → state_as judged ≡ judge_state bytes
    → IsOk judged → HasState bytes
judged_state bytes (Ok p) fits e ok = (_, p.1, state_takes bytes _ p.1 fits (sym e))
judged_state bytes (Err r) fits e ok = absurd (let no = ok in cc)
