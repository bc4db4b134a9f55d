-- The log of a state is replied, unless it is too long to be read again.
use Rattle.std.proofs.Common.{◌≡◌, ℕ, ◌≤◌, ◌<◌, Bool, true, false, List, ◌++◌, refl, ap, subst, sym, ◌∙◌, length, take, arith}
use Rattle.std.specs.Prelude.{◌-◌, Result, Ok}
use Rattle.std.proofs.lemmas.Bool.{cond-true, cond-false, le-leb, lt-leb}
use Rattle.std.proofs.lemmas.List.{length-append}
use Rattle.std.proofs.Math.Seq.{take-append_seam}
use Rattle.cot_site.specs.States.{State}
use Rattle.site_answers.specs.declared.local.Local.{Local}
use Rattle.script_text.specs.Report.{Report}
use Rattle.session_log.specs.declared.reading.TheConstants.{MAX_LOG}
use Rattle.session_log.specs.Logs.{log_of}
use Rattle.log_replies.specs.Answers.{IsAppended}
use Rattle.log_replies.specs.Replies.{accepting, refusing, too_long_text, log_reply, edit_reply}
use Rattle.log_replies.specs.Code.Editing.{IsEditReply}
use Rattle.log_replies.proofs.Answering.{once_replied}

-- the bytes of the log
abbrev log_in : State → List ℕ
log_in s = log_of s.history s.waiting

pub log_short : (s : State) (old new : List ℕ) (len : ℕ) → new ≡ old ++ log_in s → len ≡ length new - length old → len ≤ MAX_LOG
    → IsAppended (λ t reply. reply ≡ log_reply t) false s old new
log_short s old new len is count short =
    let few : length (log_in s) ≤ MAX_LOG = omega (arith, ap length is, length-append old (log_in s), count, short) in
    let same : log_reply s ≡ accepting (log_in s) = cond-true _ _ _ (le-leb (length (log_in s)) MAX_LOG few) in
    once_replied log_reply s old new false (is ∙ ap (λ (r : Report). old ++ r.written) (sym same)) (ap (λ (r : Report). r.refused) same)

pub log_long : (s : State) (old whole left new : List ℕ) (len : ℕ) → whole ≡ old ++ log_in s → len ≡ length whole - length old
    → MAX_LOG < len → left ≡ take (length old) whole → new ≡ left ++ too_long_text len
    → IsAppended (λ t reply. reply ≡ log_reply t) true s old new
log_long s old whole left new len is count long back line =
    let all : len ≡ length (log_in s) = omega (arith, ap length is, length-append old (log_in s), count) in
    let over : MAX_LOG < length (log_in s) = subst (λ (n : ℕ). MAX_LOG < n) all long in
    let same : log_reply s ≡ refusing (too_long_text (length (log_in s))) = cond-false _ _ _ (lt-leb (length (log_in s)) MAX_LOG over) in
    let kept : left ≡ old = back ∙ ap (take (length old)) is ∙ take-append_seam old (log_in s) in
    once_replied log_reply s old new true
    (line ∙ ap (λ (t : List ℕ). t ++ too_long_text len) kept ∙ ap (λ (n : ℕ). old ++ too_long_text n) all
    ∙ ap (λ (r : Report). old ++ r.written) (sym same))
    (ap (λ (r : Report). r.refused) same)

-- an edit is replied by the log of the edited site
pub edit_logged : (edited : Result State Local) (s : State) (old new : List ℕ) (refused : Bool) → edited ≡ Ok s
    → IsAppended (λ t reply. reply ≡ log_reply t) refused s old new → IsEditReply edited old new refused
edit_logged edited s old new refused is a =
    let same : a.reply ≡ edit_reply edited = a.right ∙ ap edit_reply (sym is) in
    record {
      written = a.appended ∙ ap (λ (r : Report). old ++ r.written) same;
      told = ap (λ (r : Report). r.refused) (sym same) ∙ a.told;
    }
