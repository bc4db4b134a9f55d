-- What the past text of a set is written, and why a set has none.
use Rattle.std.proofs.Common.{◌≡◌, ◌≢◌, ℕ, true, false, List, ◌++◌, length, inl, inr, refl, ap, sym, ◌∙◌}
use Rattle.lane_rank.specs.Texts.{starts_of}
use Rattle.context_vector.specs.Contexts.{ContextData, IsContext}
use Rattle.context_diff.specs.Operations.{OpData}
use Rattle.context_diff.specs.ClosedContexts.{IsClosedContext}
use Rattle.context_diff.specs.Replays.{characters_of, text_of}
use Rattle.cot_site.specs.States.{State}
use Rattle.past_view.specs.declared.past.AtBad.{AtBad}
use Rattle.past_view.specs.declared.past.AtBad.TheVariants as bad
use Rattle.past_view.specs.Pasts.{sub, IsRefusal}
use Rattle.past_view.proofs.CallerLemmas.{closed_accepted, one_refusal, starts_all}
use Rattle.script_text.specs.Report.{Report, shown_text}
use Rattle.session_log.specs.Laws.{OneRefusal, OneLoading}
use Rattle.log_replies.specs.Answers.{IsAppended}
use Rattle.log_replies.specs.Replies.{refusing}
use Rattle.log_replies.specs.PastTexts.{IsShownAtIn, past_reply, refused_at_text}
use Rattle.log_replies.specs.Laws.{OnePast}
use Rattle.log_replies.proofs.OneReply.{one_reply_by}

pub past_chars : (h : List OpData) (c : ContextData) (text : List ℕ) → text ≡ text_of (sub h c)
    → starts_of text ≡ length (characters_of (sub h c))
past_chars h c text is = ap starts_of is ∙ starts_all (characters_of (sub h c))

-- the lines of the text at a closed set were appended
pub past_replied : (c : ContextData) (s : State) (chars : ℕ) (text old new : List ℕ) → IsClosedContext s.history c
    → text ≡ text_of (sub s.history c) → chars ≡ starts_of text → new ≡ old ++ shown_text chars text
    → IsAppended (IsShownAtIn c) false s old new
past_replied c s chars text old new closed is counted written = record {
  reply = past_reply c s;
  right = inl (closed, refl);
  told = refl;
  appended = written ∙ ap (λ (n : ℕ). old ++ shown_text n text) (counted ∙ past_chars s.history c text is)
      ∙ ap (λ (t : List ℕ). old ++ shown_text (length (characters_of (sub s.history c))) t) is;
}

-- the line of a set that has none was
pub past_refused : (c : ContextData) (s : State) (why : AtBad) (old new : List ℕ) → IsRefusal s.history c why → why ≢ bad.Memory
    → new ≡ old ++ refused_at_text why → IsAppended (IsShownAtIn c) true s old new
past_refused c s why old new is known written = record {
  reply = refusing (refused_at_text why);
  right = inr (why, known, is, refl);
  told = refl;
  appended = written;
}

-- the state has one reply
one_shown : (c : ContextData) → IsContext c → (s : State) (a b : Report) → IsShownAtIn c s a → IsShownAtIn c s b → a ≡ b
one_shown c is s a b (inl x) (inl y) = x.1 ∙ sym y.1
one_shown c is s a b (inl x) (inr (why, known, refused, told)) = absurd (closed_accepted s.history c is why known x.0 refused)
one_shown c is s a b (inr (why, known, refused, told)) (inl y) = absurd (closed_accepted s.history c is why known y.0 refused)
one_shown c is s a b (inr (why, known, refused, told)) (inr (other, also, unshown, said)) =
    told ∙ ap (λ (w : AtBad). refusing (refused_at_text w)) (one_refusal s.history c is why other known also refused unshown) ∙ sym said

pub one_past : OneRefusal → OneLoading → OnePast
one_past refusal loading = λ c is bytes a b x y. one_reply_by refusal loading 0 (IsShownAtIn c) (one_shown c is) bytes a b x y
