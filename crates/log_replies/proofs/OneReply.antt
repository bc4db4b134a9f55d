-- The bytes of a log decide the reply to it.
use Rattle.std.proofs.Common.{◌≡◌, ℕ, inl, inr, List, ap, sym, subst, ◌∙◌, arith}
use Rattle.std.proofs.lemmas.Bool.{true≢false}
use Rattle.op_name.specs.declared.member.Member.{Member}
use Rattle.trace_explain.specs.Laws.{OneTrace}
use Rattle.cot_site.specs.States.{State}
use Rattle.session_log.specs.Laws.{OneRefusal, OneLoading}
use Rattle.session_log.specs.Words.{refused_log_text}
use Rattle.script_text.specs.Report.{Report}
use Rattle.log_replies.specs.Replies.{RepliesToLog, RepliesToLogBy, IsRefusal, IsLoadedAs, accepting, refusing}
use Rattle.log_replies.specs.Explaining.{IsExplainedIn, lines_text}
use Rattle.log_replies.specs.Laws.{OneExplanation}

-- the line that refuses the bytes
one_line : OneRefusal → (site : ℕ) (bytes a b : List ℕ) → IsRefusal site bytes a → IsRefusal site bytes b → a ≡ b
one_line refusal site bytes a b (inl x) (inl y) = x.1 ∙ sym y.1
one_line refusal site bytes a b (inl x) (inr y) = absurd (omega (arith, x.0, y.0))
one_line refusal site bytes a b (inr x) (inl y) = absurd (omega (arith, x.0, y.0))
one_line refusal site bytes a b (inr (short, (why, known, unloaded, line))) (inr (also, (other, said, unread, text))) =
    line ∙ ap refused_log_text (refusal site bytes why other known said unloaded unread) ∙ sym text

-- bytes that are refused aren't loaded
pub not_both : OneLoading → (site : ℕ) (bytes line : List ℕ) (s : State) → IsRefusal site bytes line → IsLoadedAs site bytes s → ⊥
not_both loading site bytes line s (inl x) loaded = omega (arith, x.0, loaded.0)
not_both loading site bytes line s (inr (short, (why, known, unloaded, text))) loaded = (loading site bytes s loaded.1).1 why known unloaded

pub one_reply_by : OneRefusal → OneLoading → (site : ℕ) (ToState : State → Report → Type 0)
    → ((s : State) (a b : Report) → ToState s a → ToState s b → a ≡ b)
    → (bytes : List ℕ) (a b : Report) → RepliesToLogBy site ToState bytes a → RepliesToLogBy site ToState bytes b → a ≡ b
one_reply_by refusal loading site ToState once bytes a b (inl (x, refused, is)) (inl (y, also, same)) =
    is ∙ ap refusing (one_line refusal site bytes x y refused also) ∙ sym same
one_reply_by refusal loading site ToState once bytes a b (inl (x, refused, is)) (inr (t, loaded, same)) =
    absurd (not_both loading site bytes x t refused loaded)
one_reply_by refusal loading site ToState once bytes a b (inr (s, loaded, is)) (inl (y, refused, same)) =
    absurd (not_both loading site bytes y s refused loaded)
one_reply_by refusal loading site ToState once bytes a b (inr (s, loaded, is)) (inr (t, also, same)) =
    once t a b (subst (λ z. ToState z a) (sym ((loading site bytes s loaded.1).0 t also.1)) is) same

pub one_reply : OneRefusal → OneLoading → (site : ℕ) (to_state : State → Report) (bytes : List ℕ) (a b : Report)
    → RepliesToLog site to_state bytes a → RepliesToLog site to_state bytes b → a ≡ b
one_reply refusal loading site to_state bytes a b x y =
    one_reply_by refusal loading site (λ s reply. reply ≡ to_state s) (λ s c d left right. left ∙ sym right) bytes a b x y

-- the state has one reply to `explain`
one_explained : OneTrace → (m : Member) (s : State) (a b : Report) → IsExplainedIn m s a → IsExplainedIn m s b → a ≡ b
one_explained trace m s a b (inl x) (inl y) = x.1 ∙ sym y.1
one_explained trace m s a b (inl x) (inr y) = absurd (true≢false (sym y.0 ∙ x.0))
one_explained trace m s a b (inr x) (inl y) = absurd (true≢false (sym x.0 ∙ y.0))
one_explained trace m s a b (inr (known, (ls, is, left))) (inr (also, (ks, same, right))) =
    left ∙ ap (λ lines. accepting (lines_text s.history 1 lines)) (trace s.history m ls ks is.listed same.listed) ∙ sym right

pub one_explanation : OneRefusal → OneLoading → OneTrace → OneExplanation
one_explanation refusal loading trace =
    λ m bytes a b x y. one_reply_by refusal loading 0 (IsExplainedIn m) (one_explained trace m) bytes a b x y
