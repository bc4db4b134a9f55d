-- What a command appended to its output is written, and replies to what the source had.
use Rattle.std.proofs.Common.{◌≡◌, Bool, true, Option, None, Some, List, ℕ, [], ◌++◌, refl, ap, subst, ◌∙◌, inl, inr}
use Rattle.std.specs.Prelude.{IfSome}
use Rattle.std.specs.Io.KnownBytes.{Appends}
use Rattle.outside_io.specs.Writing.{WritesFront}
use Rattle.cot_site.specs.States.{State}
use Rattle.script_text.specs.Report.{Report}
use Rattle.log_replies.specs.Answers.{IsAppended, IsReplied, IsPartlyReplied}
use Rattle.log_replies.specs.Replies.{IsLoadedAs, RepliesToLogBy, refusing, IsRefusedInto}

-- ---- what is appended

-- where a state has one reply, this is appended
pub once_replied : (to_state : State → Report) (s : State) (old new : List ℕ) (refused : Bool) → new ≡ old ++ (to_state s).written
    → (to_state s).refused ≡ refused
    → IsAppended (λ t reply. reply ≡ to_state t) refused s old new
once_replied to_state s old new refused added is = record { reply = to_state s; right = refl; told = is; appended = added }

-- a site that was loaded from these bytes is replied to
pub state_replied : (replies : List ℕ → Report → Type 0) (site : ℕ) (ToState : State → Report → Type 0) (s : State) (left : Option (List ℕ))
    (old middle new : List ℕ) (refused : Bool)
    → ((bytes : List ℕ) (reply : Report) → RepliesToLogBy site ToState bytes reply → replies bytes reply)
    → IfSome left (λ bytes. IsLoadedAs site bytes s) → middle ≡ old → IsAppended ToState refused s middle new
    → IfSome left (λ bytes. IsAppended replies refused bytes old new)
state_replied replies site ToState s None old middle new refused by loaded same a = tt
state_replied replies site ToState s (Some bytes) old middle new refused by loaded same a = record {
  reply = a.reply;
  right = by bytes a.reply (inr (s, loaded, a.right));
  told = a.told;
  appended = a.appended ∙ ap (λ xs. xs ++ a.reply.written) same;
}

-- bytes that are refused are replied by their line
pub line_replied : (replies : List ℕ → Report → Type 0) (site : ℕ) (ToState : State → Report → Type 0) (left : Option (List ℕ))
    (old new : List ℕ)
    → ((bytes : List ℕ) (reply : Report) → RepliesToLogBy site ToState bytes reply → replies bytes reply)
    → IfSome left (λ bytes. IsRefusedInto site bytes old new)
    → IfSome left (λ bytes. IsAppended replies true bytes old new)
line_replied replies site ToState None old new by refused = tt
line_replied replies site ToState (Some bytes) old new by (line, is, added) = record {
  reply = refusing line;
  right = by bytes (refusing line) (inl (line, is, refl));
  told = refl;
  appended = added;
}

-- ---- what is written

-- the reply to what the source had was written
pub replied : (replies : List ℕ → Report → Type 0) (held now left : Option (List ℕ)) (answer refused : Bool) (before piece new : List ℕ)
    → refused ≡ answer → piece ≡ new → before ≡ []
    → IfSome left (λ bytes. IsAppended replies refused bytes before new)
    → Appends held now piece
    → IfSome left (IsReplied replies answer held now)
replied replies held now None answer refused before piece new is same none a written = tt
replied replies held now (Some bytes) answer refused before piece new is same none a written = record {
  reply = a.reply;
  right = a.right;
  told = a.told ∙ is;
  written = subst (Appends held now) (same ∙ a.appended ∙ ap (λ xs. xs ++ a.reply.written) none) written;
}

-- a front of it was
pub partly_replied : (replies : List ℕ → Report → Type 0) (held now left : Option (List ℕ)) (refused : Bool) (before piece new : List ℕ)
    → piece ≡ new → before ≡ []
    → IfSome left (λ bytes. IsAppended replies refused bytes before new)
    → WritesFront held now piece
    → IfSome left (IsPartlyReplied replies held now)
partly_replied replies held now None refused before piece new same none a written = tt
partly_replied replies held now (Some bytes) refused before piece new same none a written = record {
  reply = a.reply;
  right = a.right;
  front = subst (WritesFront held now) (same ∙ a.appended ∙ ap (λ xs. xs ++ a.reply.written) none) written;
}
