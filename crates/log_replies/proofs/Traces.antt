-- Explanations: what was appended is the reply of `explain`.
use Rattle.std.proofs.Common.{◌≡◌, ℕ, suc, ◌+◌, ◌<◌, Bool, true, false, List, [], ◌∷◌, ◌++◌, refl, ap, sym, subst, ◌∙◌, inl, inr, arith, length, take, get_or, append_assoc}
use Rattle.std.specs.Prelude.{IsTrue, Contains, ◌↔◌}
use Rattle.std.proofs.lemmas.Bool.{cases_Bool, false≢true, false_from_ne_true, or_parts}
use Rattle.std.proofs.lemmas.List.{append-nil, take_more, take_all, length-take}
use Rattle.op_name.specs.declared.member.Member.{Member}
use Rattle.op_name.specs.declared.member.Member.TheVariants.{Original, Group}
use Rattle.op_name.specs.NameData.{NameData}
use Rattle.op_name.specs.Members.{member_eq}
use Rattle.context_diff.specs.Operations.{OpData, inserting, deleting, undoing, member_of}
use Rattle.context_diff.specs.Histories.{IsValid, all_cells, is_known}
use Rattle.context_diff.proofs.CallerLemmas.{complete, contains_cases, contains_here, contains_later, contains_none, member_itself, member_same}
use Rattle.fixed_replay.specs.Replayed.{letters_of}
use Rattle.trace_explain.specs.declared.line.TraceLine.{TraceLine}
use Rattle.trace_explain.specs.Traces.{IsTrace}
use Rattle.trace_explain.specs.Listings.{IsTraceOf}
use Rattle.trace_explain.specs.Laws.{EndsInExecutedForm}
use Rattle.cot_site.specs.States.{State}
use Rattle.log_replies.specs.Answers.{IsAppended}
use Rattle.log_replies.specs.Replies.{accepting, refusing}
use Rattle.log_replies.specs.Explaining.{IsExplainedIn, IsExplanation, about, letters_by, line_text, lines_text, unknown_text}

-- the line of this number in the history
abbrev line_in : List OpData → ℕ → TraceLine → List ℕ
line_in h number l = line_text (letters_by h (about l)) number l

lines_text-push : (h : List OpData) (n : ℕ) (ls : List TraceLine) (l : TraceLine)
    → lines_text h n (ls ++ l ∷ []) ≡ lines_text h n ls ++ line_in h (n + length ls) l
lines_text-push h n [] l =
    let here : n ≡ n + length {A = TraceLine} [] = omega arith in
    append-nil (line_in h n l) ∙ ap (λ k. line_in h k l) here
lines_text-push h n (k ∷ ls) l =
    let next : suc n + length ls ≡ n + length (k ∷ ls) = omega arith in
    ap (λ (t : List ℕ). line_in h n k ++ t) (lines_text-push h (suc n) ls l)
    ∙ sym (append_assoc (line_in h n k) (lines_text h (suc n) ls) (line_in h (suc n + length ls) l))
    ∙ ap (λ j. lines_text h n (k ∷ ls) ++ line_in h j l) next

-- the lines before the i-th stand there
abbrev pub AreWritten : List OpData → List ℕ → List TraceLine → ℕ → List ℕ → Type 0
AreWritten h start ls i now = now ≡ start ++ lines_text h 1 (take i ls)

module _ (h : List OpData) (start : List ℕ) (ls : List TraceLine) where
  pub lines_more : (i number : ℕ) (l : TraceLine) (was now : List ℕ) → i < length ls → l ≡ get_or ls i l → number ≡ i + 1
      → AreWritten h start ls i was → now ≡ was ++ line_text (letters_by h (about l)) number l → AreWritten h start ls (i + 1) now
  lines_more i number l was now within at is up put =
      let size : 1 + length (take i ls) ≡ number = let t = length-take i ls in omega (arith, t, is, within) in
      let more : take (i + 1) ls ≡ take i ls ++ l ∷ [] = take_more ls i l within ∙ ap (λ (x : TraceLine). take i ls ++ x ∷ []) (sym at) in
      let text : lines_text h 1 (take (i + 1) ls) ≡ lines_text h 1 (take i ls) ++ line_in h number l =
      ap (lines_text h 1) more ∙ lines_text-push h 1 (take i ls) l ∙ ap (λ k. lines_text h 1 (take i ls) ++ line_in h k l) size in
      put ∙ ap (λ (t : List ℕ). t ++ line_in h number l) up ∙ append_assoc start (lines_text h 1 (take i ls)) (line_in h number l)
      ∙ ap (λ (t : List ℕ). start ++ t) (sym text)

  pub lines_end : (i : ℕ) (now : List ℕ) → ¬ (i < length ls) → AreWritten h start ls i now → now ≡ start ++ lines_text h 1 ls
  lines_end i now past up = up ∙ ap (λ (t : List TraceLine). start ++ lines_text h 1 t) (take_all i ls (omega (arith, past)))

-- the characters that a member brings are those of the one operation that it is
module _ (o : OpData) where
  letters_among : (h : List OpData) → ((p : OpData) → Contains h p → member_of p ≡ member_of o → p ≡ o) → Contains h o
      → letters_by h (member_of o) ≡ letters_of o
  letters_among [] one at = absurd (contains_none o at)
  letters_among (p ∷ ps) one at = elim (cases_Bool (member_eq (member_of p) (member_of o))) [
    | inl same ↦ rw same (ap letters_of (one p (contains_here p ps) (member_same (member_of p) (member_of o) same)))
    | inr other ↦ rw other (elim (contains_cases p ps o at) [
      | inl is ↦ absurd (false≢true (sym other
          ∙ (ap (λ (q : OpData). member_eq (member_of q) (member_of o)) is ∙ member_itself (member_of o))))
      | inr later ↦ letters_among ps (λ q there is. one q (contains_later p ps q there) is) later
    ])
  ]

pub letters_original : (h : List OpData) (n : NameData) (o : OpData) → IsValid h → Contains h o → member_of o ≡ Original n
    → letters_by h (Original n) ≡ letters_of o
letters_original h n o valid at is =
    ap (letters_by h) (sym is) ∙ letters_among o h (λ p there same. (complete h valid).one p o there at same) at

-- a member that isn't there brings none
pub letters_unknown : (h : List OpData) (m : Member) → is_known h m ≡ false → letters_by h m ≡ []
letters_unknown [] m e = refl
letters_unknown (o ∷ os) m e =
    let parts = or_parts (member_eq (member_of o) m) (is_known os m) e in
    rw parts.0 (letters_unknown os m parts.1)

-- and a group neither
pub letters_group : (h : List OpData) (t : NameData) (g : ℕ) → letters_by h (Group t g) ≡ []
letters_group [] t g = refl
letters_group (o ∷ os) t g = elim (cases_Bool (member_eq (member_of o) (Group t g))) [
  | inl same ↦ rw same (grouped o (member_same (member_of o) (Group t g) same))
  | inr other ↦ rw other (letters_group os t g)
]
  where
    grouped : (o : OpData) → member_of o ≡ Group t g → letters_of o ≡ []
    grouped (inserting n p text c) is = cc
    grouped (deleting n p c) is = refl
    grouped (undoing a n k c) is = refl

-- three texts, one after the other
pub three_written : (start a b c one two three : List ℕ) → one ≡ start ++ a → two ≡ one ++ b → three ≡ two ++ c
    → three ≡ start ++ (a ++ (b ++ c))
three_written start a b c one two three first second third =
    third ∙ ap (λ (t : List ℕ). t ++ c) (second ∙ ap (λ (t : List ℕ). t ++ b) first) ∙ append_assoc (start ++ a) b c
    ∙ append_assoc start a (b ++ c)

-- the trace of m is its explanation
pub explanation : (h : List OpData) (m : Member) (lines : List TraceLine) → IsValid h → all_cells h < 4294967296 → EndsInExecutedForm
    → IsTraceOf h m lines → IsTrace h m lines → IsExplanation h m lines
explanation h m lines valid short ends listed right = record {
  listed = listed;
  right = right;
  executed =
      λ forms i f executed at form. ends h forms m i f lines (record { valid = valid; short = omega (arith, short) }) executed at form
      right;
}

-- the lines of the explanation were appended
pub lines_replied : (m : Member) (s : State) (lines : List TraceLine) (old new : List ℕ) → is_known s.history m ≡ true
    → IsExplanation s.history m lines → new ≡ old ++ lines_text s.history 1 lines → IsAppended (IsExplainedIn m) false s old new
lines_replied m s lines old new known is written = record {
  reply = accepting (lines_text s.history 1 lines);
  right = inr (known, (lines, is, refl));
  told = refl;
  appended = written;
}

-- the same of what `trace` gave
pub trace_replied : (h : List OpData) (m : Member) (s : State) (found : Bool) (first items given : List TraceLine) (old new : List ℕ)
    → h ≡ s.history → IsValid h → all_cells h < 4294967296 → EndsInExecutedForm
    → found ≡ true → (IsTrue found ↔ (is_known h m ≡ true)) → first ≡ []
    → (found ≡ true → (lines : List TraceLine) × IsTraceOf h m lines × IsTrace h m lines × (items ≡ first ++ lines))
    → given ≡ items → new ≡ old ++ lines_text h 1 given → IsAppended (IsExplainedIn m) false s old new
trace_replied h m s found first items given old new of valid short ends there known none trace same written =
    let t = trace there in
    let lines : given ≡ t.0 = same ∙ t.3 ∙ ap (λ (ls : List TraceLine). ls ++ t.0) none in
    lines_replied m s t.0 old new
    (ap (λ (k : List OpData). is_known k m) (sym of) ∙ known.0 there)
    (subst (λ (k : List OpData). IsExplanation k m t.0) of (explanation h m t.0 valid short ends t.1 t.2))
    (written ∙ ap (λ (ls : List TraceLine). old ++ lines_text h 1 ls) lines ∙ ap (λ (k : List OpData). old ++ lines_text k 1 t.0) of)

-- the line of a member that isn't integrated was appended
pub unknown_replied : (m : Member) (s : State) (old new : List ℕ) → is_known s.history m ≡ false → new ≡ old ++ unknown_text m
    → IsAppended (IsExplainedIn m) true s old new
unknown_replied m s old new lacking written = record {
  reply = refusing (unknown_text m);
  right = inl (lacking, refl);
  told = refl;
  appended = written;
}

-- the same where `trace` gave nothing
pub nothing_replied : (h : List OpData) (m : Member) (s : State) (found : Bool) (old new : List ℕ)
    → h ≡ s.history → found ≡ false → (IsTrue found ↔ (is_known h m ≡ true)) → new ≡ old ++ unknown_text m
    → IsAppended (IsExplainedIn m) true s old new
nothing_replied h m s found old new of missing known written =
    unknown_replied m s old new
    (ap (λ (k : List OpData). is_known k m) (sym of) ∙ false_from_ne_true (is_known h m) (λ e. false≢true (sym missing ∙ known.1 e)))
    written
