-- Inputs between their calls: a piece is fed, the front line is taken or refused.
use Rattle.std.proofs.Common.{◌≡◌, ◌≢◌, ℕ, ◌+◌, ◌-◌, ◌≤◌, ◌<◌, true, false, inl, inr, ◌⊎◌, List, [], ◌∷◌, refl, sym, ap, ◌∙◌, arith, length, take, drop, Some, None, Ok, Err, min, subst}
use Rattle.std.specs.Prelude.{◌↔◌, Option, Result}
use Rattle.std.specs.List.{All}
use Rattle.std.proofs.lemmas.Bool.{cases_Bool}
use Rattle.std.proofs.lemmas.List.{length-take}
use Rattle.std.proofs.lemmas.List.Elements.{All-head, All-nil, All-cons}
use Rattle.script_text.specs.declared.reading.line.Line.{Line}
use Rattle.script_text.specs.declared.reading.line.LineBad.{LineBad}
use Rattle.script_text.specs.declared.reading.line.LineBad.TheVariants.{Limit, Long, Utf8, Form, Memory}
use Rattle.script_text.specs.declared.reading.parse.TheConstants.{LONGEST}
use Rattle.script_text.specs.declared.reading.stream.TheConstants.{MAX_SCRIPT}
use Rattle.script_text.specs.Answers.{Answers}
use Rattle.script_text.specs.LeftLines.{LeftLine, InputData}
use Rattle.script_text.specs.Streams.{lines_in, followed_by, looked_at, fed_with, IsPastLimit, HasNoLine, IsNext, Reads, HasLongLine, IsCause, refused_for, TakesLine}
use Rattle.script_text.specs.Code.Keeping.{size_of, FrontIs, HasFrontLine, IsInput}
use Rattle.script_text.proofs.Joins.{lines_in-nil, followed-nil, followed_ended, size-followed, size-lines_in, size_some}

-- ---- no line is there

within_limit : (s : InputData) → ¬ IsPastLimit s → length s.lines ≤ 1 → s.fed ≤ MAX_SCRIPT
within_limit s never few = of (either MAX_SCRIPT s.fed)
  where
    either : (m n : ℕ) → (m < n) ⊎ (n ≤ m)
    either m n = grind arith

    of : (MAX_SCRIPT < s.fed) ⊎ (s.fed ≤ MAX_SCRIPT) → s.fed ≤ MAX_SCRIPT
    of (inl h) = absurd (never (h, few))
    of (inr h) = h

pub none_left : (s : InputData) → ¬ IsPastLimit s → s.lines ≡ [] → HasNoLine s
none_left s never e =
    let count : length s.lines ≡ 0 = ap length e in (
      within_limit s never (omega (arith, count)),
      elim (cases_Bool s.over) [
        | inl over ↦ inl (over, e)
        | inr on ↦ inr (on, subst (All (λ l. l.ended ≡ false)) (sym e) (All-nil (λ (l : LeftLine). l.ended ≡ false)))
      ],
    )

pub none_ended : (s : InputData) (l : LeftLine) (rest : List LeftLine) → HasFrontLine s.lines → ¬ IsPastLimit s → s.lines ≡ l ∷ rest
    → l.ended ≡ false → s.over ≡ false → HasNoLine s
none_ended s l rest front never e unended on =
    let alone : rest ≡ [] = (front l rest e).alone unended in
    let one : s.lines ≡ l ∷ [] = e ∙ ap (λ ls. l ∷ ls) alone in
    let count : length s.lines ≡ 1 = ap length one in (
      within_limit s never (omega (arith, count)),
      inr (
        on,
        subst (All (λ l. l.ended ≡ false)) (sym one)
            (All-cons (λ (l : LeftLine). l.ended ≡ false) l [] unended (All-nil (λ (l : LeftLine). l.ended ≡ false))),
      ),
    )

pub no_next : (s : InputData) (l : LeftLine) (rest : List LeftLine) → HasNoLine s → IsNext s l rest → ⊥
no_next s l rest none next = of none.1 next.whole
  where
    of : ((s.over ≡ true) × (s.lines ≡ [])) ⊎ ((s.over ≡ false) × All (λ l. l.ended ≡ false) s.lines) → (l.ended ≡ true) ⊎ (s.over ≡ true)
        → ⊥
    of (inl h) w = let e : l ∷ rest ≡ [] = sym next.front ∙ h.1 in cc
    of (inr h) (inl w) =
        let e : l.ended ≡ false = All-head (λ (k : LeftLine). k.ended ≡ false) l rest (subst (All (λ k. k.ended ≡ false)) next.front h.1) in
        let t : true ≡ false = sym w ∙ e in cc
    of (inr h) (inr w) = let t : true ≡ false = sym w ∙ h.0 in cc

-- ---- the front line is read

pub front_read : (s : InputData) (l : LeftLine) (rest : List LeftLine) (bytes : List ℕ) (r : Result Line LineBad) → s.lines ≡ l ∷ rest
    → l.bytes ≡ bytes → (l.ended ≡ true) ⊎ (s.over ≡ true)
    → ¬ IsPastLimit s → Answers bytes r → Reads s r
front_read s l rest bytes r e same whole never read =
    record {
      line = l;
      rest = rest;
      next = record { front = e; whole = whole; within = never };
      read =
          subst (λ (bs : List ℕ). Answers bs r) (sym same) read;
    }

pub front_refused : (s : InputData) (why : LineBad) → Reads s (Err why) → FrontIs s (Err why)
front_refused s Limit r = absurd r.read
front_refused s Long r = r
front_refused s Utf8 r = r
front_refused s Form r = r
front_refused s Memory r = r

-- ---- a refusal stays

pub refused_before : (s : InputData) (why : LineBad) → IsInput s → s.refusal ≡ Some why → TakesLine s (Err why) s
refused_before s why h e = of why (h.cause why e) e
  where
    same : (why : LineBad) → s.refusal ≡ Some why → s ≡ refused_for why s
    same why e = ap (λ (r : Option LineBad). record s { refusal = r }) e

    of : (why : LineBad) → IsCause s why → s.refusal ≡ Some why → TakesLine s (Err why) s
    of Limit c e = (c, same Limit e)
    of Long c e = (c, same Long e)
    of Utf8 c e = (c, same Utf8 e)
    of Form c e = (c, same Form e)
    of Memory c e = absurd c

pub refused_now : (s : InputData) (why : LineBad) → FrontIs s (Err why) → why ≢ Memory → TakesLine s (Err why) (refused_for why s)
refused_now s Limit c never = (c, refl)
refused_now s Long c never = (c, refl)
refused_now s Utf8 c never = (c, refl)
refused_now s Form c never = (c, refl)
refused_now s Memory c never = absurd (never refl)

cause_of : (s : InputData) (why : LineBad) → FrontIs s (Err why) → why ≢ Memory → IsCause s why
cause_of s Limit c never = c
cause_of s Long c never = c
cause_of s Utf8 c never = c
cause_of s Form c never = c
cause_of s Memory c never = absurd (never refl)

-- a cause doesn't look at the refusal
cause_same : (s : InputData) (r : Option LineBad) (why : LineBad) → IsCause s why → IsCause (record s { refusal = r }) why
cause_same s r Limit c = c
cause_same s r Long c =
    record {
      line = c.line;
      rest = c.rest;
      next = record { front = c.next.front; whole = c.next.whole; within = c.next.within };
      read =
          c.read;
    }
cause_same s r Utf8 c =
    record {
      line = c.line;
      rest = c.rest;
      next = record { front = c.next.front; whole = c.next.whole; within = c.next.within };
      read =
          c.read;
    }
cause_same s r Form c =
    record {
      line = c.line;
      rest = c.rest;
      next = record { front = c.next.front; whole = c.next.whole; within = c.next.within };
      read =
          c.read;
    }
cause_same s r Memory c = c

some_same : (a b : LineBad) → Some a ≡ Some b → a ≡ b
some_same a b e = cc

pub input_refused : (s : InputData) (why : LineBad) → IsInput s → FrontIs s (Err why) → why ≢ Memory → IsInput (refused_for why s)
input_refused s why h c never =
    record {
      fed = h.fed;
      size = h.size;
      past = h.past;
      cause =
          λ w e. subst (IsCause (refused_for why s)) (some_same why w e) (cause_same s (Some why) why (cause_of s why c never));
    }

-- ---- the front line is taken

pub dropped_rest : (s : InputData) (l : LeftLine) (rest : List LeftLine) → IsNext s l rest → drop 1 s.lines ≡ rest
dropped_rest s l rest next = ap (drop 1) next.front

pub input_taken : (s : InputData) (l : LeftLine) (rest : List LeftLine) → IsInput s → s.refusal ≡ None → IsNext s l rest
    → IsInput (record s { lines = drop 1 s.lines })
unfolding size_of
input_taken s l rest h none next =
    let is = dropped_rest s l rest next in
    let all : size_of s.lines ≡ size_of (l ∷ rest) = ap size_of next.front in
    let fewer : size_of (drop 1 s.lines) ≡ size_of rest = ap size_of is in
    record {
      fed = h.fed;
      size = omega (arith, all, fewer, h.size);
      past = λ m e. next.within (
        m,
        (let empty : rest ≡ [] = sym is ∙ e in let count : length s.lines ≡ length (l ∷ rest) =
            ap length next.front in let zero : length rest ≡ 0 = ap length empty in omega (arith, count, zero)),
      );
      cause = λ why e. absurd (let never : None ≡ Some why = sym none ∙ e in cc);
    }

-- ---- the input has ended

cause_over : (s : InputData) (why : LineBad) → IsCause s why → IsCause (record s { over = true }) why
cause_over s Limit c = c
cause_over s Long c =
    record { line = c.line; rest = c.rest; next = record { front = c.next.front; whole = inr refl; within = c.next.within }; read = c.read }
cause_over s Utf8 c =
    record { line = c.line; rest = c.rest; next = record { front = c.next.front; whole = inr refl; within = c.next.within }; read = c.read }
cause_over s Form c =
    record { line = c.line; rest = c.rest; next = record { front = c.next.front; whole = inr refl; within = c.next.within }; read = c.read }
cause_over s Memory c = c

pub input_over : (s : InputData) → IsInput s → IsInput (record s { over = true })
input_over s h = record { fed = h.fed; size = h.size; past = h.past; cause = λ why e. cause_over s why (h.cause why e) }

-- ---- a piece is fed

pub either : (m n : ℕ) → (m < n) ⊎ (n ≤ m)
either m n = grind arith

-- behind the limit nothing changes
lines_stay : (s : InputData) (ls : List LeftLine) (piece : List ℕ) → MAX_SCRIPT < s.fed
    → followed_by ls (lines_in (looked_at s.fed piece)) ≡ ls
lines_stay s ls piece h =
    let none : MAX_SCRIPT + 1 - s.fed ≡ 0 = omega (arith, h) in
    ap (λ n. followed_by ls (lines_in (take n piece))) none ∙ (ap (followed_by ls) lines_in-nil ∙ followed-nil ls)

looked_len : (s : InputData) (piece : List ℕ) → s.fed ≤ MAX_SCRIPT + 1
    → s.fed + length (looked_at s.fed piece) ≡ min (MAX_SCRIPT + 1) (s.fed + length piece)
looked_len s piece h = omega (arith, h, length-take (MAX_SCRIPT + 1 - s.fed) piece)

pub fed_len : (fed : ℕ) (piece : List ℕ) → fed ≤ MAX_SCRIPT + 1
    → fed + length (looked_at fed piece) ≡ min (MAX_SCRIPT + 1) (fed + length piece)
fed_len fed piece h = omega (arith, h, length-take (MAX_SCRIPT + 1 - fed) piece)

more_lines : (s : InputData) (ls : List LeftLine) (piece : List ℕ) → s.fed ≤ MAX_SCRIPT + 1 → s.fed ≤ MAX_SCRIPT
    → MAX_SCRIPT < min (MAX_SCRIPT + 1) (s.fed + length piece)
    → followed_by ls (lines_in (looked_at s.fed piece)) ≢ []
more_lines s ls piece h few more =
    let looked = looked_len s piece h in
    let size = size-followed ls (lines_in (looked_at s.fed piece)) in
    let added = size-lines_in (looked_at s.fed piece) in
    size_some (followed_by ls (lines_in (looked_at s.fed piece))) (omega (arith, looked, size, added, few, more))

next_fed : (s : InputData) (piece : List ℕ) (l : LeftLine) (rest : List LeftLine) → IsInput s → s.over ≡ false → IsNext s l rest
    → IsNext (fed_with s piece) l (followed_by rest (lines_in (looked_at s.fed piece)))
next_fed s piece l rest h on next =
    let ended : l.ended ≡ true = of next.whole in
    let front : (fed_with s piece).lines ≡ l ∷ followed_by rest (lines_in (looked_at s.fed piece)) =
    ap (λ ls. followed_by ls (lines_in (looked_at s.fed piece))) next.front
    ∙ followed_ended l rest (lines_in (looked_at s.fed piece)) ended in
    record { front = front; whole = inl ended; within = λ past. out front past (either MAX_SCRIPT s.fed) }
  where
    of : (l.ended ≡ true) ⊎ (s.over ≡ true) → l.ended ≡ true
    of (inl e) = e
    of (inr e) = absurd (let t : true ≡ false = sym e ∙ on in cc)

    none : {A : Type 0} (xs : List A) → length xs ≤ 0 → xs ≡ []
    none [] h = refl
    none (x ∷ xs) h = absurd (omega (arith, h))

    out : (fed_with s piece).lines ≡ l ∷ followed_by rest (lines_in (looked_at s.fed piece)) → IsPastLimit (fed_with s piece)
        → (MAX_SCRIPT < s.fed) ⊎ (s.fed ≤ MAX_SCRIPT) → ⊥
    out front past (inl m) =
        let same = lines_stay s s.lines piece m in
        let count : length (fed_with s piece).lines ≡ length s.lines = ap length same in
        next.within (m, omega (arith, count, past.1))
    out front past (inr few) =
        let count : length (fed_with s piece).lines ≡ length (l ∷ followed_by rest (lines_in (looked_at s.fed piece))) = ap length front in
        more_lines s rest piece h.fed few past.0 (none (followed_by rest (lines_in (looked_at s.fed piece))) (omega (arith, count, past.1)))

cause_fed : (s : InputData) (piece : List ℕ) → IsInput s → s.over ≡ false → (why : LineBad) → IsCause s why → IsCause (fed_with s piece) why
cause_fed s piece h on Limit c =
    let count : length (fed_with s piece).lines ≡ length s.lines = ap length (lines_stay s s.lines piece c.0) in
    (omega (arith, h.fed, c.0), omega (arith, count, c.1))
cause_fed s piece h on Long c =
    record {
      line = c.line;
      rest = followed_by c.rest (lines_in (looked_at s.fed piece));
      next =
          next_fed s piece c.line c.rest h on c.next;
      read = c.read;
    }
cause_fed s piece h on Utf8 c =
    record {
      line = c.line;
      rest = followed_by c.rest (lines_in (looked_at s.fed piece));
      next =
          next_fed s piece c.line c.rest h on c.next;
      read = c.read;
    }
cause_fed s piece h on Form c =
    record {
      line = c.line;
      rest = followed_by c.rest (lines_in (looked_at s.fed piece));
      next =
          next_fed s piece c.line c.rest h on c.next;
      read = c.read;
    }
cause_fed s piece h on Memory c = c

pub input_fed : (s : InputData) (piece : List ℕ) → IsInput s → s.over ≡ false → IsInput (fed_with s piece)
input_fed s piece h on =
    let looked = looked_len s piece h.fed in
    let size = size-followed s.lines (lines_in (looked_at s.fed piece)) in
    let added = size-lines_in (looked_at s.fed piece) in
    record {
      fed = omega arith;
      size = omega (arith, looked, size, added, h.size);
      past = λ m. of m (either MAX_SCRIPT s.fed);
      cause = λ why e. cause_fed s piece h on why (h.cause why e);
    }
  where
    of : MAX_SCRIPT < min (MAX_SCRIPT + 1) (s.fed + length piece) → (MAX_SCRIPT < s.fed) ⊎ (s.fed ≤ MAX_SCRIPT)
        → (fed_with s piece).lines ≢ []
    of m (inl old) e = h.past old (sym (lines_stay s s.lines piece old) ∙ e)
    of m (inr few) e = more_lines s s.lines piece h.fed few m e

-- ---- the clauses of a take

pub none_exact : (s new : InputData) (r : Result (Option Line) LineBad) → TakesLine s r new → (r ≡ Ok None) ↔ HasNoLine s
none_exact s new r h = (to r h, from r h)
  where
    to : (r : Result (Option Line) LineBad) → TakesLine s r new → r ≡ Ok None → HasNoLine s
    to (Ok None) h e = h.0
    to (Ok (Some line)) h e = absurd (let x = e in cc)
    to (Err why) h e = absurd (let x = e in cc)

    from : (r : Result (Option Line) LineBad) → TakesLine s r new → HasNoLine s → r ≡ Ok None
    from (Ok None) h n = refl
    from (Ok (Some line)) h n = absurd (no_next s h.1.0.line h.1.0.rest n h.1.0.next)
    from (Err Limit) h n = absurd (omega (arith, h.0.0, n.0))
    from (Err Long) h n = absurd (no_next s h.0.line h.0.rest n h.0.next)
    from (Err Utf8) h n = absurd (no_next s h.0.line h.0.rest n h.0.next)
    from (Err Form) h n = absurd (no_next s h.0.line h.0.rest n h.0.next)
    from (Err Memory) h n = absurd (no_next s h.1.line h.1.rest n h.1.next)

pub limit_exact : (s new : InputData) (r : Result (Option Line) LineBad) → TakesLine s r new → (r ≡ Err Limit) ↔ IsPastLimit s
limit_exact s new r h = (to r h, from r h)
  where
    to : (r : Result (Option Line) LineBad) → TakesLine s r new → r ≡ Err Limit → IsPastLimit s
    to (Ok o) h e = absurd (let x = e in cc)
    to (Err Limit) h e = h.0
    to (Err Long) h e = absurd (let x = e in cc)
    to (Err Utf8) h e = absurd (let x = e in cc)
    to (Err Form) h e = absurd (let x = e in cc)
    to (Err Memory) h e = absurd (let x = e in cc)

    from : (r : Result (Option Line) LineBad) → TakesLine s r new → IsPastLimit s → r ≡ Err Limit
    from (Ok None) h p = absurd (omega (arith, h.0.0, p.0))
    from (Ok (Some line)) h p = absurd (h.1.0.next.within p)
    from (Err Limit) h p = refl
    from (Err Long) h p = absurd (h.0.next.within p)
    from (Err Utf8) h p = absurd (h.0.next.within p)
    from (Err Form) h p = absurd (h.0.next.within p)
    from (Err Memory) h p = absurd (h.1.next.within p)

pub first_same : (k l : LeftLine) (ks ls : List LeftLine) → k ∷ ks ≡ l ∷ ls → k ≡ l
first_same k l ks ls e = cc

pub long_exact : (s new : InputData) (r : Result (Option Line) LineBad) → HasFrontLine s.lines → TakesLine s r new
    → (r ≡ Err Long) ↔ HasLongLine s
long_exact s new r front h = (to r h, from r h)
  where
    to : (r : Result (Option Line) LineBad) → TakesLine s r new → r ≡ Err Long → HasLongLine s
    to (Ok o) h e = absurd (let x = e in cc)
    to (Err Limit) h e = absurd (let x = e in cc)
    to (Err Long) h e =
        let kept = (front h.0.line h.0.rest h.0.next.front).kept in
        record { line = h.0.line; rest = h.0.rest; next = h.0.next; long = omega (arith, kept, h.0.read) }
    to (Err Utf8) h e = absurd (let x = e in cc)
    to (Err Form) h e = absurd (let x = e in cc)
    to (Err Memory) h e = absurd (let x = e in cc)

    long : (l : HasLongLine s) (line : LeftLine) (rest : List LeftLine) → IsNext s line rest → LONGEST < length line.bytes
    long l line rest next =
        let same : l.line ≡ line = first_same l.line line l.rest rest (sym l.next.front ∙ next.front) in
        let len : l.line.len ≡ line.len = ap (λ (k : LeftLine). k.len) same in
        let kept = (front line rest next.front).kept in
        omega (arith, len, kept, l.long)

    from : (r : Result (Option Line) LineBad) → TakesLine s r new → HasLongLine s → r ≡ Err Long
    from (Ok None) h l = absurd (no_next s l.line l.rest h.0 l.next)
    from (Ok (Some line)) h l = let r = h.1.0 in absurd (omega (arith, long l r.line r.rest r.next, r.read.0.0))
    from (Err Limit) h l = absurd (l.next.within h.0)
    from (Err Long) h l = refl
    from (Err Utf8) h l = absurd (omega (arith, long l h.0.line h.0.rest h.0.next, h.0.read.0))
    from (Err Form) h l = absurd (omega (arith, long l h.0.line h.0.rest h.0.next, h.0.read.0.0))
    from (Err Memory) h l = absurd (omega (arith, long l h.1.line h.1.rest h.1.next, h.1.read.0.0))

-- ---- a new input

pub input_new : IsInput (record { lines = []; fed = 0; over = false; refusal = None })
unfolding size_of
input_new =
    record {
      fed = omega arith;
      size = omega arith;
      past = λ m. absurd (omega (arith, m));
      cause = λ why e. absurd (let x : None ≡ Some why = e in cc);
    }

-- how much was fed, and whether the input has ended, stays
pub fed_stays : (s new : InputData) (r : Result (Option Line) LineBad) → TakesLine s r new → (new.fed ≡ s.fed) × (new.over ≡ s.over)
fed_stays s new (Ok (Some line)) h = (ap (λ (i : InputData). i.fed) h.1.1, ap (λ (i : InputData). i.over) h.1.1)
fed_stays s new (Ok None) h = (ap (λ (i : InputData). i.fed) h.1, ap (λ (i : InputData). i.over) h.1)
fed_stays s new (Err Limit) h = (ap (λ (i : InputData). i.fed) h.1, ap (λ (i : InputData). i.over) h.1)
fed_stays s new (Err Long) h = (ap (λ (i : InputData). i.fed) h.1, ap (λ (i : InputData). i.over) h.1)
fed_stays s new (Err Utf8) h = (ap (λ (i : InputData). i.fed) h.1, ap (λ (i : InputData). i.over) h.1)
fed_stays s new (Err Form) h = (ap (λ (i : InputData). i.fed) h.1, ap (λ (i : InputData). i.over) h.1)
fed_stays s new (Err Memory) h = (ap (λ (i : InputData). i.fed) h.2, ap (λ (i : InputData). i.over) h.2)
