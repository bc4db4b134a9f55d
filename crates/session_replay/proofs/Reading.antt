-- Readers of scripts in pieces: what they keep of the bytes fed, when a piece is fed, a line is taken, or the script ends.
use Rattle.std.proofs.Common.{◌≡◌, ℕ, zero, suc, ◌+◌, ◌-◌, ◌≤◌, ◌<◌, Bool, true, false, inl, inr, ◌⊎◌, List, [], ◌∷◌, ◌++◌, refl, sym, ap, subst, ◌∙◌, arith, length, take, min, append-nil, append_assoc, length-append, None, Some, Ok, Err}
use Rattle.std.specs.Prelude.{◌==◌, Result, IfOk, OnOk}
use Rattle.std.specs.List.{All}
use Rattle.std.proofs.lemmas.List.{take-take, length-take, take-append-le}
use Rattle.std.proofs.lemmas.List.Elements.{All-head, All-take, All-nil, All-cons}
use Rattle.script_text.specs.declared.reading.line.Line.{Line}
use Rattle.script_text.specs.declared.reading.line.Line.TheVariants.{Blank}
use Rattle.script_text.specs.declared.reading.line.LineBad.{LineBad}
use Rattle.script_text.specs.declared.reading.line.LineBad.TheVariants as reading
use Rattle.script_text.specs.declared.report.refusal.Refusal.{Refusal}
use Rattle.script_text.specs.declared.report.refusal.Refusal.TheVariants as refusal
use Rattle.script_text.specs.declared.reading.stream.TheConstants.{MAX_SCRIPT}
use Rattle.script_text.specs.LeftLines.{LeftLine, InputData}
use Rattle.script_text.specs.Streams.{seen, line_of, open_line, all_but_last_ended, lines_in, followed_by, looked_at, fed_with, IsPastLimit, HasNoLine, IsNext, Reads, TakesLine}
use Rattle.script_text.specs.Code.Keeping.{HasNoFeed}
use Rattle.script_text.specs.Report.{Report, refused_text}
use Rattle.script_text.proofs.CallerLemmas.{lines_in_part, first_same, either}
use Rattle.session_replay.specs.declared.script.Next.{Next}
use Rattle.session_replay.specs.declared.script.Next.TheVariants.{Done, Awaited, Refused}
use Rattle.session_replay.specs.Answers.{unread_by}
use Rattle.session_replay.specs.Sessions.{SessionData, unstarted}
use Rattle.session_replay.specs.Steps.{written_by, last_of}
use Rattle.session_replay.specs.LineSteps.{line_steps}
use Rattle.session_replay.specs.Scripts.{Piece, Whole, Past, pieces_of, prepended, line_read, report_on, report_from, report_from_in, script_report}
use Rattle.session_replay.specs.ReaderData.{ReaderData}
use Rattle.session_replay.specs.Readers.{pieces_after, nothing_left, Keeps, Awaits, AwaitsSome, IsNextLine, NextDoesSomething}
use Rattle.session_replay.specs.Code.Reading.{Follows, TellsRefusal, is_refused}
use Rattle.session_replay.proofs.PiecesLaws.{Front, front_line, all_looked, no_bytes, pieces_first, open_bytes, no_feed_in, pieces_line, pieces_end, pieces_past, line_found, line_refused, line_empty}

-- ---- reports

prepended_twice : (a b : List ℕ) (r : Report) → prepended (a ++ b) r ≡ prepended a (prepended b r)
prepended_twice a b r = ap (λ (w : List ℕ). record { written = w; refused = r.refused }) (append_assoc a b r.written)

-- a line can't be read
piece_refused : (piece : Piece) (cause : Refusal) (out new : List ℕ) (n : ℕ) (pieces : List Piece) (d : SessionData)
    → line_read piece ≡ Err cause → new ≡ out ++ refused_text n cause
    → prepended out (report_from n (piece ∷ pieces) d) ≡ record { written = new; refused = true }
unfolding report_from_in
piece_refused piece cause out new n pieces d is written = rw is (λ i. record { written = sym written i; refused = true })

-- a line is read, and the rest is left to its steps
piece_read : (piece : Piece) (line : Line) (n : ℕ) (pieces : List Piece) (d : SessionData)
    → line_read piece ≡ Ok line
    → report_from n (piece ∷ pieces) d ≡ report_on (report_from (n + 1) pieces) n (line_steps line d) d
unfolding report_from_in
piece_read piece line n pieces d is = rw is refl

-- no line is left
none_left : (out : List ℕ) (n : ℕ) (d : SessionData) → prepended out (report_from n [] d) ≡ record { written = out; refused = false }
unfolding report_from_in
none_left out n d = λ i. record { written = append-nil out i; refused = false }

-- an empty line at the end
empty_left : (out : List ℕ) (n : ℕ) (d : SessionData)
    → prepended out (report_from n (Whole [] ∷ []) d) ≡ record { written = out; refused = false }
unfolding report_from_in written_by last_of
empty_left out n d =
    ap (λ (r : Report). prepended out r) (piece_read (Whole []) Blank n [] d line_empty)
    ∙ (λ i. record { written = append-nil out i; refused = false })

-- what is written after bytes that stand elsewhere
follows_before : (next : Next) (before out new : List ℕ) (x rest : Report) → Follows next (prepended out x) new rest
    → Follows next (prepended (before ++ out) x) (before ++ new) rest
follows_before Done before out new x rest h =
    prepended_twice before out x ∙ (ap (λ (r : Report). prepended before r) h ∙ sym (prepended_twice before new rest))
follows_before Awaited before out new x rest h = h
follows_before Refused before out new x rest h = prepended_twice before out x ∙ ap (λ (r : Report). prepended before r) h

told_before : (before out new text : List ℕ) → new ≡ out ++ text → before ++ new ≡ (before ++ out) ++ text
told_before before out new text e = ap (λ xs. before ++ xs) e ∙ sym (append_assoc before out text)

-- ---- inputs

input_is : (i : InputData) (lines : List LeftLine) (fed : ℕ) → i.lines ≡ lines → i.fed ≡ fed → i.over ≡ false → i.refusal ≡ None
    → i ≡ record { lines = lines; fed = fed; over = false; refusal = None }
input_is i lines fed a b c d = λ j. record { lines = a j; fed = b j; over = c j; refusal = d j }

none_first : (ls : List LeftLine) → followed_by [] ls ≡ ls
unfolding followed_by
none_first ls = refl

-- what a reader's input is, by what is left of the bytes
lines_left : (r : ReaderData) (all written : List ℕ) (k : Keeps r all written) → r.input.lines ≡ lines_in (looked_at (length k.done) k.left)
lines_left r all written k = ap (λ (i : InputData). i.lines) k.input ∙ none_first (lines_in (looked_at (length k.done) k.left))

fed_left : (r : ReaderData) (all written : List ℕ) (k : Keeps r all written)
    → r.input.fed ≡ min (MAX_SCRIPT + 1) (length k.done + length k.left)
fed_left r all written k = ap (λ (i : InputData). i.fed) k.input

pub still_on : (r : ReaderData) (all written : List ℕ) → Keeps r all written → r.input.over ≡ false
still_on r all written k = ap (λ (i : InputData). i.over) k.input

-- ---- a new reader

nothing_fed : record { lines = []; fed = 0; over = false; refusal = None } ≡ fed_with (nothing_left 0) []
unfolding followed_by all_but_last_ended
nothing_fed = refl

pub new_keeps : (r : ReaderData) → r.input ≡ record { lines = []; fed = 0; over = false; refusal = None } → r.number ≡ 1
    → r.session ≡ unstarted → Keeps r [] []
new_keeps r input number session =
    record {
      done = [];
      left = [];
      parts = refl;
      whole = inl refl;
      within = omega arith;
      input = input ∙ nothing_fed;
      few = omega (arith, number);
      goes_on = λ more.
          ap (λ ps. report_from 1 ps unstarted) (pieces_first more)
          ∙ (λ i. prepended [] (report_from (sym number i) (pieces_after 0 more) (sym session i)));
    }

-- ---- no byte was fed

take_none : (n : ℕ) → ◌≡◌ {A = List ℕ} (take n []) []
take_none zero = refl
take_none (suc n) = refl

no_parts : (xs ys : List ℕ) → [] ≡ xs ++ ys → (xs ≡ []) × (ys ≡ [])
no_parts [] ys none = (refl, sym none)
no_parts (x ∷ xs) ys none = absurd cc

no_lines : lines_in (looked_at 0 []) ≡ []
unfolding all_but_last_ended
no_lines = refl

pub looked_none : (n : ℕ) → looked_at n [] ≡ []
looked_none n = take_none (MAX_SCRIPT + 1 - n)

-- then no line is next
pub nothing_next : (r : ReaderData) (all written : List ℕ) (over : Bool) → Keeps r all written → all ≡ []
    → NextDoesSomething (record r.input { over = over }) r.session → ⊥
nothing_next r all written over k none does = by does.piece does.next
  where
    parts : (k.done ≡ []) × (k.left ≡ [])
    parts = no_parts k.done k.left (sym none ∙ k.parts)

    lines : r.input.lines ≡ []
    lines = lines_left r all written k ∙ (λ i. lines_in (looked_at (length (parts.0 i)) (parts.1 i))) ∙ no_lines

    by : (p : Piece) → IsNextLine (record r.input { over = over }) p → ⊥
    by (Whole bytes) next = let some : [] ≡ next.0 ∷ next.1 = sym lines ∙ next.2.front in cc
    by Past next = omega (arith, next.0, fed_left r all written k, ap length parts.0, ap length parts.1)

pub no_report : script_report [] ≡ record { written = []; refused = false }
unfolding report_from_in written_by last_of
no_report = ap (λ ps. report_from 1 ps unstarted) none ∙ empty_left [] 1 unstarted
  where
    none : pieces_of [] ≡ Whole [] ∷ []
    none = refl

-- ---- a piece is fed

pub fed_keeps : (fed_twice : (s : InputData) (a b : List ℕ) → s.fed ≤ MAX_SCRIPT + 1 → fed_with (fed_with s a) b ≡ fed_with s (a ++ b))
    (r new : ReaderData) (all written piece : List ℕ)
    → new.input ≡ fed_with r.input piece → new.number ≡ r.number → new.session ≡ r.session → Keeps r all written
    → Keeps new (all ++ piece) written
fed_keeps fed_twice r new all written piece input number session k =
    record {
      done = k.done;
      left = k.left ++ piece;
      parts = ap (λ xs. xs ++ piece) k.parts ∙ append_assoc k.done k.left piece;
      whole = k.whole;
      within = k.within;
      input =
          input ∙ (ap (λ (i : InputData). fed_with i piece) k.input
          ∙ fed_twice (nothing_left (length k.done)) k.left piece (omega (arith, k.within)));
      few = omega (arith, number, k.few);
      goes_on =
          λ more. k.goes_on more ∙ (λ i. prepended written
          (report_from (sym number i) (pieces_after (length k.done) more) (sym session i)));
    }

-- ---- a whole line is taken

-- the front line of an input, by the bytes that are left
record Taken (done left : List ℕ) (l : LeftLine) (rest : List LeftLine) : Type 0 where
  line : List ℕ
  after : List ℕ
  parts : left ≡ line ++ 10 ∷ after
  no_feed : HasNoFeed line
  within : length done + length line + 1 ≤ MAX_SCRIPT
  bytes : l.bytes ≡ seen line
  lines : rest ≡ lines_in (looked_at (length done + length line + 1) after)

rest_same : (k l : LeftLine) (ks ls : List LeftLine) → k ∷ ks ≡ l ∷ ls → ks ≡ ls
rest_same k l ks ls e = cc

no_open : (bytes : List ℕ) (l : LeftLine) (rest : List LeftLine) → l ∷ rest ≡ open_line bytes → l.ended ≡ true → ⊥
no_open [] l rest e ended = cc
no_open (b ∷ bs) l rest e ended =
    let same : l ≡ line_of (b ∷ bs) false = first_same l (line_of (b ∷ bs) false) rest [] e in
    let t : true ≡ false = sym ended ∙ ap (λ (x : LeftLine). x.ended) same in
    cc

taken_line : (r : ReaderData) (all written : List ℕ) (k : Keeps r all written) (l : LeftLine) (rest : List LeftLine) → IsNext r.input l rest
    → Taken k.done k.left l rest
taken_line r all written k l rest next = of (front_line (length k.done) k.left)
  where
    ended : l.ended ≡ true
    ended = ended_by next.whole
      where
        ended_by : (l.ended ≡ true) ⊎ (r.input.over ≡ true) → l.ended ≡ true
        ended_by (inl e) = e
        ended_by (inr e) = absurd (let t : true ≡ false = sym e ∙ still_on r all written k in cc)

    lines : l ∷ rest ≡ lines_in (looked_at (length k.done) k.left)
    lines = sym next.front ∙ lines_left r all written k

    -- the line feed is within the limit
    fits : (f : Front (length k.done) k.left) → rest ≡ lines_in (looked_at (length k.done + length f.line + 1) f.after)
        → (MAX_SCRIPT < length k.done + length f.line + 1) ⊎ (length k.done + length f.line + 1 ≤ MAX_SCRIPT)
        → length k.done + length f.line + 1 ≤ MAX_SCRIPT
    fits f is (inr h) = h
    fits f is (inl past) = absurd (next.within (fed_past, one))
      where
        fed_past : MAX_SCRIPT < r.input.fed
        fed_past =
            let fed = fed_left r all written k in
            let len : length k.left ≡ length (f.line ++ 10 ∷ f.after) = ap length f.parts in
            let both = length-append f.line (10 ∷ f.after) in
            omega (arith, fed, len, both, past)

        none : rest ≡ []
        none = is ∙ nothing (looked_at (length k.done + length f.line + 1) f.after)
            (let len = length-take (MAX_SCRIPT + 1 - (length k.done + length f.line + 1)) f.after in omega (arith, len, past))
          where
            nothing : (bytes : List ℕ) → length bytes ≡ 0 → lines_in bytes ≡ []
            nothing [] e = lines_in_part [] (All-nil (λ (b : ℕ). (b == 10) ≡ false))
            nothing (b ∷ bs) e = absurd (omega (arith, e))

        one : length r.input.lines ≤ 1
        one = let count : length r.input.lines ≡ length (l ∷ rest) =
            ap length next.front in let zero : length rest ≡ 0 = ap length none in omega (arith, count, zero)

    of : HasNoFeed (looked_at (length k.done) k.left) ⊎ Front (length k.done) k.left → Taken k.done k.left l rest
    of (inl none) =
        absurd (no_open (looked_at (length k.done) k.left) l rest (lines ∙ lines_in_part (looked_at (length k.done) k.left) none) ended)
    of (inr f) =
        let both = lines ∙ f.lines in
        let is : rest ≡ lines_in (looked_at (length k.done + length f.line + 1) f.after) =
        rest_same l (line_of f.line true) rest (lines_in (looked_at (length k.done + length f.line + 1) f.after)) both in
        record {
          line = f.line;
          after = f.after;
          parts = f.parts;
          no_feed = f.no_feed;
          within = fits f is (either MAX_SCRIPT (length k.done + length f.line + 1));
          bytes = ap (λ (x : LeftLine). x.bytes)
              (first_same l (line_of f.line true) rest (lines_in (looked_at (length k.done + length f.line + 1) f.after)) both);
          lines = is;
        }

-- the bytes done with a line more
pub with_line : List ℕ → List ℕ → List ℕ
with_line done line = done ++ (line ++ 10 ∷ [])

length_with : (done line : List ℕ) → length (with_line done line) ≡ length done + length line + 1
unfolding with_line
length_with done line = let a = length-append done (line ++ 10 ∷ []) in let b = length-append line (10 ∷ []) in omega (arith, a, b)

line_moved : (done line more : List ℕ) → with_line done line ++ more ≡ done ++ (line ++ 10 ∷ more)
unfolding with_line
line_moved done line more = append_assoc done (line ++ 10 ∷ []) more ∙ ap (λ xs. done ++ xs) (append_assoc line (10 ∷ []) more)

line_ends : (done line : List ℕ) → with_line done line ≡ (done ++ line) ++ 10 ∷ []
unfolding with_line
line_ends done line = sym (append_assoc done line (10 ∷ []))

-- the report, from the line that is next
goes_at : (r : ReaderData) (all written : List ℕ) (k : Keeps r all written) (l : LeftLine) (rest : List LeftLine)
    (t : Taken k.done k.left l rest) (more : List ℕ)
    → script_report (with_line k.done t.line ++ more)
    ≡ prepended written (report_from r.number (Whole t.line ∷ pieces_after (length (with_line k.done t.line)) more) r.session)
goes_at r all written k l rest t more =
    ap script_report (line_moved k.done t.line more)
    ∙ (k.goes_on (t.line ++ 10 ∷ more)
    ∙ (ap (λ ps. prepended written (report_from r.number ps r.session)) (pieces_line (length k.done) t.line more t.no_feed t.within)
    ∙ ap (λ n. prepended written (report_from r.number (Whole t.line ∷ pieces_after n more) r.session)) (sym (length_with k.done t.line))))

all_moved : (r : ReaderData) (all written : List ℕ) (k : Keeps r all written) (l : LeftLine) (rest : List LeftLine)
    (t : Taken k.done k.left l rest) → all ≡ with_line k.done t.line ++ t.after
all_moved r all written k l rest t = k.parts ∙ (ap (λ xs. k.done ++ xs) t.parts ∙ sym (line_moved k.done t.line t.after))

-- what stands after a line was done, or refused
abbrev pub Goes : Next → ReaderData → List ℕ → List ℕ → Type 0
Goes Done new all written = Keeps new all written
Goes Awaited new all written = Awaits new all written
Goes Refused new all written = (more : List ℕ) → script_report (all ++ more) ≡ record { written = written; refused = true }

-- what a line that was read says of all reports that go on with it
abbrev pub FollowsAll : Next → ReaderData → Line → ReaderData → List ℕ → List ℕ → Type 0
FollowsAll next old line new out now =
    (pieces : List Piece) → Follows next
    (prepended out (report_on (report_from (old.number + 1) pieces) old.number (line_steps line old.session) old.session)) now
    (report_from new.number pieces new.session)

-- a reader that has done the next line
keeps_line : (old new : ReaderData) (all written now : List ℕ) (k : Keeps old all written) (l : LeftLine) (rest : List LeftLine)
    (t : Taken k.done k.left l rest)
    → new.input ≡ record old.input { lines = rest } → new.number ≡ old.number + 1
    → ((pieces : List Piece) → prepended written (report_from old.number (Whole t.line ∷ pieces) old.session)
    ≡ prepended now (report_from new.number pieces new.session))
    → Keeps new all now
keeps_line old new all written now k l rest t input number done =
    let len = length_with k.done t.line in
    record {
      done = with_line k.done t.line;
      left = t.after;
      parts = all_moved old all written k l rest t;
      whole = inr (k.done ++ t.line, line_ends k.done t.line);
      within = omega (arith, len, t.within);
      input = input_is new.input _ _ lines fed (ap (λ (i : InputData). i.over) input ∙ still_on old all written k)
          (ap (λ (i : InputData). i.refusal) input ∙ ap (λ (i : InputData). i.refusal) k.input);
      few = omega (arith, len, number, k.few);
      goes_on = λ more. goes_at old all written k l rest t more ∙ done (pieces_after (length (with_line k.done t.line)) more);
    }
  where
    lines : new.input.lines ≡ followed_by [] (lines_in (looked_at (length (with_line k.done t.line)) t.after))
    lines =
        ap (λ (i : InputData). i.lines) input
        ∙ (t.lines ∙ (ap (λ n. lines_in (looked_at n t.after)) (sym (length_with k.done t.line))
        ∙ sym (none_first (lines_in (looked_at (length (with_line k.done t.line)) t.after)))))

    fed : new.input.fed ≡ min (MAX_SCRIPT + 1) (length (with_line k.done t.line) + length t.after)
    fed =
        let same : new.input.fed ≡ old.input.fed = ap (λ (i : InputData). i.fed) input in
        let before = fed_left old all written k in
        let len : length k.left ≡ length (t.line ++ 10 ∷ t.after) = ap length t.parts in
        let both = length-append t.line (10 ∷ t.after) in
        let moved = length_with k.done t.line in
        omega (arith, same, before, len, both, moved)

-- a script whose next line is refused
refused_line_at : (old : ReaderData) (all written now : List ℕ) (k : Keeps old all written) (l : LeftLine) (rest : List LeftLine)
    (t : Taken k.done k.left l rest)
    → ((pieces : List Piece) → prepended written (report_from old.number (Whole t.line ∷ pieces) old.session)
    ≡ record { written = now; refused = true })
    → (more : List ℕ) → script_report (all ++ more) ≡ record { written = now; refused = true }
refused_line_at old all written now k l rest t done more =
    ap (λ xs. script_report (xs ++ more)) (all_moved old all written k l rest t)
    ∙ (ap script_report (append_assoc (with_line k.done t.line) t.after more)
    ∙ (goes_at old all written k l rest t (t.after ++ more) ∙ done (pieces_after (length (with_line k.done t.line)) (t.after ++ more))))

-- the next line was read
pub read_goes : (next : Next) (old new : ReaderData) (line : Line) (out now : List ℕ) (r : Reads old.input (Ok line))
    → new.input ≡ record old.input { lines = r.rest }
    → (next ≡ Done → new.number ≡ old.number + 1) → FollowsAll next old line new out now
    → (all before : List ℕ) → Keeps old all (before ++ out) → Goes next new all (before ++ now)
read_goes next old new line out now r input number follows all before k = of next number follows
  where
    t : Taken k.done k.left r.line r.rest
    t = taken_line old all (before ++ out) k r.line r.rest r.next

    found : (pieces : List Piece) → prepended (before ++ out) (report_from old.number (Whole t.line ∷ pieces) old.session)
        ≡ prepended (before ++ out) (report_on (report_from (old.number + 1) pieces) old.number (line_steps line old.session) old.session)
    found pieces =
        ap (λ (x : Report). prepended (before ++ out) x)
        (piece_read (Whole t.line) line old.number pieces old.session (line_found t.line r.line.bytes line t.bytes r.read))

    of : (next : Next) → (next ≡ Done → new.number ≡ old.number + 1) → FollowsAll next old line new out now
        → Goes next new all (before ++ now)
    of Done number follows =
        keeps_line old new all (before ++ out) (before ++ now) k r.line r.rest t input (number refl)
        (λ pieces. found pieces ∙ follows_before Done before out now _ _ (follows pieces))
    of Awaited number follows = absurd (follows [])
    of Refused number follows =
        refused_line_at old all (before ++ out) (before ++ now) k r.line r.rest t
        (λ pieces. found pieces ∙ follows_before Refused before out now _ (report_from new.number pieces new.session) (follows pieces))

-- the same, said of an answer
pub line_goes : {E : Type 0} (result : Result Next E) (next : Next) (old new : ReaderData) (line : Line) (out now : List ℕ)
    → TakesLine old.input (Ok (Some line)) new.input
    → IfOk result (λ next. FollowsAll next old line new out now) → (result ≡ Ok Done → new.number ≡ old.number + 1) → result ≡ Ok next
    → (all before : List ℕ) → Keeps old all (before ++ out) → Goes next new all (before ++ now)
line_goes result next old new line out now takes follows number is all before k =
    let follows_next : FollowsAll next old line new out now =
    subst (λ x. IfOk x (λ next. FollowsAll next old line new out now)) is follows in
    read_goes next old new line out now takes.1.0 takes.1.1 (λ e. number (is ∙ ap (λ x. Ok x) e)) follows_next all before k

-- ---- a line can't be read

-- the front line is past the limit
past_goes : (old : ReaderData) (all written : List ℕ) (k : Keeps old all written) → IsPastLimit old.input → (more : List ℕ)
    → pieces_after (length k.done) (k.left ++ more) ≡ Past ∷ []
past_goes old all written k past more = pieces_past (length k.done) k.left more (none (front_line (length k.done) k.left)) many
  where
    many : MAX_SCRIPT < length k.done + length k.left
    many = let fed = fed_left old all written k in omega (arith, fed, past.0)

    none : HasNoFeed (looked_at (length k.done) k.left) ⊎ Front (length k.done) k.left
        → HasNoFeed (take (MAX_SCRIPT - length k.done) k.left)
    none (inl h) =
        subst HasNoFeed (take-take (MAX_SCRIPT - length k.done) (MAX_SCRIPT + 1 - length k.done) k.left (omega arith))
        (All-take (λ (b : ℕ). (b == 10) ≡ false) (MAX_SCRIPT - length k.done) (looked_at (length k.done) k.left) h)
    none (inr f) =
        let lines = lines_left old all written k ∙ f.lines in
        let rest = lines_in (looked_at (length k.done + length f.line + 1) f.after) in
        let count : length old.input.lines ≡ length (line_of f.line true ∷ rest) = ap length lines in
        let zero : rest ≡ [] = no_lines rest (omega (arith, count, past.1)) in
        let few = no_bytes (looked_at (length k.done + length f.line + 1) f.after) zero in
        let taken = length-take (MAX_SCRIPT + 1 - (length k.done + length f.line + 1)) f.after in
        let len : length k.left ≡ length (f.line ++ 10 ∷ f.after) = ap length f.parts in
        let both = length-append f.line (10 ∷ f.after) in
        let long : MAX_SCRIPT - length k.done ≤ length f.line = omega (arith, few, taken, len, both, many) in
        subst (λ bs. HasNoFeed (take (MAX_SCRIPT - length k.done) bs)) (sym f.parts)
        (subst HasNoFeed (sym (take-append-le (MAX_SCRIPT - length k.done) f.line (10 ∷ f.after) long))
        (All-take (λ (b : ℕ). (b == 10) ≡ false) (MAX_SCRIPT - length k.done) f.line f.no_feed))
      where
        no_lines : (ls : List LeftLine) → length ls ≤ 0 → ls ≡ []
        no_lines [] h = refl
        no_lines (l ∷ ls) h = absurd (omega (arith, h))

-- what an answer tells
pub told_by : {E : Type 0} (result : Result Next E) (next : Next) (why : LineBad) (number : ℕ) (out now : List ℕ) → result ≡ Ok next
    → OnOk result (TellsRefusal why number out now) → TellsRefusal why number out now
told_by (Ok x) next why number out now e h = h
told_by (Err x) next why number out now e h = absurd (let f = e in cc)

none_same : (cause : Refusal) → None ≡ Some cause → ⊥
none_same cause e = cc

-- a line that couldn't be read was refused
pub unread_goes : (old : ReaderData) (new : InputData) (why : LineBad) (out now : List ℕ) → TakesLine old.input (Err why) new
    → TellsRefusal why old.number out now
    → (all before : List ℕ) → Keeps old all (before ++ out) → (more : List ℕ)
    → script_report (all ++ more) ≡ record { written = before ++ now; refused = true }
unread_goes old new why out now takes told all before k more = of why takes told
  where
    whole : (why : LineBad) → Reads old.input (Err why) → TellsRefusal why old.number out now
        → script_report (all ++ more) ≡ record { written = before ++ now; refused = true }
    whole why r told =
        let t = taken_line old all (before ++ out) k r.line r.rest r.next in
        refused_line_at old all (before ++ out) (before ++ now) k r.line r.rest t
        (λ pieces. piece_refused (Whole t.line) told.cause (before ++ out) (before ++ now) old.number pieces old.session
        (line_refused t.line r.line.bytes why told.cause t.bytes r.read told.is)
        (told_before before out now (refused_text old.number told.cause) told.written)) more

    past : IsPastLimit old.input → TellsRefusal reading.Limit old.number out now
        → script_report (all ++ more) ≡ record { written = before ++ now; refused = true }
    past limit told =
        ap (λ xs. script_report (xs ++ more)) k.parts
        ∙ (ap script_report (append_assoc k.done k.left more)
        ∙ (k.goes_on (k.left ++ more)
        ∙ (ap (λ ps. prepended (before ++ out) (report_from old.number ps old.session)) (past_goes old all (before ++ out) k limit more)
        ∙ piece_refused Past told.cause (before ++ out) (before ++ now) old.number [] old.session (limit_is told.cause told.is)
        (told_before before out now (refused_text old.number told.cause) told.written))))
      where
        limit_is : (cause : Refusal) → unread_by reading.Limit ≡ Some cause → line_read Past ≡ Err cause
        limit_is cause e = let same : refusal.Limit ≡ cause = cc in ap (λ (c : Refusal). Err c) same

    of : (why : LineBad) → TakesLine old.input (Err why) new → TellsRefusal why old.number out now
        → script_report (all ++ more) ≡ record { written = before ++ now; refused = true }
    of reading.Limit takes told = past takes.0 told
    of reading.Long takes told = whole reading.Long takes.0 told
    of reading.Utf8 takes told = whole reading.Utf8 takes.0 told
    of reading.Form takes told = whole reading.Form takes.0 told
    of reading.Memory takes told = absurd (none_same told.cause told.is)

-- ---- no whole line is left

-- the input is within its limit, and no line that is left was ended
abbrev pub IsOpen : InputData → Type 0
IsOpen i = (i.fed ≤ MAX_SCRIPT) × All (λ l. l.ended ≡ false) i.lines

-- what is left is the last line so far
record Last (done left : List ℕ) : Type 0 where
  no_feed : HasNoFeed left
  within : length done + length left ≤ MAX_SCRIPT

last_line : (r : ReaderData) (all written : List ℕ) (k : Keeps r all written) → IsOpen r.input → Last k.done k.left
last_line r all written k unended = of (front_line (length k.done) k.left)
  where
    few : length k.done + length k.left ≤ MAX_SCRIPT
    few = let fed = fed_left r all written k in omega (arith, fed, unended.0)

    of : HasNoFeed (looked_at (length k.done) k.left) ⊎ Front (length k.done) k.left → Last k.done k.left
    of (inl none) = record { no_feed = subst HasNoFeed (all_looked (length k.done) k.left few) none; within = few }
    of (inr f) =
        let lines = lines_left r all written k ∙ f.lines in
        let ended : true ≡ false =
        All-head (λ (l : LeftLine). l.ended ≡ false) (line_of f.line true)
        (lines_in (looked_at (length k.done + length f.line + 1) f.after)) (subst (All (λ l. l.ended ≡ false)) lines unended.1) in
        absurd (let e = ended in cc)

no_line_open : (i : InputData) → i.over ≡ false → HasNoLine i → IsOpen i
no_line_open i on h = (h.0, of h.1)
  where
    of : ((i.over ≡ true) × (i.lines ≡ [])) ⊎ ((i.over ≡ false) × All (λ l. l.ended ≡ false) i.lines) → All (λ l. l.ended ≡ false) i.lines
    of (inl e) = absurd (let t : true ≡ false = sym e.0 ∙ on in cc)
    of (inr e) = e.1

-- nothing is taken, and the reader is the same
pub awaits : (old new : ReaderData) (all written : List ℕ) → new ≡ old → HasNoLine old.input → Keeps old all written
    → Awaits new all written
awaits old new all written same none k =
    let last = last_line old all written k (no_line_open old.input (still_on old all written k) none) in
    subst (λ (r : ReaderData). Awaits r all written) (sym same)
    (record {
      keeps = k;
      no_feed = open_bytes k.left last.no_feed;
      within = let len : length all ≡ length (k.done ++ k.left) =
          ap length k.parts in omega (arith, len, length-append k.done k.left, last.within);
    })

-- ---- the script ends

pub open_of : (r : ReaderData) → AwaitsSome r → IsOpen r.input
open_of r s =
    let k = s.awaits.keeps in
    let none = no_feed_in k.left s.awaits.no_feed in
    let few : length k.done + length k.left ≤ MAX_SCRIPT =
    let len : length s.all ≡ length (k.done ++ k.left) = ap length k.parts in
    omega (arith, len, length-append k.done k.left, s.awaits.within) in
    let lines = lines_left r s.all s.written k ∙ (ap lines_in (all_looked (length k.done) k.left few) ∙ lines_in_part k.left none) in
    let fed = fed_left r s.all s.written k in
    (omega (arith, fed, few), subst (All (λ l. l.ended ≡ false)) (sym lines) (open_all k.left))
  where
    open_all : (bytes : List ℕ) → All (λ l. l.ended ≡ false) (open_line bytes)
    open_all [] = All-nil (λ (l : LeftLine). l.ended ≡ false)
    open_all (b ∷ bs) =
        All-cons (λ (l : LeftLine). l.ended ≡ false) (line_of (b ∷ bs) false) [] refl (All-nil (λ (l : LeftLine). l.ended ≡ false))

-- the report of all bytes, of which the last line is left
last_report : (r : ReaderData) (all written : List ℕ) (k : Keeps r all written) → Last k.done k.left
    → script_report all ≡ prepended written (report_from r.number (Whole k.left ∷ []) r.session)
last_report r all written k last =
    ap script_report k.parts ∙ (k.goes_on k.left
    ∙ ap (λ ps. prepended written (report_from r.number ps r.session)) (pieces_end (length k.done) k.left last.no_feed last.within))

-- the lines that are left, where all of them are one
last_lines : (r : ReaderData) (all written : List ℕ) (k : Keeps r all written) → Last k.done k.left → r.input.lines ≡ open_line k.left
last_lines r all written k last =
    lines_left r all written k ∙ (ap lines_in (all_looked (length k.done) k.left last.within) ∙ lines_in_part k.left last.no_feed)

open_seen : (bytes : List ℕ) (l : LeftLine) (rest : List LeftLine) → l ∷ rest ≡ open_line bytes → l.bytes ≡ seen bytes
open_seen [] l rest e = absurd (let f = e in cc)
open_seen (b ∷ bs) l rest e = ap (λ (x : LeftLine). x.bytes) (first_same l (line_of (b ∷ bs) false) rest [] e)

nothing_open : (bytes : List ℕ) → open_line bytes ≡ [] → bytes ≡ []
nothing_open [] e = refl
nothing_open (b ∷ bs) e = absurd (some_first (line_of (b ∷ bs) false) [] e)
  where
    some_first : (l : LeftLine) (ls : List LeftLine) → l ∷ ls ≡ [] → ⊥
    some_first l ls e = cc

-- the input at its end
abbrev pub ended_input : InputData → InputData
ended_input i = record i { over = true }

-- no byte is left
pub ends_empty : (r : ReaderData) (new : InputData) (out : List ℕ) → IsOpen r.input → TakesLine (ended_input r.input) (Ok None) new
    → (all before : List ℕ) → Keeps r all (before ++ out) → script_report all ≡ record { written = before ++ out; refused = false }
ends_empty r new out unended takes all before k =
    let last = last_line r all (before ++ out) k unended in
    let none : k.left ≡ [] = nothing_open k.left (sym (last_lines r all (before ++ out) k last) ∙ of takes.0.1) in
    last_report r all (before ++ out) k last
    ∙ (ap (λ bs. prepended (before ++ out) (report_from r.number (Whole bs ∷ []) r.session)) none
    ∙ empty_left (before ++ out) r.number r.session)
  where
    of : ((true ≡ true) × (r.input.lines ≡ [])) ⊎ ((true ≡ false) × All (λ l. l.ended ≡ false) r.input.lines) → r.input.lines ≡ []
    of (inl e) = e.1
    of (inr e) = absurd (let f = e.0 in cc)

-- the last line was read
pub ends_read : (next : Next) (refused : Bool) (r : ReaderData) (n : ℕ) (d : SessionData) (line : Line) (new : InputData) (out now : List ℕ)
    → IsOpen r.input → TakesLine (ended_input r.input) (Ok (Some line)) new
    → refused ≡ is_refused next
    → FollowsAll next r line (record { input = new; number = n; session = d }) out now
    → (all before : List ℕ) → Keeps r all (before ++ out) → script_report all ≡ record { written = before ++ now; refused = refused }
ends_read next refused r n d line new out now unended takes answer follows all before k = of next answer follows
  where
    last : Last k.done k.left
    last = last_line r all (before ++ out) k unended

    found : script_report all ≡ prepended (before ++ out)
        (report_on (report_from (r.number + 1) []) r.number (line_steps line r.session) r.session)
    found =
        let reads = takes.1.0 in
        let bytes = open_seen k.left reads.line reads.rest (sym reads.next.front ∙ last_lines r all (before ++ out) k last) in
        last_report r all (before ++ out) k last
        ∙ ap (λ (x : Report). prepended (before ++ out) x)
        (piece_read (Whole k.left) line r.number [] r.session (line_found k.left reads.line.bytes line bytes reads.read))

    of : (next : Next) → refused ≡ is_refused next → FollowsAll next r line (record { input = new; number = n; session = d }) out now
        → script_report all ≡ record { written = before ++ now; refused = refused }
    of Done answer follows =
        found ∙ (follows_before Done before out now _ (report_from n [] d) (follows [])
        ∙ (none_left (before ++ now) n d ∙ ap (λ (b : Bool). record { written = before ++ now; refused = b }) (sym answer)))
    of Awaited answer follows = absurd (follows [])
    of Refused answer follows =
        found ∙ (follows_before Refused before out now _ (report_from n [] d) (follows [])
        ∙ ap (λ (b : Bool). record { written = before ++ now; refused = b }) (sym answer))

-- the last line can't be read
pub ends_unread : (r : ReaderData) (why : LineBad) (new : InputData) (out now : List ℕ) → IsOpen r.input
    → TakesLine (ended_input r.input) (Err why) new → TellsRefusal why r.number out now
    → (all before : List ℕ) → Keeps r all (before ++ out) → script_report all ≡ record { written = before ++ now; refused = true }
ends_unread r why new out now unended takes told all before k = of why takes told
  where
    last : Last k.done k.left
    last = last_line r all (before ++ out) k unended

    whole : (why : LineBad) → Reads (ended_input r.input) (Err why) → TellsRefusal why r.number out now
        → script_report all ≡ record { written = before ++ now; refused = true }
    whole why reads told =
        let bytes = open_seen k.left reads.line reads.rest (sym reads.next.front ∙ last_lines r all (before ++ out) k last) in
        last_report r all (before ++ out) k last
        ∙ piece_refused (Whole k.left) told.cause (before ++ out) (before ++ now) r.number [] r.session
        (line_refused k.left reads.line.bytes why told.cause bytes reads.read told.is)
        (told_before before out now (refused_text r.number told.cause) told.written)

    of : (why : LineBad) → TakesLine (ended_input r.input) (Err why) new → TellsRefusal why r.number out now
        → script_report all ≡ record { written = before ++ now; refused = true }
    of reading.Limit takes told = absurd (let past = takes.0.0 in omega (arith, past, unended.0))
    of reading.Long takes told = whole reading.Long takes.0 told
    of reading.Utf8 takes told = whole reading.Utf8 takes.0 told
    of reading.Form takes told = whole reading.Form takes.0 told
    of reading.Memory takes told = absurd (none_same told.cause told.is)

-- ---- what a reader keeps says of reports

-- the bytes written are a front of each report
pub kept_is_front : (r : ReaderData) (all written more : List ℕ) → Keeps r all written
    → (rest : List ℕ) × ((script_report (all ++ more)).written ≡ written ++ rest)
kept_is_front r all written more k =
    let on = ap (λ xs. script_report (xs ++ more)) k.parts
    ∙ (ap script_report (append_assoc k.done k.left more) ∙ k.goes_on (k.left ++ more)) in
    ((report_from r.number (pieces_after (length k.done) (k.left ++ more)) r.session).written, ap (λ (x : Report). x.written) on)

-- the lines done are reported
pub done_is_reported : (r : ReaderData) (all written : List ℕ) (k : Keeps r all written)
    → script_report k.done ≡ record { written = written; refused = false }
done_is_reported r all written k =
    ap script_report (sym (append-nil k.done))
    ∙ (k.goes_on []
    ∙ (ap (λ ps. prepended written (report_from r.number ps r.session))
    (pieces_end (length k.done) [] (All-nil (λ (b : ℕ). (b == 10) ≡ false)) (omega (arith, k.within)))
    ∙ empty_left written r.number r.session))
