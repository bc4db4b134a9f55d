-- Bytes and lines of scripts: where the first line ends, what the pieces after a place are, and what a line is read as.
use Rattle.std.proofs.Common.{◌≡◌, ◌≢◌, ℕ, suc, ◌+◌, ◌-◌, ◌≤◌, ◌<◌, true, false, inl, inr, ◌⊎◌, List, [], ◌∷◌, ◌++◌, refl, sym, ap, subst, ◌∙◌, arith, length, take, map, length-append}
use Rattle.std.specs.Prelude.{nat_le, ◌==◌, Result, Ok, Err, Some, None, if◌then◌else◌}
use Rattle.std.specs.List.{All}
use Rattle.std.specs.Str.{is_utf8}
use Rattle.std.proofs.lemmas.Bool.{cases_Bool, le-leb, eqb-true, ne_eqb}
use Rattle.std.proofs.lemmas.Bool.Decides.{nat_tests}
use Rattle.std.proofs.lemmas.List.{take_all, length-take, take-append-le}
use Rattle.std.proofs.lemmas.List.Elements.{All-nil, All-cons, All-take, All-weaker}
use Rattle.std.proofs.lemmas.List.Splits.{slice_split_none, slice_split_at, length-slice_split}
use Rattle.std.proofs.lemmas.Str.{is_utf8-from_IsUtf8, IsUtf8-from_is_utf8, IsUtf8-nil}
use Rattle.script_text.specs.declared.reading.line.Line.{Line}
use Rattle.script_text.specs.declared.reading.line.Line.TheVariants.{Blank}
use Rattle.script_text.specs.declared.reading.line.LineBad.{LineBad}
use Rattle.script_text.specs.declared.reading.line.LineBad.TheVariants as reading
use Rattle.script_text.specs.declared.report.refusal.Refusal.{Refusal}
use Rattle.script_text.specs.declared.report.refusal.Refusal.TheVariants as refusal
use Rattle.script_text.specs.declared.reading.parse.TheConstants.{LONGEST}
use Rattle.script_text.specs.declared.reading.stream.TheConstants.{MAX_SCRIPT}
use Rattle.script_text.specs.Answers.{Answers, line_in}
use Rattle.script_text.specs.Streams.{seen, line_of, lines_in, looked_at}
use Rattle.script_text.specs.Code.Keeping.{HasNoFeed, size_of}
use Rattle.script_text.proofs.CallerLemmas.{take_past, lines_in_feed, size-lines_in, either}
use Rattle.session_replay.specs.Answers.{unread_by}
use Rattle.session_replay.specs.Scripts.{Piece, Whole, Past, lines_of, cut_off, pieces_of, line_read}
use Rattle.session_replay.specs.Readers.{pieces_after}

-- ---- the first line

-- a first line, its line feed, and what follows
pub record FirstLine (bytes : List ℕ) : Type 0 where
  pub line : List ℕ
  pub rest : List ℕ
  pub parts : bytes ≡ line ++ 10 ∷ rest
  pub no_feed : HasNoFeed line

first_line : (bytes : List ℕ) → HasNoFeed bytes ⊎ FirstLine bytes
first_line [] = inl (All-nil (λ (b : ℕ). (b == 10) ≡ false))
first_line (b ∷ bs) = of (cases_Bool (b == 10)) (first_line bs)
  where
    of : ((b == 10) ≡ true) ⊎ ((b == 10) ≡ false) → HasNoFeed bs ⊎ FirstLine bs → HasNoFeed (b ∷ bs) ⊎ FirstLine (b ∷ bs)
    of (inl e) r =
        inr (record { line = []; rest = bs; parts = ap (λ x. x ∷ bs) (eqb-true b 10 e); no_feed = All-nil (λ (b : ℕ). (b == 10) ≡ false) })
    of (inr e) (inl none) = inl (All-cons (λ (b : ℕ). (b == 10) ≡ false) b bs e none)
    of (inr e) (inr f) =
        inr (record {
          line = b ∷ f.line;
          rest = f.rest;
          parts = ap (λ xs. b ∷ xs) f.parts;
          no_feed =
              All-cons (λ (b : ℕ). (b == 10) ≡ false) b f.line e f.no_feed;
        })

-- no line feed, in both spellings
pub open_bytes : (bytes : List ℕ) → HasNoFeed bytes → All (λ b. b ≢ 10) bytes
open_bytes bytes none = All-weaker (λ (b : ℕ). (b == 10) ≡ false) (λ (b : ℕ). b ≢ 10) (λ b e. grind (arith, nat_tests)) bytes none

pub no_feed_in : (bytes : List ℕ) → All (λ b. b ≢ 10) bytes → HasNoFeed bytes
no_feed_in bytes none = All-weaker (λ (b : ℕ). b ≢ 10) (λ (b : ℕ). (b == 10) ≡ false) (λ b e. ne_eqb b 10 e) bytes none

-- ---- the lines that an input keeps of bytes

-- of bytes that stand after so many others, the first line within the part that is looked at, and what follows
pub record Front (n : ℕ) (bytes : List ℕ) : Type 0 where
  pub line : List ℕ
  pub after : List ℕ
  pub parts : bytes ≡ line ++ 10 ∷ after
  pub no_feed : HasNoFeed line
  pub room : n + length line ≤ MAX_SCRIPT
  pub lines : lines_in (looked_at n bytes) ≡ line_of line true ∷ lines_in (looked_at (n + length line + 1) after)

-- a line and its line feed, and as much of what follows as fits
take_line : (m n : ℕ) (line after : List ℕ) → n + length line + 1 ≤ m
    → take (m - n) (line ++ 10 ∷ after) ≡ line ++ 10 ∷ take (m - (n + length line + 1)) after
take_line m n line after h =
    let one : m - n - length line ≡ suc (m - (n + length line + 1)) = omega (arith, h) in
    take_past (m - n) line (10 ∷ after) (omega (arith, h)) ∙ ap (λ k. line ++ take k (10 ∷ after)) one

none_taken : (k : ℕ) (line rest : List ℕ) → HasNoFeed line → k ≤ length line → HasNoFeed (take k (line ++ rest))
none_taken k line rest none h = subst HasNoFeed (sym (take-append-le k line rest h)) (All-take (λ (b : ℕ). (b == 10) ≡ false) k line none)

pub front_line : (n : ℕ) (bytes : List ℕ) → HasNoFeed (looked_at n bytes) ⊎ Front n bytes
front_line n bytes = of (first_line bytes)
  where
    within : (f : FirstLine bytes) → (MAX_SCRIPT < n + length f.line) ⊎ (n + length f.line ≤ MAX_SCRIPT)
        → HasNoFeed (looked_at n bytes) ⊎ Front n bytes
    within f (inl past) =
        inl (subst (λ bs. HasNoFeed (looked_at n bs)) (sym f.parts)
        (none_taken (MAX_SCRIPT + 1 - n) f.line (10 ∷ f.rest) f.no_feed (omega (arith, past))))
    within f (inr room) =
        let taken : looked_at n bytes ≡ f.line ++ 10 ∷ looked_at (n + length f.line + 1) f.rest =
        ap (looked_at n) f.parts ∙ take_line (MAX_SCRIPT + 1) n f.line f.rest (omega (arith, room)) in
        inr (record {
          line = f.line;
          after = f.rest;
          parts = f.parts;
          no_feed = f.no_feed;
          room = room;
          lines = ap lines_in taken ∙ lines_in_feed f.line (looked_at (n + length f.line + 1) f.rest) f.no_feed;
        })

    of : HasNoFeed bytes ⊎ FirstLine bytes → HasNoFeed (looked_at n bytes) ⊎ Front n bytes
    of (inl none) = inl (All-take (λ (b : ℕ). (b == 10) ≡ false) (MAX_SCRIPT + 1 - n) bytes none)
    of (inr f) = within f (either MAX_SCRIPT (n + length f.line))

-- all bytes are looked at up to the limit
pub all_looked : (n : ℕ) (bytes : List ℕ) → n + length bytes ≤ MAX_SCRIPT → looked_at n bytes ≡ bytes
all_looked n bytes h = take_all (MAX_SCRIPT + 1 - n) bytes (omega (arith, h))

-- no lines are no bytes
pub no_bytes : (bytes : List ℕ) → lines_in bytes ≡ [] → length bytes ≡ 0
unfolding size_of
no_bytes bytes e = let zero = ap size_of e in let all = size-lines_in bytes in omega (arith, zero, all)

-- ---- the pieces after a place

lines_are_some : (bytes : List ℕ) → lines_of bytes ≡ [] → ⊥
lines_are_some bytes none =
    let count = length-slice_split (λ b. b == 10) bytes in
    let zero : length (lines_of bytes) ≡ 0 = ap (λ (ls : List (List ℕ)). length ls) none in
    omega (arith, count, zero)

cut_more : (line : List ℕ) (ls : List (List ℕ)) → (ls ≡ [] → ⊥) → cut_off (line ∷ ls) ≡ Whole line ∷ cut_off ls
unfolding cut_off
cut_more line [] some = absurd (some refl)
cut_more line (next ∷ ls) some = refl

cut_one : (line : List ℕ) → cut_off (line ∷ []) ≡ Past ∷ []
unfolding cut_off
cut_one line = refl

-- the same for any limit
pieces_within : ℕ → ℕ → List ℕ → List Piece
pieces_within m n bytes = if nat_le (n + length bytes) m then map Whole (lines_of bytes) else cut_off (lines_of (take (m - n) bytes))

lines_feed : (line rest : List ℕ) → HasNoFeed line → lines_of (line ++ 10 ∷ rest) ≡ line ∷ lines_of rest
lines_feed line rest none = slice_split_at (λ b. b == 10) line 10 rest none refl

within_line : (m n : ℕ) (line more : List ℕ) → HasNoFeed line → n + length line + 1 ≤ m
    → pieces_within m n (line ++ 10 ∷ more) ≡ Whole line ∷ pieces_within m (n + length line + 1) more
unfolding pieces_within
within_line m n line more none h = elim (cases_Bool (nat_le (n + length (line ++ 10 ∷ more)) m)) [
  | inl e ↦
      let also : nat_le (n + length line + 1 + length more) m ≡ true = ap (λ k. nat_le k m) same ∙ e in
      rw (e, also) (ap (map Whole) (lines_feed line more none))
  | inr e ↦
      let also : nat_le (n + length line + 1 + length more) m ≡ false = ap (λ k. nat_le k m) same ∙ e in
      let rest = take (m - (n + length line + 1)) more in
      rw (e, also) (ap (λ bs. cut_off (lines_of bs)) (take_line m n line more h)
      ∙ (ap cut_off (lines_feed line rest none) ∙ cut_more line (lines_of rest) (lines_are_some rest)))
]
  where
    same : n + length line + 1 + length more ≡ n + length (line ++ 10 ∷ more)
    same = let all = length-append line (10 ∷ more) in omega (arith, all)

within_end : (m n : ℕ) (bytes : List ℕ) → HasNoFeed bytes → n + length bytes ≤ m → pieces_within m n bytes ≡ Whole bytes ∷ []
unfolding pieces_within
within_end m n bytes none h = rw (le-leb (n + length bytes) m h) (ap (map Whole) (slice_split_none (λ b. b == 10) bytes none))

within_past : (m n : ℕ) (bytes more : List ℕ) → HasNoFeed (take (m - n) bytes) → m < n + length bytes
    → pieces_within m n (bytes ++ more) ≡ Past ∷ []
unfolding pieces_within
within_past m n bytes more none h =
    let all = length-append bytes more in
    let past : nat_le (n + length (bytes ++ more)) m ≡ false = grind (arith, nat_tests, all, h) in
    let front = take-append-le (m - n) bytes more (omega (arith, h)) in
    rw past (ap (λ bs. cut_off (lines_of bs)) front
    ∙ (ap cut_off (slice_split_none (λ b. b == 10) (take (m - n) bytes) none) ∙ cut_one (take (m - n) bytes)))

within_first : (m : ℕ) (bytes : List ℕ)
    → (if nat_le (length bytes) m then map Whole (lines_of bytes) else cut_off (lines_of (take m bytes))) ≡ pieces_within m 0 bytes
unfolding pieces_within
within_first m bytes =
    let all : length bytes ≡ 0 + length bytes = omega arith in
    let rest : m ≡ m - 0 = omega arith in
    ap (λ k. if nat_le k m then map Whole (lines_of bytes) else cut_off (lines_of (take m bytes))) all
    ∙ ap (λ k. if nat_le (0 + length bytes) m then map Whole (lines_of bytes) else cut_off (lines_of (take k bytes))) rest

-- the pieces of all bytes
pub pieces_first : (bytes : List ℕ) → pieces_of bytes ≡ pieces_after 0 bytes
unfolding pieces_within
pieces_first bytes = within_first MAX_SCRIPT bytes

-- a line before others
pub pieces_line : (n : ℕ) (line more : List ℕ) → HasNoFeed line → n + length line + 1 ≤ MAX_SCRIPT
    → pieces_after n (line ++ 10 ∷ more) ≡ Whole line ∷ pieces_after (n + length line + 1) more
unfolding pieces_within
pieces_line n line more none h = within_line MAX_SCRIPT n line more none h

-- the last line
pub pieces_end : (n : ℕ) (bytes : List ℕ) → HasNoFeed bytes → n + length bytes ≤ MAX_SCRIPT → pieces_after n bytes ≡ Whole bytes ∷ []
unfolding pieces_within
pieces_end n bytes none h = within_end MAX_SCRIPT n bytes none h

-- a line past the limit
pub pieces_past : (n : ℕ) (bytes more : List ℕ) → HasNoFeed (take (MAX_SCRIPT - n) bytes) → MAX_SCRIPT < n + length bytes
    → pieces_after n (bytes ++ more) ≡ Past ∷ []
unfolding pieces_within
pieces_past n bytes more none h = within_past MAX_SCRIPT n bytes more none h

-- ---- what a line is read as

whole_seen : (bytes : List ℕ) → length (seen bytes) ≤ LONGEST → seen bytes ≡ bytes
whole_seen bytes h = take_all (LONGEST + 1) bytes (omega (arith, h, length-take (LONGEST + 1) bytes))

-- an answer for what is seen of a line is one for the line
answers_seen : (bytes : List ℕ) (r : Result Line LineBad) → Answers (seen bytes) r → Answers bytes r
answers_seen bytes (Ok line) a = subst (λ bs. Answers bs (Ok line)) (whole_seen bytes a.0.0) a
answers_seen bytes (Err reading.Limit) a = a
answers_seen bytes (Err reading.Long) a = omega (arith, a, length-take (LONGEST + 1) bytes)
answers_seen bytes (Err reading.Utf8) a = subst (λ bs. Answers bs (Err reading.Utf8)) (whole_seen bytes a.0) a
answers_seen bytes (Err reading.Form) a = subst (λ bs. Answers bs (Err reading.Form)) (whole_seen bytes a.0.0) a
answers_seen bytes (Err reading.Memory) a = subst (λ bs. Answers bs (Err reading.Memory)) (whole_seen bytes a.0.0) a

some_same : (a b : Refusal) → Some a ≡ Some b → a ≡ b
some_same a b e = cc

line_long : (bytes : List ℕ) → LONGEST < length bytes → line_read (Whole bytes) ≡ Err refusal.Long
line_long bytes h = let long : nat_le (length bytes) LONGEST ≡ false = grind (arith, nat_tests, h) in rw long refl

line_no_text : (bytes : List ℕ) → Answers bytes (Err reading.Utf8) → line_read (Whole bytes) ≡ Err refusal.Utf8
line_no_text bytes a = rw (le-leb (length bytes) LONGEST a.0) (elim (cases_Bool (is_utf8 bytes)) [
  | inl text ↦ absurd (a.1 (IsUtf8-from_is_utf8 bytes text))
  | inr no_text ↦ rw no_text refl
])

line_no_row : (bytes : List ℕ) → Answers bytes (Err reading.Form) → line_read (Whole bytes) ≡ Err refusal.Form
line_no_row bytes a = rw (le-leb (length bytes) LONGEST a.0.0, is_utf8-from_IsUtf8 bytes a.0.1, a.1) refl

pub line_is : (bytes : List ℕ) (line : Line) → Answers bytes (Ok line) → line_read (Whole bytes) ≡ Ok line
line_is bytes line a = rw (le-leb (length bytes) LONGEST a.0.0, is_utf8-from_IsUtf8 bytes a.0.1, a.1) refl

-- a line that is read
pub line_found : (bytes kept : List ℕ) (line : Line) → kept ≡ seen bytes → Answers kept (Ok line) → line_read (Whole bytes) ≡ Ok line
line_found bytes kept line is a = line_is bytes line (answers_seen bytes (Ok line) (subst (λ bs. Answers bs (Ok line)) is a))

-- a line that can't be read
pub line_unread : (bytes : List ℕ) (why : LineBad) (cause : Refusal) → unread_by why ≡ Some cause → Answers bytes (Err why)
    → line_read (Whole bytes) ≡ Err cause
line_unread bytes reading.Limit cause e a = absurd a
line_unread bytes reading.Long cause e a = line_long bytes a ∙ ap (λ (r : Refusal). Err r) (some_same refusal.Long cause e)
line_unread bytes reading.Utf8 cause e a = line_no_text bytes a ∙ ap (λ (r : Refusal). Err r) (some_same refusal.Utf8 cause e)
line_unread bytes reading.Form cause e a = line_no_row bytes a ∙ ap (λ (r : Refusal). Err r) (some_same refusal.Form cause e)
line_unread bytes reading.Memory cause e a = absurd (let none : None ≡ Some cause = e in cc)

-- the same, by what is seen of the line
pub line_refused : (bytes kept : List ℕ) (why : LineBad) (cause : Refusal) → kept ≡ seen bytes → Answers kept (Err why)
    → unread_by why ≡ Some cause → line_read (Whole bytes) ≡ Err cause
line_refused bytes kept why cause is a e =
    line_unread bytes why cause e (answers_seen bytes (Err why) (subst (λ bs. Answers bs (Err why)) is a))

-- the empty line does nothing
pub line_empty : line_read (Whole []) ≡ Ok Blank
unfolding line_in
line_empty = line_is [] Blank ((omega arith, IsUtf8-nil), refl)
