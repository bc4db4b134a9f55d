-- Lines of pieces: how they join, and how many bytes they are.
use Rattle.std.proofs.Common.{◌≡◌, ◌≢◌, ℕ, zero, suc, ◌+◌, ◌-◌, ◌≤◌, ◌<◌, Bool, true, false, cond, inl, inr, List, [], ◌∷◌, ◌++◌, refl, sym, ap, ◌∙◌, arith, length, take, append_assoc, length-append}
use Rattle.std.specs.Prelude.{◌==◌}
use Rattle.std.specs.List.{slice_split, onto_first}
use Rattle.std.proofs.Math.Seq.{take-append-add}
use Rattle.std.proofs.lemmas.Bool.{cases_Bool}
use Rattle.std.proofs.lemmas.List.{take-take}
use Rattle.std.proofs.lemmas.List.Splits.{slice_split-cons_yes, slice_split-cons_no, slice_split_none, slice_split_at, length-slice_split}
use Rattle.script_text.specs.declared.reading.parse.TheConstants.{LONGEST}
use Rattle.script_text.specs.LeftLines.{LeftLine}
use Rattle.script_text.specs.Streams.{seen, line_of, open_line, all_but_last_ended, lines_in, continued, going_on, followed_by}
use Rattle.script_text.specs.Code.Keeping.{HasNoFeed, feeds_of, size_of}

-- ---- fronts of lists

pub take_front : {A : Type 0} (n : ℕ) (xs ys : List A) → take n (take n xs ++ ys) ≡ take n (xs ++ ys)
take_front zero xs ys = refl
take_front (suc n) [] ys = refl
take_front (suc n) (x ∷ xs) ys = ap (λ zs. x ∷ zs) (take_front n xs ys)

pub take_back : {A : Type 0} (n m : ℕ) (xs ys : List A) → n ≤ m → take n (xs ++ take m ys) ≡ take n (xs ++ ys)
take_back n m [] ys h = take-take n m ys h
take_back zero m (x ∷ xs) ys h = refl
take_back (suc n) m (x ∷ xs) ys h = ap (λ zs. x ∷ zs) (take_back n m xs ys (omega (arith, h)))

pub take_past : {A : Type 0} (n : ℕ) (xs ys : List A) → length xs ≤ n → take n (xs ++ ys) ≡ xs ++ take (n - length xs) ys
take_past n xs ys h =
    let e : n ≡ length xs + (n - length xs) = omega (arith, h) in
    ap (λ m. take m (xs ++ ys)) e ∙ take-append-add xs ys (n - length xs)

-- ---- a line that goes on with another

-- a line cut in two
pub continued_line : (a b : List ℕ) (ended : Bool) → continued (line_of a false) (line_of b ended) ≡ line_of (a ++ b) ended
continued_line a b ended =
    let bytes : seen (seen a ++ seen b) ≡ seen (a ++ b) =
    take_front (LONGEST + 1) a (seen b) ∙ take_back (LONGEST + 1) (LONGEST + 1) a b (omega arith) in
    let len : length a + length b ≡ length (a ++ b) = sym (length-append a b) in
    ap (λ (bs : List ℕ). record { bytes = bs; len = length a + length b; ended = ended }) bytes
    ∙ ap (λ (n : ℕ). record { bytes = seen (a ++ b); len = n; ended = ended }) len

pub continued_assoc : (l m n : LeftLine) → continued (continued l m) n ≡ continued l (continued m n)
continued_assoc l m n =
    let k = LONGEST + 1 in
    let bytes : seen (seen (l.bytes ++ m.bytes) ++ n.bytes) ≡ seen (l.bytes ++ seen (m.bytes ++ n.bytes)) =
    take_front k (l.bytes ++ m.bytes) n.bytes
    ∙ (ap (take k) (append_assoc l.bytes m.bytes n.bytes) ∙ sym (take_back k k l.bytes (m.bytes ++ n.bytes) (omega arith))) in
    let len : l.len + m.len + n.len ≡ l.len + (m.len + n.len) = omega arith in
    ap (λ (bs : List ℕ). record { bytes = bs; len = l.len + m.len + n.len; ended = n.ended }) bytes
    ∙ ap (λ (k : ℕ). record { bytes = seen (l.bytes ++ seen (m.bytes ++ n.bytes)); len = k; ended = n.ended }) len

-- ---- lines followed by lines

pub followed-nil : (ls : List LeftLine) → followed_by ls [] ≡ ls
unfolding followed_by
followed-nil [] = refl
followed-nil (l ∷ []) = refl
followed-nil (l ∷ k ∷ ls) = ap (λ ms. l ∷ ms) (followed-nil (k ∷ ls))

going_ended : (l : LeftLine) (ms : List LeftLine) → l.ended ≡ true → going_on l ms ≡ l ∷ ms
going_ended l [] e = refl
going_ended l (m ∷ ms) e = ap (λ b. cond b (l ∷ m ∷ ms) (continued l m ∷ ms)) e

going_open : (l m : LeftLine) (ms : List LeftLine) → l.ended ≡ false → going_on l (m ∷ ms) ≡ continued l m ∷ ms
going_open l m ms e = ap (λ b. cond b (l ∷ m ∷ ms) (continued l m ∷ ms)) e

-- an ended line stays as it is
pub followed_ended : (l : LeftLine) (ls ms : List LeftLine) → l.ended ≡ true → followed_by (l ∷ ls) ms ≡ l ∷ followed_by ls ms
unfolding followed_by
followed_ended l [] ms e = going_ended l ms e
followed_ended l (k ∷ ls) ms e = refl

-- a first line stays first
record Begins (ls : List LeftLine) : Type 0 where
  first : LeftLine
  others : List LeftLine
  is : ls ≡ first ∷ others

going_begins : (l : LeftLine) (ms : List LeftLine) → Begins (going_on l ms)
going_begins l [] = record { first = l; others = []; is = refl }
going_begins l (m ∷ ms) = elim (cases_Bool l.ended) [
  | inl e ↦ record { first = l; others = m ∷ ms; is = going_ended l (m ∷ ms) e }
  | inr e ↦ record { first = continued l m; others = ms; is = going_open l m ms e }
]

followed_begins : (l : LeftLine) (ls ms : List LeftLine) → Begins (followed_by (l ∷ ls) ms)
unfolding followed_by
followed_begins l [] ms = going_begins l ms
followed_begins l (k ∷ ls) ms = record { first = l; others = followed_by (k ∷ ls) ms; is = refl }

followed_past : (l : LeftLine) (ls ms : List LeftLine) → Begins ls → followed_by (l ∷ ls) ms ≡ l ∷ followed_by ls ms
unfolding followed_by
followed_past l ls ms b = ap (λ ks. followed_by (l ∷ ks) ms) b.is ∙ ap (λ ks. l ∷ followed_by ks ms) (sym b.is)

-- joining is associative
one_assoc : (l : LeftLine) (b c : List LeftLine) → followed_by (going_on l b) c ≡ going_on l (followed_by b c)
unfolding followed_by
one_assoc l [] c = refl
one_assoc l (m ∷ ms) c = elim (cases_Bool l.ended) [
  | inl e ↦
      ap (λ ls. followed_by ls c) (going_ended l (m ∷ ms) e)
      ∙ (followed_ended l (m ∷ ms) c e ∙ sym (going_ended l (followed_by (m ∷ ms) c) e))
  | inr e ↦ ap (λ ls. followed_by ls c) (going_open l m ms e) ∙ unended l m ms c e
]
  where
    unended_one : (l m : LeftLine) (c : List LeftLine) → l.ended ≡ false → going_on (continued l m) c ≡ going_on l (going_on m c)
    unended_one l m [] e = sym (going_open l m [] e)
    unended_one l m (n ∷ ns) e = elim (cases_Bool m.ended) [
      | inl d ↦ going_ended (continued l m) (n ∷ ns) d
          ∙ (sym (going_open l m (n ∷ ns) e) ∙ ap (going_on l) (sym (going_ended m (n ∷ ns) d)))
      | inr d ↦
          going_open (continued l m) n ns d
          ∙ (ap (λ k. k ∷ ns) (continued_assoc l m n)
          ∙ (sym (going_open l (continued m n) ns e) ∙ ap (going_on l) (sym (going_open m n ns d))))
    ]

    unended : (l m : LeftLine) (ms c : List LeftLine) → l.ended ≡ false
        → followed_by (continued l m ∷ ms) c ≡ going_on l (followed_by (m ∷ ms) c)
    unended l m [] c e = unended_one l m c e
    unended l m (k ∷ ks) c e = sym (going_open l m (followed_by (k ∷ ks) c) e)

pub followed_assoc : (a b c : List LeftLine) → followed_by (followed_by a b) c ≡ followed_by a (followed_by b c)
unfolding followed_by
followed_assoc [] b c = refl
followed_assoc (l ∷ []) b c = one_assoc l b c
followed_assoc (l ∷ k ∷ ls) b c =
    followed_past l (followed_by (k ∷ ls) b) c (followed_begins k ls b) ∙ ap (λ ms. l ∷ ms) (followed_assoc (k ∷ ls) b c)

-- ---- lines of bytes

-- the parts of bytes are some
record Some_parts (bs : List ℕ) : Type 0 where
  part : List ℕ
  parts : List (List ℕ)
  are : slice_split (λ b. b == 10) bs ≡ part ∷ parts

some_parts : (bs : List ℕ) → Some_parts bs
some_parts bs = of (slice_split (λ b. b == 10) bs) refl
  where
    of : (ps : List (List ℕ)) → slice_split (λ b. b == 10) bs ≡ ps → Some_parts bs
    of [] e =
        absurd (let none : length (slice_split (λ b. b == 10) bs) ≡ 0 = ap length e in
        omega (arith, none, length-slice_split (λ b. b == 10) bs))
    of (p ∷ ps) e = record { part = p; parts = ps; are = e }

pub lines_in-nil : lines_in [] ≡ []
unfolding all_but_last_ended
lines_in-nil = refl

-- bytes without a line feed
pub lines_in_part : (p : List ℕ) → HasNoFeed p → lines_in p ≡ open_line p
unfolding all_but_last_ended
lines_in_part p none = ap all_but_last_ended (slice_split_none (λ b. b == 10) p none)

-- and with one after them
pub lines_in_feed : (p rest : List ℕ) → HasNoFeed p → lines_in (p ++ 10 ∷ rest) ≡ line_of p true ∷ lines_in rest
unfolding all_but_last_ended
lines_in_feed p rest none =
    let some = some_parts rest in
    ap all_but_last_ended (slice_split_at (λ b. b == 10) p 10 rest none refl ∙ ap (λ ps. p ∷ ps) some.are)
    ∙ ap (λ ps. line_of p true ∷ all_but_last_ended ps) (sym some.are)

-- one byte before others
not_alone : (b : ℕ) (ps : List (List ℕ)) (p : List ℕ)
    → all_but_last_ended ((b ∷ p) ∷ ps) ≡ followed_by (line_of (b ∷ []) false ∷ []) (all_but_last_ended (p ∷ ps))
unfolding all_but_last_ended followed_by
not_alone b [] [] = refl
not_alone b [] (c ∷ cs) = ap (λ l. l ∷ []) (sym (continued_line (b ∷ []) (c ∷ cs) false))
not_alone b (q ∷ qs) p = ap (λ l. l ∷ all_but_last_ended (q ∷ qs)) (sym (continued_line (b ∷ []) p true))

feed_alone : lines_in (10 ∷ []) ≡ line_of [] true ∷ []
unfolding all_but_last_ended
feed_alone = refl

byte_alone : (b : ℕ) → (b == 10) ≡ false → lines_in (b ∷ []) ≡ line_of (b ∷ []) false ∷ []
unfolding all_but_last_ended
byte_alone b e = ap all_but_last_ended (slice_split-cons_no (λ x. x == 10) b [] e)

lines_in-cons : (b : ℕ) (bs : List ℕ) → lines_in (b ∷ bs) ≡ followed_by (lines_in (b ∷ [])) (lines_in bs)
unfolding all_but_last_ended followed_by
lines_in-cons b bs =
    let some = some_parts bs in
    elim (cases_Bool (b == 10)) [
      | inl e ↦
          let alone : lines_in (b ∷ []) ≡ line_of [] true ∷ [] = ap all_but_last_ended (slice_split-cons_yes (λ x. x == 10) b [] e) in
          ap all_but_last_ended (slice_split-cons_yes (λ x. x == 10) b bs e ∙ ap (λ ps. [] ∷ ps) some.are)
          ∙ (ap (λ ps. line_of [] true ∷ all_but_last_ended ps) (sym some.are)
          ∙ (sym (followed_ended (line_of [] true) [] (lines_in bs) refl) ∙ ap (λ ls. followed_by ls (lines_in bs)) (sym alone)))
      | inr e ↦
          ap all_but_last_ended (slice_split-cons_no (λ x. x == 10) b bs e ∙ ap (onto_first b) some.are)
          ∙ (not_alone b some.parts some.part
          ∙ (ap (λ ps. followed_by (line_of (b ∷ []) false ∷ []) (all_but_last_ended ps)) (sym some.are)
          ∙ ap (λ ls. followed_by ls (lines_in bs)) (sym (byte_alone b e))))
    ]

-- bytes cut in two
pub lines_in-append : (a b : List ℕ) → lines_in (a ++ b) ≡ followed_by (lines_in a) (lines_in b)
unfolding all_but_last_ended followed_by
lines_in-append [] b = refl
lines_in-append (x ∷ xs) b =
    lines_in-cons x (xs ++ b)
    ∙ (ap (followed_by (lines_in (x ∷ []))) (lines_in-append xs b)
    ∙ (sym (followed_assoc (lines_in (x ∷ [])) (lines_in xs) (lines_in b))
    ∙ ap (λ ls. followed_by ls (lines_in b)) (sym (lines_in-cons x xs))))

-- ---- how many bytes they are

size_of-cons : (l : LeftLine) (ls : List LeftLine) → size_of (l ∷ ls) ≡ l.len + feeds_of l.ended + size_of ls
unfolding size_of
size_of-cons l ls = refl

size_going : (l : LeftLine) (ms : List LeftLine) → size_of (going_on l ms) ≡ l.len + feeds_of l.ended + size_of ms
size_going l [] = size_of-cons l []
size_going l (m ∷ ms) = elim (cases_Bool l.ended) [
  | inl e ↦ ap size_of (going_ended l (m ∷ ms) e) ∙ size_of-cons l (m ∷ ms)
  | inr e ↦
      let first = ap size_of (going_open l m ms e) ∙ size_of-cons (continued l m) ms in
      let second = size_of-cons m ms in
      let zero : feeds_of l.ended ≡ 0 = ap feeds_of e in
      omega (arith, first, second, zero)
]

pub size-followed : (a b : List LeftLine) → size_of (followed_by a b) ≡ size_of a + size_of b
unfolding followed_by size_of
size-followed [] b = omega arith
size-followed (l ∷ []) b = let s = size_going l b in omega (arith, s)
size-followed (l ∷ k ∷ ls) b = let s = size-followed (k ∷ ls) b in omega (arith, s)

size_byte : (b : ℕ) → size_of (lines_in (b ∷ [])) ≡ 1
unfolding all_but_last_ended size_of
size_byte b = elim (cases_Bool (b == 10)) [
  | inl e ↦ ap (λ ps. size_of (all_but_last_ended ps)) (slice_split-cons_yes (λ x. x == 10) b [] e)
  | inr e ↦ ap size_of (byte_alone b e)
]

pub size-lines_in : (bs : List ℕ) → size_of (lines_in bs) ≡ length bs
unfolding all_but_last_ended size_of
size-lines_in [] = refl
size-lines_in (b ∷ bs) =
    let all = ap size_of (lines_in-cons b bs) ∙ size-followed (lines_in (b ∷ [])) (lines_in bs) in
    omega (arith, all, size_byte b, size-lines_in bs)

pub size_some : (ls : List LeftLine) → 0 < size_of ls → ls ≢ []
unfolding size_of
size_some ls h e = let none : size_of ls ≡ 0 = ap size_of e in omega (arith, none, h)
