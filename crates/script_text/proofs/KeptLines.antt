-- Lines by their kept bytes: what is added to them and taken from them.
use Rattle.std.proofs.Common.{◌≡◌, ℕ, zero, suc, ◌+◌, ◌-◌, ◌^◌, ◌≤◌, ◌<◌, true, false, List, [], ◌∷◌, ◌++◌, refl, sym, ap, ◌∙◌, arith, length, take, drop, append-nil, length-append, subst, get_or, zero-add, add-zero, lit≤}
use Rattle.std.proofs.lemmas.List.{take_all, take-take, length-take, length-drop, take-append-le, drop-append-le}
use Rattle.script_text.specs.declared.reading.parse.TheConstants.{LONGEST}
use Rattle.script_text.specs.LeftLines.{LeftLine}
use Rattle.script_text.specs.KeptData.{KeptData}
use Rattle.script_text.specs.Streams.{seen, line_of, open_line, lines_in, followed_by}
use Rattle.script_text.specs.Code.Keeping.{kept_of, kept_len, last_line, lines_cut, lines_kept, AreKept, with_part, with_end, IsFrontOf, HasNoFeed, size_of, IsFrontLine, HasFrontLine}
use Rattle.script_text.proofs.Joins.{take_past, take_back, followed_ended, followed_assoc, lines_in_part, lines_in_feed}

-- how many bytes are kept before the last line
kept_before : (ns : List ℕ) (last : ℕ) → kept_len ns last ≡ kept_len ns 0 + kept_of last
unfolding kept_len
kept_before [] last = omega arith
kept_before (n ∷ ns) last = let r = kept_before ns last in omega (arith, r)

kept_more : (ns : List ℕ) (n : ℕ) → kept_len (ns ++ n ∷ []) 0 ≡ kept_len ns n
unfolding kept_len
kept_more [] n = omega arith
kept_more (m ∷ ns) n = let r = kept_more ns n in omega (arith, r)

-- ---- bytes without a line feed go on with the last line

pub part_kept : (d : KeptData) (p : List ℕ) → AreKept d → AreKept (with_part p d)
part_kept d p h =
    let all = length-append d.bytes (take (LONGEST + 1 - kept_of d.last) p) in
    let more = length-take (LONGEST + 1 - kept_of d.last) p in
    let old = kept_before d.ended d.last in
    let new = kept_before d.ended (d.last + length p) in
    omega (arith, h, all, more, old, new)

pub last_some : (bytes : List ℕ) (n : ℕ) → 0 < n → last_line bytes n ≡ record { bytes = bytes; len = n; ended = false } ∷ []
last_some bytes zero h = absurd (omega (arith, h))
last_some bytes (suc n) h = refl

more_kept : (bytes : List ℕ) (n : ℕ) (p : List ℕ) → length bytes ≡ kept_of n
    → seen (bytes ++ seen p) ≡ bytes ++ take (LONGEST + 1 - kept_of n) p
more_kept bytes n p h =
    take_back (LONGEST + 1) (LONGEST + 1) bytes p (lit≤ tt)
    ∙ (take_past (LONGEST + 1) bytes p (omega (arith, h)) ∙ ap (λ m. bytes ++ take (LONGEST + 1 - m) p) h)

none_yet : (bytes : List ℕ) → length bytes ≡ kept_of 0 → bytes ≡ []
none_yet [] h = refl
none_yet (b ∷ bs) h = absurd (omega (arith, h))

last_part : (bytes : List ℕ) (last : ℕ) (p : List ℕ) → length bytes ≡ kept_of last
    → last_line (bytes ++ take (LONGEST + 1 - kept_of last) p) (last + length p) ≡ followed_by (last_line bytes last) (open_line p)
unfolding followed_by
last_part bytes zero [] h = refl
last_part bytes zero (b ∷ bs) h =
    let none = none_yet bytes h in
    last_some (bytes ++ take (LONGEST + 1 - kept_of 0) (b ∷ bs)) (0 + length (b ∷ bs)) (omega arith)
    ∙ (ap (λ (xs : List ℕ). record { bytes = xs ++ take (LONGEST + 1) (b ∷ bs); len = 0 + length (b ∷ bs); ended = false } ∷ []) none
    ∙ ap (λ (n : ℕ). record { bytes = take (LONGEST + 1) (b ∷ bs); len = n; ended = false } ∷ []) (zero-add (length (b ∷ bs))))
last_part bytes (suc n) [] h =
    last_some (bytes ++ take (LONGEST + 1 - kept_of (suc n)) []) (suc n + 0) (omega arith)
    ∙ (ap (λ (bs : List ℕ). record { bytes = bs; len = suc n + 0; ended = false } ∷ []) (nothing_more bytes (LONGEST + 1 - kept_of (suc n)))
    ∙ ap (λ (m : ℕ). record { bytes = bytes; len = m; ended = false } ∷ []) (add-zero (suc n)))
  where
    nothing_more : (xs : List ℕ) (k : ℕ) → xs ++ take k [] ≡ xs
    nothing_more xs zero = append-nil xs
    nothing_more xs (suc k) = append-nil xs
last_part bytes (suc n) (b ∷ bs) h =
    last_some (bytes ++ take (LONGEST + 1 - kept_of (suc n)) (b ∷ bs)) (suc n + length (b ∷ bs)) (omega arith)
    ∙ ap (λ (xs : List ℕ). record { bytes = xs; len = suc n + length (b ∷ bs); ended = false } ∷ [])
    (sym (more_kept bytes (suc n) (b ∷ bs) h))

cut_part : (ns bytes : List ℕ) (last : ℕ) (p : List ℕ) → length bytes ≡ kept_len ns last
    → lines_cut (bytes ++ take (LONGEST + 1 - kept_of last) p) ns (last + length p) ≡ followed_by (lines_cut bytes ns last) (open_line p)
unfolding kept_len lines_cut
cut_part [] bytes last p h = last_part bytes last p h
cut_part (n ∷ ns) bytes last p h =
    let more = take (LONGEST + 1 - kept_of last) p in
    let few : kept_of n ≤ length bytes = omega (arith, h) in
    let left : length (drop (kept_of n) bytes) ≡ kept_len ns last = omega (arith, length-drop (kept_of n) bytes, h) in
    ap (λ (bs : List ℕ). record { bytes = bs; len = n; ended = true } ∷ lines_cut (drop (kept_of n) (bytes ++ more)) ns (last + length p))
    (take-append-le (kept_of n) bytes more few)
    ∙ (ap (λ (bs : List ℕ). record { bytes = take (kept_of n) bytes; len = n; ended = true } ∷ lines_cut bs ns (last + length p))
    (drop-append-le (kept_of n) bytes more few)
    ∙ (ap (λ (ls : List LeftLine). record { bytes = take (kept_of n) bytes; len = n; ended = true } ∷ ls)
    (cut_part ns (drop (kept_of n) bytes) last p left)
    ∙ sym (followed_ended (record { bytes = take (kept_of n) bytes; len = n; ended = true }) (lines_cut (drop (kept_of n) bytes) ns last)
    (open_line p) refl)))

-- ---- a line feed ends the last line

pub end_kept : (d : KeptData) → AreKept d → AreKept (with_end d)
end_kept d h = let k = kept_more d.ended d.last in omega (arith, h, k)

whole_kept : (bytes : List ℕ) (n : ℕ) → length bytes ≡ kept_of n → take (kept_of n) bytes ≡ seen (bytes ++ [])
whole_kept bytes n h =
    take_all (kept_of n) bytes (omega (arith, h)) ∙ sym (ap seen (append-nil bytes) ∙ take_all (LONGEST + 1) bytes (omega (arith, h)))

last_end : (bytes : List ℕ) (last : ℕ) → length bytes ≡ kept_of last
    → ◌≡◌ {A = List LeftLine} (record { bytes = take (kept_of last) bytes; len = last; ended = true } ∷ [])
    (followed_by (last_line bytes last) (line_of [] true ∷ []))
unfolding followed_by
last_end bytes zero h = refl
last_end bytes (suc n) h =
    ap (λ (bs : List ℕ). record { bytes = bs; len = suc n; ended = true } ∷ []) (whole_kept bytes (suc n) h)
    ∙ ap (λ (m : ℕ). record { bytes = seen (bytes ++ []); len = m; ended = true } ∷ []) (sym (add-zero (suc n)))

cut_end : (ns bytes : List ℕ) (last : ℕ) → length bytes ≡ kept_len ns last
    → lines_cut bytes (ns ++ last ∷ []) 0 ≡ followed_by (lines_cut bytes ns last) (line_of [] true ∷ [])
unfolding kept_len lines_cut
cut_end [] bytes last h = last_end bytes last h
cut_end (n ∷ ns) bytes last h =
    let left : length (drop (kept_of n) bytes) ≡ kept_len ns last = omega (arith, length-drop (kept_of n) bytes, h) in
    ap (λ (ls : List LeftLine). record { bytes = take (kept_of n) bytes; len = n; ended = true } ∷ ls)
    (cut_end ns (drop (kept_of n) bytes) last left)
    ∙ sym (followed_ended (record { bytes = take (kept_of n) bytes; len = n; ended = true }) (lines_cut (drop (kept_of n) bytes) ns last)
    (line_of [] true ∷ []) refl)

-- ---- both, for the loop over a piece

-- the last part
pub adds_part : (d : KeptData) (p : List ℕ) → AreKept d → HasNoFeed p → lines_kept (with_part p d) ≡ followed_by (lines_kept d) (lines_in p)
adds_part d p h none = cut_part d.ended d.bytes d.last p h ∙ ap (followed_by (lines_kept d)) (sym (lines_in_part p none))

seen_nil : (xs : List ℕ) → seen (seen xs ++ []) ≡ seen xs
seen_nil xs = ap seen (append-nil (seen xs)) ∙ take-take (LONGEST + 1) (LONGEST + 1) xs (lit≤ tt)

open_ended : (p : List ℕ) (ls : List LeftLine) → followed_by (open_line p) (line_of [] true ∷ ls) ≡ line_of p true ∷ ls
unfolding followed_by
open_ended [] ls = refl
open_ended (b ∷ bs) ls =
    ap (λ (xs : List ℕ). record { bytes = xs; len = length (b ∷ bs) + 0; ended = true } ∷ ls) (seen_nil (b ∷ bs))
    ∙ ap (λ (n : ℕ). record { bytes = seen (b ∷ bs); len = n; ended = true } ∷ ls) (add-zero (length (b ∷ bs)))

no_line : (l : LeftLine) (ls : List LeftLine) → l ∷ followed_by [] ls ≡ l ∷ ls
unfolding followed_by
no_line l ls = refl

-- a part, its line feed, and what follows
pub adds_line : (d : KeptData) (p rest bytes : List ℕ) → AreKept d → HasNoFeed p → bytes ≡ p ++ 10 ∷ rest
    → followed_by (lines_kept (with_end (with_part p d))) (lines_in rest) ≡ followed_by (lines_kept d) (lines_in bytes)
adds_line d p rest bytes h none is =
    let part = part_kept d p h in
    let ended : lines_kept (with_end (with_part p d)) ≡ followed_by (lines_kept (with_part p d)) (line_of [] true ∷ []) =
    cut_end d.ended (with_part p d).bytes (with_part p d).last part in
    let whole : followed_by (followed_by (open_line p) (line_of [] true ∷ [])) (lines_in rest) ≡ lines_in bytes =
    ap (λ ls. followed_by ls (lines_in rest)) (open_ended p [])
    ∙ (followed_ended (line_of p true) [] (lines_in rest) refl
    ∙ (no_line (line_of p true) (lines_in rest) ∙ (sym (lines_in_feed p rest none) ∙ ap lines_in (sym is)))) in
    ap (λ ls. followed_by ls (lines_in rest))
    (ended ∙ (ap (λ ls. followed_by ls (line_of [] true ∷ [])) (cut_part d.ended d.bytes d.last p h)
    ∙ followed_assoc (lines_kept d) (open_line p) (line_of [] true ∷ [])))
    ∙ (followed_assoc (lines_kept d) (followed_by (open_line p) (line_of [] true ∷ [])) (lines_in rest)
    ∙ ap (followed_by (lines_kept d)) whole)

-- ---- what was there before is the front of what is there

pub front_same : (d : KeptData) → IsFrontOf d d
front_same d = record { bytes = take_all (length d.bytes) d.bytes (omega arith); ended = take_all (length d.ended) d.ended (omega arith) }

length_front : {A : Type 0} (xs ys : List A) → take (length xs) ys ≡ xs → length xs ≤ length ys
length_front xs ys e = let l = ap length e in omega (arith, l, length-take (length xs) ys)

front_append : {A : Type 0} (xs ys zs : List A) → take (length xs) ys ≡ xs → take (length xs) (ys ++ zs) ≡ xs
front_append xs ys zs e = take-append-le (length xs) ys zs (length_front xs ys e) ∙ e

pub front_part : (d e : KeptData) (p : List ℕ) → IsFrontOf d e → IsFrontOf d (with_part p e)
front_part d e p f = record { bytes = front_append d.bytes e.bytes (take (LONGEST + 1 - kept_of e.last) p) f.bytes; ended = f.ended }

pub front_end : (d e : KeptData) → IsFrontOf d e → IsFrontOf d (with_end e)
front_end d e f = record { bytes = f.bytes; ended = front_append d.ended e.ended (e.last ∷ []) f.ended }

-- ---- the front line

pub kept_front : (n : ℕ) (ns bytes : List ℕ) (last : ℕ) → length bytes ≡ kept_len (n ∷ ns) last → kept_of n ≤ length bytes
unfolding kept_len
kept_front n ns bytes last h = omega (arith, h)

pub kept_dropped : (n : ℕ) (ns bytes : List ℕ) (last : ℕ) → length bytes ≡ kept_len (n ∷ ns) last
    → length (drop (kept_of n) bytes) ≡ kept_len ns last
unfolding kept_len
kept_dropped n ns bytes last h = omega (arith, h, length-drop (kept_of n) bytes)

pub none_kept : kept_len [] 0 ≡ 0
unfolding kept_len
none_kept = refl

pub cut_none : (bytes : List ℕ) → lines_cut bytes [] 0 ≡ []
unfolding lines_cut
cut_none bytes = refl

pub cut_last : (bytes : List ℕ) (n : ℕ) → 0 < n → lines_cut bytes [] n ≡ record { bytes = bytes; len = n; ended = false } ∷ []
unfolding lines_cut
cut_last bytes n h = last_some bytes n h

pub cut_more : (bytes : List ℕ) (n : ℕ) (ns : List ℕ) (last : ℕ)
    → lines_cut bytes (n ∷ ns) last
    ≡ record { bytes = take (kept_of n) bytes; len = n; ended = true } ∷ lines_cut (drop (kept_of n) bytes) ns last
unfolding lines_cut
cut_more bytes n ns last = refl

pub length_open : (bytes ns : List ℕ) (last : ℕ) → 0 < last → length (lines_cut bytes ns last) ≡ length ns + 1
unfolding lines_cut
length_open bytes [] zero h = absurd (omega (arith, h))
length_open bytes [] (suc n) h = refl
length_open bytes (n ∷ ns) last h = let r = length_open (drop (kept_of n) bytes) ns last h in omega (arith, r)

pub length_whole : (bytes ns : List ℕ) (last : ℕ) → last ≤ 0 → length (lines_cut bytes ns last) ≡ length ns
unfolding lines_cut
length_whole bytes [] zero h = refl
length_whole bytes [] (suc n) h = absurd (omega (arith, h))
length_whole bytes (n ∷ ns) last h = let r = length_whole (drop (kept_of n) bytes) ns last h in omega (arith, r)

pub front_line : (d : KeptData) → AreKept d → HasFrontLine (lines_kept d)
unfolding kept_len lines_cut
front_line d h l rest e = of d.ended d.last h e
  where
    split : (k l : LeftLine) (ks ls : List LeftLine) → k ∷ ks ≡ l ∷ ls → (k ≡ l) × (ks ≡ ls)
    split k l ks ls e = (let a = e in cc, let a = e in cc)

    moved : (k l : LeftLine) (ks ls : List LeftLine) → IsFrontLine k ks → (k ≡ l) × (ks ≡ ls) → IsFrontLine l ls
    moved k l ks ls f e = subst (λ (x : LeftLine). IsFrontLine x ls) e.0 (subst (IsFrontLine k) e.1 f)

    of : (ns : List ℕ) (last : ℕ) → length d.bytes ≡ kept_len ns last → lines_cut d.bytes ns last ≡ l ∷ rest → IsFrontLine l rest
    of [] zero h e = absurd (let a = e in cc)
    of [] (suc n) h e =
        moved (record { bytes = d.bytes; len = suc n; ended = false }) l [] rest (record { kept = h; alone = λ x. refl }) (split _ _ _ _ e)
    of (n ∷ ns) last h e =
        let first : LeftLine = record { bytes = take (kept_of n) d.bytes; len = n; ended = true } in
        moved first l (lines_cut (drop (kept_of n) d.bytes) ns last) rest
        (record { kept = omega (arith, length-take (kept_of n) d.bytes, h); alone = λ x. absurd (let a = x in cc) })
        (split _ _ _ _ e)

-- what the loop over the parts of a piece keeps
pub record Adding (old : KeptData) (piece : List ℕ) (now : KeptData) (rest : List ℕ) : Type 0 where
  pub lines : followed_by (lines_kept now) (lines_in rest) ≡ followed_by (lines_kept old) (lines_in piece)
  pub front : IsFrontOf old now
  pub small : now.last + length rest < 2 ^ 32
  pub shorter : length rest ≤ length piece

-- the last line is one of them
pub last_size : (bytes ns : List ℕ) (last : ℕ) → last ≤ size_of (lines_cut bytes ns last)
unfolding lines_cut size_of
last_size bytes [] zero = omega arith
last_size bytes [] (suc n) = omega arith
last_size bytes (n ∷ ns) last = let r = last_size (drop (kept_of n) bytes) ns last in omega (arith, r)

pub drop_last : (bytes : List ℕ) (last : ℕ) → drop 1 (lines_cut bytes [] last) ≡ []
unfolding lines_cut
drop_last bytes zero = refl
drop_last bytes (suc n) = refl

pub no_lines : (d : KeptData) → d ≡ record { bytes = []; ended = []; last = 0 } → lines_kept d ≡ []
unfolding lines_cut
no_lines d e = ap (λ (k : KeptData). lines_kept k) e

-- a list by its first element
pub first_of : {A : Type 0} (x : A) (xs : List A) → 0 < length xs → x ≡ get_or xs 0 x → xs ≡ x ∷ drop 1 xs
first_of x [] h e = absurd (omega (arith, h))
first_of x (y ∷ ys) h e = ap (λ z. z ∷ ys) (sym e)

pub empty_of : {A : Type 0} (xs : List A) → length xs ≡ 0 → xs ≡ []
empty_of [] e = refl
empty_of (x ∷ xs) e = absurd (omega (arith, e))

-- nothing is first
pub none_of : {A : Type 0} (xs : List A) (n : ℕ) → (0 < n → false ≡ true) → n ≡ length xs → xs ≡ []
none_of xs zero never e = empty_of xs (sym e)
none_of xs (suc n) never e = absurd (let f : false ≡ true = never (omega arith) in cc)

-- a line more of the piece
pub adding_line : (old d now : KeptData) (piece rest p after : List ℕ) → AreKept d → HasNoFeed p → rest ≡ p ++ 10 ∷ after
    → now ≡ with_end (with_part p d) → Adding old piece d rest → Adding old piece now after
adding_line old d now piece rest p after kept none is e h =
    let len = ap length is in
    let all = length-append p (10 ∷ after) in
    let last = ap (λ (k : KeptData). k.last) e in
    record {
      lines = ap (λ (k : KeptData). followed_by (lines_kept k) (lines_in after)) e ∙ (adds_line d p after rest kept none is ∙ h.lines);
      front = subst (IsFrontOf old) (sym e) (front_end old (with_part p d) (front_part old d p h.front));
      small = omega (arith, len, all, last, h.small);
      shorter = omega (arith, len, all, h.shorter);
    }
