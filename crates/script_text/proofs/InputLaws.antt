-- Inputs: what is fed, and what is taken between.
use Rattle.std.proofs.Common.{◌≡◌, ℕ, ◌+◌, ◌-◌, ◌≤◌, true, inl, inr, ◌⊎◌, List, ◌∷◌, ◌++◌, sym, ap, ◌∙◌, arith, length, take, min, append-nil, length-append}
use Rattle.std.proofs.lemmas.List.{take_all, take-append-le}
use Rattle.script_text.specs.declared.reading.stream.TheConstants.{MAX_SCRIPT}
use Rattle.script_text.specs.LeftLines.{LeftLine, InputData}
use Rattle.script_text.specs.Streams.{lines_in, followed_by, looked_at, fed_with}
use Rattle.script_text.proofs.Joins.{take_past, followed_assoc, followed_ended, lines_in-append}

append_none : (xs ys : List ℕ) → xs ++ take 0 ys ≡ xs
append_none xs ys = append-nil xs

-- what is looked at of two pieces
looked_twice : (m n : ℕ) (a b : List ℕ) → n ≡ m - min m (length a) → take m a ++ take n b ≡ take m (a ++ b)
looked_twice m n a b e = of (lib m (length a))
  where
    lib : (m k : ℕ) → (m ≤ k) ⊎ (k ≤ m)
    lib m k = grind arith

    of : (m ≤ length a) ⊎ (length a ≤ m) → take m a ++ take n b ≡ take m (a ++ b)
    of (inl h) =
        let none : n ≡ 0 = omega (arith, e, h) in
        ap (λ k. take m a ++ take k b) none ∙ (append_none (take m a) b ∙ sym (take-append-le m a b h))
    of (inr h) =
        let rest : n ≡ m - length a = omega (arith, e, h) in
        ap (λ xs. xs ++ take n b) (take_all m a h) ∙ (ap (λ k. a ++ take k b) rest ∙ sym (take_past m a b h))

-- an input with these lines and this count
with_lines : InputData → List LeftLine → ℕ → InputData
with_lines s ls n = record { lines = ls; fed = n; over = s.over; refusal = s.refusal }

twice_lines : (ls : List LeftLine) (m n : ℕ) (a b : List ℕ) → n ≡ m - min m (length a)
    → followed_by (followed_by ls (lines_in (take m a))) (lines_in (take n b)) ≡ followed_by ls (lines_in (take m (a ++ b)))
twice_lines ls m n a b e =
    followed_assoc ls (lines_in (take m a)) (lines_in (take n b))
    ∙ (ap (followed_by ls) (sym (lines_in-append (take m a) (take n b)))
    ∙ ap (λ (bs : List ℕ). followed_by ls (lines_in bs)) (looked_twice m n a b e))

twice_fed : (k fed : ℕ) (a b : List ℕ) → min k (min k (fed + length a) + length b) ≡ min k (fed + length (a ++ b))
twice_fed k fed a b = omega (arith, length-append a b)

twice_left : (k fed n : ℕ) → fed ≤ k → k - min k (fed + n) ≡ (k - fed) - min (k - fed) n
twice_left k fed n h = omega (arith, h)

pub fed_twice : (s : InputData) (a b : List ℕ) → s.fed ≤ MAX_SCRIPT + 1 → fed_with (fed_with s a) b ≡ fed_with s (a ++ b)
unfolding with_lines
fed_twice s a b h =
    let lines =
    twice_lines s.lines (MAX_SCRIPT + 1 - s.fed) (MAX_SCRIPT + 1 - min (MAX_SCRIPT + 1) (s.fed + length a)) a b
    (twice_left (MAX_SCRIPT + 1) s.fed (length a) h) in
    ap (λ (ls : List LeftLine). with_lines s ls (min (MAX_SCRIPT + 1) (min (MAX_SCRIPT + 1) (s.fed + length a) + length b))) lines
    ∙ ap (λ (n : ℕ). with_lines s (followed_by s.lines (lines_in (take (MAX_SCRIPT + 1 - s.fed) (a ++ b)))) n)
    (twice_fed (MAX_SCRIPT + 1) s.fed a b)

pub taken_first : (s : InputData) (line : LeftLine) (rest : List LeftLine) (piece : List ℕ) → line.ended ≡ true
    → (fed_with (record s { lines = line ∷ rest }) piece).lines ≡ line ∷ (fed_with (record s { lines = rest }) piece).lines
taken_first s line rest piece e = followed_ended line rest (lines_in (looked_at s.fed piece)) e
