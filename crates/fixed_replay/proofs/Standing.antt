-- What the cells from a place on say: hits, and the characters that are shown.
use Rattle.std.proofs.Common.{◌≡◌, ℕ, zero, suc, ◌+◌, ◌-◌, ◌<◌, ◌≤◌, Bool, true, false, inl, inr, List, [], ◌∷◌, ◌++◌, refl, ap, sym, ◌∙◌, arith, length, drop, get_or, append_assoc}
use Rattle.std.specs.Prelude.{◌&&◌, ◌==◌, encode_utf8, encode_utf8_all}
use Rattle.std.proofs.lemmas.List.{at_drop_all, append-nil}
use Rattle.std.proofs.lemmas.Bool.{cases_Bool}
use Rattle.op_name.specs.NameData.{NameData, name_eq}
use Rattle.context_diff.specs.Operations.{OpData}
use Rattle.context_diff.specs.Replays.{Cell, stands_at, seen, is_shown}
use Rattle.fixed_replay.specs.Code.PlainCells.{characters_among}
use Rattle.fixed_replay.proofs.Searches.{at_place}

-- whether the cell stands at a place among the seen ones of these
abbrev pub stands_among : (NameData → Bool) → Cell → ℕ → List Cell → Bool
stands_among sees c n cells = stands_at n (seen sees cells) c

pub stands_past : (sees : NameData → Bool) (c : Cell) (n : ℕ) (cells : List Cell) (i : ℕ) (x : Cell) → i < length cells
    → x ≡ get_or cells i x → sees x.0 ≡ false
    → stands_among sees c n (drop i cells) ≡ stands_among sees c n (drop (i + 1) cells)
stands_past sees c n cells i x within is unseen = at_place (stands_among sees c n) cells i x within is ∙ rw unseen refl

pub stands_here : (sees : NameData → Bool) (c : Cell) (n : ℕ) (cells : List Cell) (i : ℕ) (x : Cell) → i < length cells
    → x ≡ get_or cells i x → sees x.0 ≡ true → n ≡ 0
    → stands_among sees c n (drop i cells) ≡ (name_eq x.0 c.0 && (x.1 == c.1))
unfolding stands_at
stands_here sees c zero cells i x within is sees_it none =
    at_place (stands_among sees c 0) cells i x within is ∙ rw sees_it refl
stands_here sees c (suc n) cells i x within is sees_it none = absurd (omega arith)

pub stands_later : (sees : NameData → Bool) (c : Cell) (n : ℕ) (cells : List Cell) (i : ℕ) (x : Cell) → i < length cells
    → x ≡ get_or cells i x → sees x.0 ≡ true → 0 < n
    → stands_among sees c n (drop i cells) ≡ stands_among sees c (n - 1) (drop (i + 1) cells)
unfolding stands_at
stands_later sees c zero cells i x within is sees_it some = absurd (omega arith)
stands_later sees c (suc n) cells i x within is sees_it some =
    let e : n ≡ suc n - 1 = omega arith in
    at_place (stands_among sees c (suc n)) cells i x within is ∙ rw sees_it (ap (λ k. stands_among sees c k (drop (i + 1) cells)) e)

pub stands_end : (sees : NameData → Bool) (c : Cell) (n : ℕ) (cells : List Cell) (i : ℕ) → length cells ≤ i
    → stands_among sees c n (drop i cells) ≡ false
unfolding stands_at
stands_end sees c n cells i past = at_drop_all (stands_among sees c n) cells i past

among_split : (h : List OpData) (x : Cell) (cells : List Cell)
    → characters_among h (x ∷ cells) ≡ characters_among h (x ∷ []) ++ characters_among h cells
among_split h x cells = elim (cases_Bool (is_shown h x)) [
  | inl e ↦ rw e refl
  | inr e ↦ rw e refl
]

-- the characters so far and those of the cells from a place on, once the cell there is done
pub characters_more : (h : List OpData) (so_far after : List ℕ) (cells : List Cell) (i : ℕ) (x : Cell) → i < length cells
    → x ≡ get_or cells i x → after ≡ so_far ++ characters_among h (x ∷ [])
    → after ++ characters_among h (drop (i + 1) cells) ≡ so_far ++ characters_among h (drop i cells)
characters_more h so_far after cells i x within is added =
    let rest = characters_among h (drop (i + 1) cells) in
    ap (λ xs. xs ++ rest) added
    ∙ (append_assoc so_far (characters_among h (x ∷ [])) rest
    ∙ ap (λ xs. so_far ++ xs) (sym (at_place (characters_among h) cells i x within is ∙ among_split h x (drop (i + 1) cells))))

-- the bytes so far and those of the characters from a place on, once the character there is done
pub bytes_more : (so_far after cs : List ℕ) (i x : ℕ) → i < length cs → x ≡ get_or cs i x → after ≡ so_far ++ encode_utf8 x
    → after ++ encode_utf8_all (drop (i + 1) cs) ≡ so_far ++ encode_utf8_all (drop i cs)
bytes_more so_far after cs i x within is added =
    let rest = encode_utf8_all (drop (i + 1) cs) in
    ap (λ xs. xs ++ rest) added
    ∙ (append_assoc so_far (encode_utf8 x) rest
    ∙ ap (λ xs. so_far ++ xs) (sym (at_place encode_utf8_all cs i x within is)))

pub bytes_end : (so_far cs : List ℕ) (i : ℕ) → length cs ≤ i → so_far ++ encode_utf8_all (drop i cs) ≡ so_far
bytes_end so_far cs i past = ap (λ xs. so_far ++ xs) (at_drop_all encode_utf8_all cs i past) ∙ append-nil so_far
