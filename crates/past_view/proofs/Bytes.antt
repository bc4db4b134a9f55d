-- Characters put into a text, and one byte removed after others.
use Rattle.std.proofs.Common.{◌≡◌, ℕ, ◌+◌, ◌-◌, ◌<◌, ◌≤◌, List, [], ◌∷◌, ◌++◌, length, take, drop, get_or, sym, ap, ◌∙◌, arith, append_assoc, length-append, length-drop, length-take-le, drop-drop}
use Rattle.std.specs.Prelude.{encode_utf8, encode_utf8_all}
use Rattle.std.proofs.lemmas.List.{take_at, drop_at, take_more, take-append-le, drop-append-le, append-nil}
use Rattle.std.proofs.lemmas.Str.{encodes-append}

-- one byte more is gone
pub byte_removed : (xs text new : List ℕ) (at k : ℕ) → at ≤ length xs → text ≡ take at xs ++ drop (at + k) xs
    → new ≡ take at text ++ drop (at + 1) text
    → new ≡ take at xs ++ drop (at + (k + 1)) xs
byte_removed xs text new at k le is gone =
    let f = take at xs in
    let r = drop (at + k) xs in
    let long : length f ≡ at = length-take-le at xs le in
    let front : take at text ≡ f = ap (take at) is ∙ take_at f r at long in
    let rest : drop at text ≡ r = ap (drop at) is ∙ drop_at f r at long in
    let one : drop (at + 1) text ≡ drop 1 (drop at text) = behind text at 1 in
    let two : drop (at + (k + 1)) xs ≡ drop 1 r =
    let same : at + (k + 1) ≡ (at + k) + 1 = omega arith in ap (λ (n : ℕ). drop n xs) same ∙ behind xs (at + k) 1 in
    gone ∙ (λ i. front i ++ (one ∙ ap (λ (l : List ℕ). drop 1 l) rest ∙ sym two) i)
  where
    behind : (ys : List ℕ) (n m : ℕ) → drop (n + m) ys ≡ drop m (drop n ys)
    behind ys n m = sym (drop-drop m n ys)

-- one character more in UTF-8
letters_encoded : (letters : List ℕ) (k x : ℕ) → k < length letters → x ≡ get_or letters k x
    → encode_utf8_all (take (k + 1) letters) ≡ encode_utf8_all (take k letters) ++ encode_utf8 x
letters_encoded letters k x lt is =
    ap encode_utf8_all (take_more letters k x lt ∙ ap (λ (y : ℕ). take k letters ++ y ∷ []) (sym is))
    ∙ encodes-append (take k letters) (x ∷ [])
    ∙ ap (λ (l : List ℕ). encode_utf8_all (take k letters) ++ l) (append-nil (encode_utf8 x))

-- the next character stands behind those before it
pub char_pushed : (xs text new letters : List ℕ) (k x : ℕ) → k < length letters → x ≡ get_or letters k x
    → text ≡ xs ++ encode_utf8_all (take k letters) → new ≡ text ++ encode_utf8 x → new ≡ xs ++ encode_utf8_all (take (k + 1) letters)
char_pushed xs text new letters k x lt is so_far pushed =
    pushed ∙ ap (λ (l : List ℕ). l ++ encode_utf8 x) so_far ∙ append_assoc xs (encode_utf8_all (take k letters)) (encode_utf8 x)
    ∙ ap (λ (l : List ℕ). xs ++ l) (sym (letters_encoded letters k x lt is))

-- what was put behind the text is brought to a place of it, in front of what stood there
pub put_turned : (xs es text slice turned : List ℕ) (at behind n : ℕ) → at ≤ length xs → behind ≡ length xs - at → text ≡ xs ++ es
    → slice ≡ text → n ≡ length text → turned ≡ take at slice ++ (drop behind (drop at slice) ++ take behind (drop at slice))
    → take n (turned ++ drop (length turned) text) ≡ take at xs ++ (es ++ drop at xs)
put_turned xs es text slice turned at behind n le size is same count by =
    let r = drop at xs in
    let whole = same ∙ is in
    let front : take at slice ≡ take at xs = ap (take at) whole ∙ take-append-le at xs es le in
    let rest : drop at slice ≡ r ++ es = ap (drop at) whole ∙ drop-append-le at xs es le in
    let long : length r ≡ behind = length-drop at xs ∙ sym size in
    let put : turned ≡ take at xs ++ (es ++ r) =
    by ∙ (λ i. front i ++ ((ap (drop behind) rest ∙ drop_at r es behind long) i ++ (ap (take behind) rest ∙ take_at r es behind long) i)) in
    let all : length turned ≡ n =
    ap length put
    ∙ omega (
      arith,
      length-append (take at xs) (es ++ r),
      length-append es r,
      length-take-le at xs le,
      length-append xs es,
      ap length is,
      long,
    ) in
    take_at turned (drop (length turned) text) n all ∙ put
