-- Characters in UTF-8, put one after the other into the front of a buffer.
use Rattle.std.proofs.Common.{◌≡◌, ℕ, ◌+◌, ◌<◌, ◌≤◌, List, [], ◌∷◌, ◌++◌, length, length-append, take, drop, get_or, encode_utf8, encode_utf8_all, sym, ap, ◌∙◌, arith}
use Rattle.std.proofs.lemmas.Str.{encodes-append}
use Rattle.std.proofs.lemmas.List.{take_more, take-append-drop, append-nil, append_assoc, drop-drop}
use Rattle.std.proofs.Math.Seq.{take-append_seam, drop-append-add}

-- one more of the characters stands behind those before it
pub one_more : (cs : List ℕ) (k c : ℕ) → k < length cs → c ≡ get_or cs k c
    → encode_utf8_all (take (k + 1) cs) ≡ encode_utf8_all (take k cs) ++ encode_utf8 c
one_more cs k c within is =
    ap encode_utf8_all (take_more cs k c within)
    ∙ encodes-append (take k cs) (get_or cs k c ∷ [])
    ∙ ap (λ bs. encode_utf8_all (take k cs) ++ bs) (ap (λ d. encode_utf8_all (d ∷ [])) (sym is) ∙ append-nil (encode_utf8 c))

-- and takes as many bytes more
pub one_longer : (cs : List ℕ) (k c : ℕ) → k < length cs → c ≡ get_or cs k c
    → length (encode_utf8_all (take (k + 1) cs)) ≡ length (encode_utf8_all (take k cs)) + length (encode_utf8 c)
one_longer cs k c within is =
    ap length (one_more cs k c within is) ∙ length-append (encode_utf8_all (take k cs)) (encode_utf8 c)

-- the first characters take no more bytes than all
pub front_shorter : (cs : List ℕ) (k : ℕ) → length (encode_utf8_all (take k cs)) ≤ length (encode_utf8_all cs)
front_shorter cs k =
    let front = encode_utf8_all (take k cs) in
    let rest = encode_utf8_all (drop k cs) in
    let whole = ap (λ ds. length (encode_utf8_all ds)) (sym (take-append-drop k cs)) ∙ ap length (encodes-append (take k cs) (drop k cs)) in
    omega (arith, whole, length-append front rest)

-- bytes that are put behind those in front of what was there
pub put_behind : (front bytes old out new : List ℕ) (at : ℕ) → at ≡ length front → out ≡ front ++ drop at old
    → new ≡ take at out ++ (bytes ++ drop (at + length bytes) out) → new ≡ (front ++ bytes) ++ drop (at + length bytes) old
put_behind front bytes old out new at here is put =
    let before : take at out ≡ front =
    ap (take at) is ∙ ap (λ n. take n (front ++ drop at old)) here ∙ take-append_seam front (drop at old) in
    let behind : drop (at + length bytes) out ≡ drop (at + length bytes) old =
    ap (drop (at + length bytes)) is ∙ ap (λ n. drop (n + length bytes) (front ++ drop at old)) here
    ∙ drop-append-add front (drop at old) (length bytes) ∙ drop-drop (length bytes) at old in
    put ∙ ap (λ xs. xs ++ (bytes ++ drop (at + length bytes) out)) before ∙ ap (λ xs. front ++ (bytes ++ xs)) behind
    ∙ sym (append_assoc front bytes (drop (at + length bytes) old))
