-- Which character stands beside a place, by the chunks; and where so many characters end.
use Rattle.std.proofs.Common.{◌≡◌, ℕ, zero, suc, ◌+◌, ◌-◌, ◌<◌, ◌≤◌, List, [], ◌∷◌, ◌++◌, length, map, take, get_or, slice_get, Some, refl, sym, ap, ◌∙◌, subst, arith, length-append}
use Rattle.std.specs.Prelude.{encode_utf8_all}
use Rattle.std.specs.List.{count_by}
use Rattle.std.proofs.lemmas.List.{take_at, append-nil}
use Rattle.std.proofs.lemmas.List.Sums.{count_by-le-length}
use Rattle.std.proofs.lemmas.Str.{encodes-append}
use Rattle.lane_rank.specs.Texts.{starts_char, starts_of}
use Rattle.ttf_form.specs.Cells.{CellData}
use Rattle.ttf_form.specs.Laws.Lists.{get_behind}
use Rattle.tombstone_text.specs.Chunks.{flat, joined}
use Rattle.visible_view.proofs.CallerLemmas.{flat_more}
use Rattle.past_view.specs.Code.Counted.{IsNth, IsPlaceEnd}
use Rattle.past_view.proofs.Cuts.{place_cut}
use Rattle.past_view.proofs.Utf8.{starts_all}

-- ---- chunks

pub length_more : (cs : List (List CellData)) (i : ℕ) → i < length cs
    → length (flat (take (i + 1) cs)) ≡ length (flat (take i cs)) + length (get_or cs i [])
length_more cs i lt = ap (λ (l : List CellData). length l) (flat_more cs i lt) ∙ length-append (flat (take i cs)) (get_or cs i [])

pub front_few : (cs : List (List CellData)) (i : ℕ) → length (flat (take i cs)) ≤ length (flat cs)
front_few [] zero = omega arith
front_few [] (suc i) = omega arith
front_few (c ∷ cs) zero = omega arith
front_few (c ∷ cs) (suc i) =
    omega (arith, front_few cs i, length-append c (flat (take i cs)), length-append c (flat cs))

-- ---- the characters of the chunks

letter_in : (t us : List ℕ) (n d : ℕ) → n < length t → slice_get (t ++ us) n ≡ Some (get_or t n d)
letter_in [] us n d lt = absurd (omega (arith, lt))
letter_in (x ∷ t) us zero d lt = refl
letter_in (x ∷ t) us (suc n) d lt = letter_in t us n d (omega (arith, lt))

letter_of : (ts : List (List ℕ)) (i n place d : ℕ) → i < length ts → n < length (get_or ts i [])
    → place ≡ length (joined (take i ts)) + n
    → slice_get (joined ts) place ≡ Some (get_or (get_or ts i []) n d)
letter_of [] i n place d lt le is = absurd (omega (arith, lt))
letter_of (t ∷ ts) zero n place d lt le is =
    let same : place ≡ n = omega (arith, is) in
    ap (λ (k : ℕ). slice_get (t ++ joined ts) k) same ∙ letter_in t (joined ts) n d le
letter_of (t ∷ ts) (suc i) n place d lt le is =
    let k = length (joined (take i ts)) + n in
    let far : place ≡ k + length t = omega (arith, is, length-append t (joined (take i ts))) in
    get_behind k place t (joined ts) far ∙ letter_of ts i n k d (omega (arith, lt)) le refl

-- the character at a place, by the chunk
pub letter_there : (ts : List (List ℕ)) (text chunk : List ℕ) (i at place x : ℕ) → joined ts ≡ text → i < length ts
    → at ≡ length (joined (take i ts)) → at ≤ place → chunk ≡ get_or ts i [] → place - at < length chunk
    → x ≡ get_or chunk (place - at) x → slice_get text place ≡ Some x
letter_there ts text chunk i at place x whole lt start le is short here =
    let size : length chunk ≡ length (get_or ts i []) = ap (λ (l : List ℕ). length l) is in
    ap (λ (l : List ℕ). slice_get l place) (sym whole)
    ∙ letter_of ts i (place - at) place x lt (omega (arith, short, size)) (omega (arith, start, le))
    ∙ ap (λ (l : List ℕ). Some (get_or l (place - at) x)) (sym is)
    ∙ ap (λ (y : ℕ). Some y) (sym here)

-- ---- characters

no_rest : (front rest : List ℕ) (bs : List ℕ) → bs ≡ encode_utf8_all front ++ encode_utf8_all rest → length rest ≡ 0
    → length bs ≡ length (encode_utf8_all front)
no_rest front [] bs is none = ap length (is ∙ append-nil (encode_utf8_all front))
no_rest front (c ∷ cs) bs is none = absurd (omega arith)

least : (cs : List ℕ) → length cs ≤ length (encode_utf8_all cs)
least cs = omega (arith, starts_all cs, count_by-le-length starts_char (encode_utf8_all cs))

-- where there are as many bytes, each character has one
pub end_of_bytes : (front rest bs : List ℕ) (v chars : ℕ) → bs ≡ encode_utf8_all front ++ encode_utf8_all rest → length front ≡ v
    → length front + length rest ≡ chars → length bs ≡ chars
    → v ≡ length (encode_utf8_all front)
end_of_bytes front rest bs v chars is long all same =
    omega (
      arith,
      least front,
      least rest,
      ap length is,
      length-append (encode_utf8_all front) (encode_utf8_all rest),
      long,
      all,
      same,
    )

-- else they are counted
pub end_counted : (front rest bs : List ℕ) (v at : ℕ) → bs ≡ encode_utf8_all front ++ encode_utf8_all rest → length front ≡ v
    → IsNth starts_char bs v at
    → at ≡ length (encode_utf8_all front)
end_counted front rest bs v at is long nth =
    let whole : bs ≡ encode_utf8_all (front ++ rest) = is ∙ sym (encodes-append front rest) in
    let end : IsPlaceEnd bs v at =
    record { within = let lt = nth.within in omega arith; before = nth.before; next = λ lt. nth.passes } in
    (place_cut (front ++ rest) v at (subst (λ (xs : List ℕ). IsPlaceEnd xs v at) whole end)).size
    ∙ ap (λ (cs : List ℕ). length (encode_utf8_all cs)) (take_at front rest v long)

pub end_none : (front rest bs : List ℕ) (v : ℕ) → bs ≡ encode_utf8_all front ++ encode_utf8_all rest → length front ≡ v
    → count_by starts_char bs ≤ v
    → length bs ≡ length (encode_utf8_all front)
end_none front rest bs v is long few =
    let whole : bs ≡ encode_utf8_all (front ++ rest) = is ∙ sym (encodes-append front rest) in
    let count : starts_of bs ≡ length (front ++ rest) = ap starts_of whole ∙ starts_all (front ++ rest) in
    no_rest front rest bs is (omega (arith, count, few, long, length-append front rest))
