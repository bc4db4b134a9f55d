-- The text of two stretches of cells, one after the other, and of one without shown cells.
use Rattle.std.proofs.Common.{◌≡◌, ℕ, zero, suc, ◌+◌, ◌<◌, ◌≤◌, ◌==◌, Bool, true, false, if◌then◌else◌, List, [], ◌∷◌, ◌++◌, length, map, filter, cond, take, drop, get_or, encode_utf8, encode_utf8_all, Result, Ok, Err, OnErr, append_assoc, refl, sym, ap, ◌∙◌, arith}
use Rattle.std.proofs.lemmas.List.{take_more, append-nil, take-append-drop, take_at, take_all, get_or_read}
use Rattle.std.proofs.lemmas.Bool.Decides.{nat_tests}
use Rattle.std.proofs.lemmas.List.Concat.{flat_map-append}
use Rattle.tombstone_text.specs.Chunks.{flat, flag_of, joined, shown_in}
use Rattle.std.proofs.lemmas.Str.{encodes-append}
use Rattle.ttf_form.specs.Cells.{CellData, cell_shown, chars_where}
use Rattle.ttf_form.specs.Laws.Texts.{chars_where-append}
use Rattle.tombstone_text.proofs.CallerLemmas.{beside_count, beside_taken}
use Rattle.visible_view.specs.View.{shown_text}
use Rattle.visible_view.specs.Code.{flagged}

-- the characters beside the flags of cells are those of the shown ones
pub flagged_shown : (cs : List CellData) (ts : List ℕ) → flagged (map flag_of cs) ts ≡ chars_where cell_shown cs ts
flagged_shown [] ts = refl
flagged_shown (c ∷ cs) [] = refl
flagged_shown (c ∷ cs) (t ∷ ts) = by (cell_shown c) (flagged_shown cs ts)
  where
    by : (b : Bool) → flagged (map flag_of cs) ts ≡ chars_where cell_shown cs ts
        → (if (if b then 1 else 0) == 1 then t ∷ flagged (map flag_of cs) ts else flagged (map flag_of cs) ts)
        ≡ (if b then t ∷ chars_where cell_shown cs ts else chars_where cell_shown cs ts)
    by true rest = ap (λ (l : List ℕ). t ∷ l) rest
    by false rest = rest

-- one flag more with its character
pub flagged_next : (fs ts : List ℕ) (k : ℕ) → k < length fs → length ts ≡ length fs
    → flagged (take (suc k) fs) (take (suc k) ts) ≡ flagged (take k fs) (take k ts)
    ++ (if get_or fs k 0 == 1 then get_or ts k 0 ∷ [] else [])
flagged_next [] ts k lt e = absurd (omega (arith, lt))
flagged_next (f ∷ fs) [] k lt e = absurd (omega (arith, e))
flagged_next (f ∷ fs) (t ∷ ts) zero lt e = refl
flagged_next (f ∷ fs) (t ∷ ts) (suc k) lt e = by (f == 1) (flagged_next fs ts k (omega (arith, lt)) (omega (arith, e)))
  where
    by : (b : Bool) → flagged (take (suc k) fs) (take (suc k) ts) ≡ flagged (take k fs) (take k ts)
        ++ (if get_or fs k 0 == 1 then get_or ts k 0 ∷ [] else [])
        → (if b then t ∷ flagged (take (suc k) fs) (take (suc k) ts) else flagged (take (suc k) fs) (take (suc k) ts))
        ≡ (if b then t ∷ flagged (take k fs) (take k ts) else flagged (take k fs) (take k ts))
        ++ (if get_or fs k 0 == 1 then get_or ts k 0 ∷ [] else [])
    by true rest = ap (λ (l : List ℕ). t ∷ l) rest
    by false rest = rest

-- the bytes of one flag more: those of its character where it is 1, else none
pub flagged_more : (fs ts : List ℕ) (k t : ℕ) → k < length fs → length ts ≡ length fs → t ≡ get_or ts k t → get_or fs k 0 ≡ 1
    → encode_utf8_all (flagged (take (k + 1) fs) (take (k + 1) ts)) ≡ encode_utf8_all (flagged (take k fs) (take k ts)) ++ encode_utf8 t
flagged_more fs ts k t lt e is one =
    let next : k + 1 ≡ suc k = omega arith in
    let there : k < length ts = omega (arith, lt, e) in
    let char : get_or ts k 0 ≡ t = sym (get_or_read ts k t there is 0) in
    ap (λ n. encode_utf8_all (flagged (take n fs) (take n ts))) next
    ∙ ap (λ (l : List ℕ). encode_utf8_all l)
    (flagged_next fs ts k lt e
    ∙ ap (λ n. flagged (take k fs) (take k ts) ++ (if n == 1 then get_or ts k 0 ∷ [] else [])) one
    ∙ ap (λ n. flagged (take k fs) (take k ts) ++ n ∷ []) char)
    ∙ encodes-append (flagged (take k fs) (take k ts)) (t ∷ [])
    ∙ ap (λ (bs : List ℕ). encode_utf8_all (flagged (take k fs) (take k ts)) ++ bs) (append-nil (encode_utf8 t))

pub flagged_same : (fs ts : List ℕ) (k : ℕ) → k < length fs → length ts ≡ length fs → (get_or fs k 0 ≡ 1 → ⊥)
    → encode_utf8_all (flagged (take (k + 1) fs) (take (k + 1) ts)) ≡ encode_utf8_all (flagged (take k fs) (take k ts))
flagged_same fs ts k lt e other =
    let next : k + 1 ≡ suc k = omega arith in
    let hidden : (get_or fs k 0 == 1) ≡ false = by (get_or fs k 0 == 1) refl in
    ap (λ n. encode_utf8_all (flagged (take n fs) (take n ts))) next
    ∙ ap (λ (l : List ℕ). encode_utf8_all l)
    (flagged_next fs ts k lt e
    ∙ ap (λ b. flagged (take k fs) (take k ts) ++ (if b then get_or ts k 0 ∷ [] else [])) hidden
    ∙ append-nil (flagged (take k fs) (take k ts)))
  where
    by : (b : Bool) → (get_or fs k 0 == 1) ≡ b → b ≡ false
    by true h = absurd (other (grind (arith, nat_tests, h)))
    by false h = refl

pub shown_text-append : (xs ys : List CellData) (ts us : List ℕ) → length ts ≡ length xs
    → shown_text (xs ++ ys) (ts ++ us) ≡ shown_text xs ts ++ shown_text ys us
shown_text-append xs ys ts us e =
    ap encode_utf8_all (chars_where-append cell_shown xs ys ts us e)
    ∙ encodes-append (chars_where cell_shown xs ts) (chars_where cell_shown ys us)

-- one chunk more
pub flat_more : (cs : List (List CellData)) (i : ℕ) → i < length cs → flat (take (i + 1) cs) ≡ flat (take i cs) ++ get_or cs i []
flat_more cs i lt =
    ap (λ (ds : List (List CellData)). flat ds) (take_more cs i [] lt)
    ∙ flat_map-append (λ (c : List CellData). c) (take i cs) (get_or cs i [] ∷ [])
    ∙ ap (λ (c : List CellData). flat (take i cs) ++ c) (append-nil (get_or cs i []))

pub joined_more : (ts : List (List ℕ)) (i : ℕ) → i < length ts → joined (take (i + 1) ts) ≡ joined (take i ts) ++ get_or ts i []
joined_more ts i lt =
    ap (λ (ds : List (List ℕ)). joined ds) (take_more ts i [] lt)
    ∙ flat_map-append (λ (t : List ℕ). t) (take i ts) (get_or ts i [] ∷ [])
    ∙ ap (λ (t : List ℕ). joined (take i ts) ++ t) (append-nil (get_or ts i []))

-- each text is as long as its chunk
abbrev pub AreAsLong : List (List CellData) → List (List ℕ) → Type 0
AreAsLong cs ts = map (λ t. length t) ts ≡ map (λ c. length c) cs

-- one chunk more of the text
pub text_more : (cs : List (List CellData)) (ts : List (List ℕ)) (i : ℕ) → AreAsLong cs ts → i < length cs
    → shown_text (flat (take (i + 1) cs)) (joined (take (i + 1) ts))
    ≡ shown_text (flat (take i cs)) (joined (take i ts)) ++ shown_text (get_or cs i []) (get_or ts i [])
text_more cs ts i e lt =
    let count = beside_count ts cs e in
    ap (λ (s : List CellData). shown_text s (joined (take (i + 1) ts))) (flat_more cs i lt)
    ∙ ap (λ (s : List ℕ). shown_text (flat (take i cs) ++ get_or cs i []) s) (joined_more ts i (omega (arith, lt, count)))
    ∙ shown_text-append (flat (take i cs)) (get_or cs i []) (joined (take i ts)) (get_or ts i []) (beside_taken ts cs i e)

no_characters : (cs : List CellData) (ts : List ℕ) → shown_in cs ≡ 0 → chars_where cell_shown cs ts ≡ []
no_characters [] ts e = refl
no_characters (c ∷ cs) [] e = refl
no_characters (c ∷ cs) (t ∷ ts) e = by (cell_shown c) e (no_characters cs ts)
  where
    by : (b : Bool) → length (cond b (c ∷ filter cell_shown cs) (filter cell_shown cs)) ≡ 0
        → (shown_in cs ≡ 0 → chars_where cell_shown cs ts ≡ [])
        → (if b then t ∷ chars_where cell_shown cs ts else chars_where cell_shown cs ts) ≡ []
    by true n rest = absurd (omega (arith, n))
    by false n rest = rest n

-- a chunk without shown cells adds nothing
pub text_same : (cs : List (List CellData)) (ts : List (List ℕ)) (i : ℕ) → AreAsLong cs ts → i < length cs
    → shown_in (get_or cs i []) ≡ 0
    → shown_text (flat (take (i + 1) cs)) (joined (take (i + 1) ts)) ≡ shown_text (flat (take i cs)) (joined (take i ts))
text_same cs ts i e lt none =
    text_more cs ts i e lt
    ∙ ap (λ (l : List ℕ). shown_text (flat (take i cs)) (joined (take i ts)) ++ encode_utf8_all l)
    (no_characters (get_or cs i []) (get_or ts i []) none)
    ∙ append-nil (shown_text (flat (take i cs)) (joined (take i ts)))

-- all chunks
pub text_all : (cs : List (List CellData)) (ts : List (List ℕ)) (i : ℕ) → AreAsLong cs ts → length cs ≤ i
    → shown_text (flat (take i cs)) (joined (take i ts)) ≡ shown_text (flat cs) (joined ts)
text_all cs ts i e le =
    let count = beside_count ts cs e in
    ap (λ (ds : List (List CellData)). shown_text (flat ds) (joined (take i ts))) (take_all i cs le)
    ∙ ap (λ (ds : List (List ℕ)). shown_text (flat cs) (joined ds)) (take_all i ts (omega (arith, le, count)))

-- what a text began with is what it begins with after a part was taken back
pub front_stays : (front more now next : List ℕ) (n m : ℕ) → now ≡ front ++ more → length front ≡ n → take m next ≡ now
    → take n next ≡ front
front_stays front more now next n m is long kept =
    ap (λ (bs : List ℕ). take n bs) (sym (take-append-drop m next))
    ∙ ap (λ (bs : List ℕ). take n (bs ++ drop m next)) (kept ∙ is)
    ∙ ap (λ (bs : List ℕ). take n bs) (append_assoc front more (drop m next))
    ∙ take_at front (more ++ drop m next) n long

-- a fact that holds whatever the answer
pub on_err : {T E P : Type 0} (r : Result T E) → P → OnErr r P
on_err (Ok x) p = tt
on_err (Err e) p = p
