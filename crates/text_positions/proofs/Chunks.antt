-- The shown characters of a text in chunks: those in front of one, its own, and those behind it.
use Rattle.std.proofs.Common.{◌≡◌, ℕ, zero, suc, ◌+◌, ◌<◌, ◌≤◌, Bool, true, false, cond, if◌then◌else◌, List, [], ◌∷◌, ◌++◌, length, map, filter, take, drop, get_or, refl, sym, ap, ap₂, ◌∙◌, arith, append_assoc}
use Rattle.std.specs.List.{sum}
use Rattle.std.proofs.lemmas.List.{take-map, length-map, get_or-map}
use Rattle.std.proofs.lemmas.List.Sums.{sum_by-cons}
use Rattle.ttf_form.specs.Cells.{CellData, cell_shown, chars_where}
use Rattle.ttf_form.specs.Laws.Texts.{chars_where-append}
use Rattle.tombstone_text.specs.Chunks.{flag_of, flat, joined, shown_in}
use Rattle.tombstone_text.specs.Sums.{IsPart}
use Rattle.tombstone_text.specs.declared.measure.Measure.{Measure}
use Rattle.tombstone_text.specs.Measures.{chunk_weights, weight_of}
use Rattle.tombstone_text.proofs.CallerLemmas.{beside_at, beside_taken, sum-shown}
use Rattle.visible_view.specs.Code.{flagged}
use Rattle.visible_view.proofs.CallerLemmas.{flagged_shown}
use Rattle.text_positions.proofs.Weights.{weight-append}
use Rattle.text_positions.proofs.Places.{weight_within}

-- each text is as long as its chunk
abbrev pub AreAsLong : List (List CellData) → List (List ℕ) → Type 0
AreAsLong cs ts = map (λ t. length t) ts ≡ map (λ c. length c) cs

first_long : (c : List CellData) (cs : List (List CellData)) (t : List ℕ) (ts : List (List ℕ)) → AreAsLong (c ∷ cs) (t ∷ ts)
    → length t ≡ length c
first_long c cs t ts e = ap (λ (ns : List ℕ). get_or ns 0 0) e

others_long : (c : List CellData) (cs : List (List CellData)) (t : List ℕ) (ts : List (List ℕ)) → AreAsLong (c ∷ cs) (t ∷ ts)
    → AreAsLong cs ts
others_long c cs t ts e = ap (λ (ns : List ℕ). drop 1 ns) e

uneven : (c : List CellData) (cs : List (List CellData)) → AreAsLong (c ∷ cs) [] → ⊥
uneven c cs e = omega (arith, ap (λ (ns : List ℕ). length ns) e)

-- the shown characters of some cells
abbrev pub chars : List CellData → List ℕ → List ℕ
chars cs ts = chars_where cell_shown cs ts

pub length-chars : (cs : List CellData) (ts : List ℕ) → length ts ≡ length cs → length (chars cs ts) ≡ shown_in cs
length-chars [] ts e = refl
length-chars (c ∷ cs) [] e = absurd (omega (arith, e))
length-chars (c ∷ cs) (t ∷ ts) e = by (cell_shown c) (length-chars cs ts (omega (arith, e)))
  where
    by : (b : Bool) → length (chars cs ts) ≡ shown_in cs
        → length (if b then t ∷ chars cs ts else chars cs ts) ≡ length (cond b (c ∷ filter cell_shown cs) (filter cell_shown cs))
    by true rest = ap suc rest
    by false rest = rest

-- those of the chunks in front of one, of this one, and of those behind it
abbrev pub front_chars : List (List CellData) → List (List ℕ) → ℕ → List ℕ
front_chars cs ts i = chars (flat (take i cs)) (joined (take i ts))

abbrev pub own_chars : List (List CellData) → List (List ℕ) → ℕ → List ℕ
own_chars cs ts i = chars (get_or cs i []) (get_or ts i [])

abbrev pub later_chars : List (List CellData) → List (List ℕ) → ℕ → List ℕ
later_chars cs ts i = chars (flat (drop (suc i) cs)) (joined (drop (suc i) ts))

pub parts : (cs : List (List CellData)) (ts : List (List ℕ)) (i : ℕ) → AreAsLong cs ts → i < length cs
    → chars (flat cs) (joined ts) ≡ front_chars cs ts i ++ (own_chars cs ts i ++ later_chars cs ts i)
parts [] ts i e lt = absurd (omega (arith, lt))
parts (c ∷ cs) [] i e lt = absurd (uneven c cs e)
parts (c ∷ cs) (t ∷ ts) zero e lt = chars_where-append cell_shown c (flat cs) t (joined ts) (first_long c cs t ts e)
parts (c ∷ cs) (t ∷ ts) (suc i) e lt =
    let long = first_long c cs t ts e in
    let rest = own_chars cs ts i ++ later_chars cs ts i in
    chars_where-append cell_shown c (flat cs) t (joined ts) long
    ∙ ap (λ (l : List ℕ). chars c t ++ l) (parts cs ts i (others_long c cs t ts e) (omega (arith, lt)))
    ∙ sym (append_assoc (chars c t) (front_chars cs ts i) rest)
    ∙ ap (λ (l : List ℕ). l ++ rest) (sym (chars_where-append cell_shown c (flat (take i cs)) t (joined (take i ts)) long))

pub front_count : (cs : List (List CellData)) (ts : List (List ℕ)) (i : ℕ) → AreAsLong cs ts
    → length (front_chars cs ts i) ≡ shown_in (flat (take i cs))
front_count cs ts i e = length-chars (flat (take i cs)) (joined (take i ts)) (beside_taken ts cs i e)

pub own_count : (cs : List (List CellData)) (ts : List (List ℕ)) (i : ℕ) → AreAsLong cs ts → i < length cs
    → length (own_chars cs ts i) ≡ shown_in (get_or cs i [])
own_count cs ts i e lt = length-chars (get_or cs i []) (get_or ts i []) (beside_at ts cs i e lt)

-- the chunk of the v-th shown character
pub shown_part : (cs : List (List CellData)) (ts : List (List ℕ)) (i before v : ℕ) → AreAsLong cs ts → IsPart (map shown_in cs) i before v
    → (i < length cs) × (before < length (own_chars cs ts i)) × (length (front_chars cs ts i) + before ≡ v)
shown_part cs ts i before v e part =
    let lt : i < length cs = omega (arith, part.part, length-map cs shown_in) in (
      lt,
      omega (arith, part.within, get_or-map shown_in cs i [] 0 lt, own_count cs ts i e lt),
      omega (
        arith,
        part.place,
        ap (λ (ns : List ℕ). sum ns) (take-map shown_in i cs),
        sum-shown (take i cs),
        front_count cs ts i e,
      ),
    )

-- no more characters are shown than there are cells
pub chars_few : (cs : List CellData) (ts : List ℕ) → length (chars cs ts) ≤ length cs
chars_few [] ts = omega arith
chars_few (c ∷ cs) [] = omega arith
chars_few (c ∷ cs) (t ∷ ts) = by (cell_shown c) (chars_few cs ts)
  where
    by : (b : Bool) → length (chars cs ts) ≤ length cs → length (if b then t ∷ chars cs ts else chars cs ts) ≤ suc (length cs)
    by true rest = omega (arith, rest)
    by false rest = omega (arith, rest)

-- the columns of a chunk are as long as one another, and tell its shown characters
pub columns_even : (cs : List (List CellData)) (ts : List (List ℕ)) (i : ℕ) (flags text : List ℕ) → AreAsLong cs ts → i < length cs
    → flags ≡ map flag_of (get_or cs i []) → text ≡ get_or ts i [] → length text ≡ length flags
columns_even cs ts i flags text e lt is_flags is_text = omega (
  arith,
  ap (λ (l : List ℕ). length l) is_text,
  beside_at ts cs i e lt,
  length-map (get_or cs i []) flag_of,
  ap (λ (l : List ℕ). length l) is_flags,
)

pub columns_tell : (cs : List (List CellData)) (ts : List (List ℕ)) (i : ℕ) (flags text : List ℕ)
    → flags ≡ map flag_of (get_or cs i []) → text ≡ get_or ts i [] → flagged flags text ≡ own_chars cs ts i
columns_tell cs ts i flags text is_flags is_text =
    ap₂ flagged is_flags is_text ∙ flagged_shown (get_or cs i []) (get_or ts i [])

-- what the first shown characters weigh, by the chunks
pub taken_weight : (m : Measure) (cs : List (List CellData)) (ts : List (List ℕ)) (i before v : ℕ) → AreAsLong cs ts → i < length cs
    → before ≤ length (own_chars cs ts i) → length (front_chars cs ts i) + before ≡ v
    → weight_of m (take v (chars (flat cs) (joined ts))) ≡ weight_of m (front_chars cs ts i) + weight_of m (take before (own_chars cs ts i))
taken_weight m cs ts i before v e lt le is =
    ap (λ (l : List ℕ). weight_of m (take v l)) (parts cs ts i e lt)
    ∙ ap (λ n. weight_of m (take n (front_chars cs ts i ++ (own_chars cs ts i ++ later_chars cs ts i)))) (sym is)
    ∙ weight_within m (front_chars cs ts i) (own_chars cs ts i) (later_chars cs ts i) before le

-- what the chunks weigh
weights_count : (m : Measure) (cs : List (List CellData)) (ts : List (List ℕ)) → length (chunk_weights m cs ts) ≤ length cs
weights_count m [] ts = omega arith
weights_count m (c ∷ cs) [] = omega arith
weights_count m (c ∷ cs) (t ∷ ts) = omega (arith, weights_count m cs ts)

own_weight : (m : Measure) (cs : List (List CellData)) (ts : List (List ℕ)) (i : ℕ) → i < length (chunk_weights m cs ts)
    → get_or (chunk_weights m cs ts) i 0 ≡ weight_of m (own_chars cs ts i)
own_weight m [] ts i lt = absurd (omega (arith, lt))
own_weight m (c ∷ cs) [] i lt = absurd (omega (arith, lt))
own_weight m (c ∷ cs) (t ∷ ts) zero lt = refl
own_weight m (c ∷ cs) (t ∷ ts) (suc i) lt = own_weight m cs ts i (omega (arith, lt))

front_weight : (m : Measure) (cs : List (List CellData)) (ts : List (List ℕ)) (i : ℕ) → AreAsLong cs ts
    → sum (take i (chunk_weights m cs ts)) ≡ weight_of m (front_chars cs ts i)
front_weight m cs ts zero e = refl
front_weight m [] ts (suc i) e = refl
front_weight m (c ∷ cs) [] (suc i) e = absurd (uneven c cs e)
front_weight m (c ∷ cs) (t ∷ ts) (suc i) e =
    sum_by-cons (λ (n : ℕ). n) (weight_of m (chars c t)) (take i (chunk_weights m cs ts))
    ∙ ap (λ n. weight_of m (chars c t) + n) (front_weight m cs ts i (others_long c cs t ts e))
    ∙ sym (weight-append m (chars c t) (front_chars cs ts i))
    ∙ ap (weight_of m)
    (sym (chars_where-append cell_shown c (flat (take i cs)) t (joined (take i ts)) (first_long c cs t ts e)))

-- the chunk in which the n-th unit lies
pub weight_chunk : (m : Measure) (cs : List (List CellData)) (ts : List (List ℕ)) (i before n : ℕ) → AreAsLong cs ts
    → IsPart (chunk_weights m cs ts) i before n
    → (i < length cs) × (before < weight_of m (own_chars cs ts i)) × (weight_of m (front_chars cs ts i) + before ≡ n)
weight_chunk m cs ts i before n e part = (
  omega (arith, part.part, weights_count m cs ts),
  omega (arith, part.within, own_weight m cs ts i part.part),
  omega (arith, part.place, front_weight m cs ts i e),
)
