-- Undone names in words: where a name stands, and its generation there.
use Rattle.std.proofs.Common.{◌≡◌, ℕ, zero, suc, ◌+◌, ◌-◌, ◌*◌, ◌/◌, ◌%◌, ◌<◌, ◌≤◌, ◌≢◌, ◌^◌, true, false, List, [], ◌∷◌, ◌++◌}
use Rattle.std.proofs.Common.{if◌then◌else◌, set, get_or, append_assoc, add-one, refl, sym, ap, subst, ◌∙◌, inl, inr, arith}
use Rattle.std.specs.Prelude.{◌==◌, nat_lt}
use Rattle.std.proofs.lemmas.Bool.{cases_order, eq-eqb, ne_eqb, lt-ltb, false_from_ne_true}
use Rattle.std.proofs.lemmas.Bool.Decides.{nat_tests}
use Rattle.op_name.specs.NameData.{NameData, name_eq, name_lt}
use Rattle.op_name.proofs.CallerLemmas.{number_order, name_same, name_itself, same_parts}
use Rattle.context_vector.specs.Contexts.{count_in, entry_in, put_count}
use Rattle.context_vector.specs.Vectors.{without_site}
use Rattle.std.specs.List.{insert, remove}
use Rattle.context_vector.specs.Code.Words.{digit, code, word_key, place_in, name_at, generation, generation_at}
use Rattle.context_vector.specs.Code.Words.{names_from, names_in, entries_in, AreWords, set_word}
use Rattle.context_vector.proofs.Keyed.{AllAfter, IsRising, value_after, value_is, put_is_set, take_out_is_remove}
use Rattle.context_vector.proofs.Counts.{same_site, count_is, put_count_is, without_site_is, count_in_gap, put_in_gap}
use Rattle.context_vector.specs.Code.Places.{IsPlace, IsGap}
use Rattle.context_vector.proofs.Digits.{digit_none}

-- a name with a number of 20 bits stands at one place of one word
code_again : (c : ℕ) → c / 2 ^ 20 * 2 ^ 20 + c % 2 ^ 20 ≡ c
code_again c = omega arith

pub code_at : (k i : ℕ) → code (name_at k i) ≡ k * 8 + i
code_at k i = code_again (k * 8 + i)

pub number_at : (k i : ℕ) → (name_at k i).number < 2 ^ 20
number_at k i = omega arith

pub key_at : (k i : ℕ) → i < 8 → word_key (name_at k i) ≡ k
key_at k i within = rw (code_at k i) (omega arith)

pub place_at : (k i : ℕ) → i < 8 → place_in (name_at k i) ≡ i
place_at k i within = rw (code_at k i) (omega arith)

pub place_below : (n : NameData) → place_in n < 8
place_below n = omega arith

code_parts : (n : NameData) → code n ≡ word_key n * 8 + place_in n
code_parts n = omega arith

one_code : (n m : NameData) → n.number < 2 ^ 20 → m.number < 2 ^ 20 → code n ≡ code m → n ≡ m
one_code n m below below' same = same_parts n m (omega arith) (omega arith)

pub one_place : (n m : NameData) → n.number < 2 ^ 20 → m.number < 2 ^ 20 → word_key n ≡ word_key m → place_in n ≡ place_in m → n ≡ m
one_place n m below below' keys places = one_code n m below below' (omega (arith, code_parts n, code_parts m, keys, places))

pub name_again : (n : NameData) → n.number < 2 ^ 20 → name_at (word_key n) (place_in n) ≡ n
name_again n below =
    let at = name_at (word_key n) (place_in n) in
    one_code at n (number_at (word_key n) (place_in n)) below (code_at (word_key n) (place_in n) ∙ sym (code_parts n))

-- other codes are of other names, and names rise with their codes
names_apart : (a b : NameData) → a ≢ b → name_eq a b ≡ false
names_apart a b other = false_from_ne_true (name_eq a b) (λ same. other (name_same a b same))

is_at : (k i : ℕ) (n : NameData) → n.number < 2 ^ 20 → code n ≡ k * 8 + i → name_eq (name_at k i) n ≡ true
is_at k i n below at =
    let one : n ≡ name_at k i = one_code n (name_at k i) below (number_at k i) (at ∙ sym (code_at k i)) in
    subst (λ m. name_eq m n ≡ true) one (name_itself n)

not_at : (k i : ℕ) (n : NameData) → code n ≢ k * 8 + i → name_eq (name_at k i) n ≡ false
not_at k i n apart = names_apart (name_at k i) n (λ same. apart (ap code (sym same) ∙ code_at k i))

not_at_all : (k i : ℕ) (n : NameData) → 2 ^ 20 ≤ n.number → name_eq (name_at k i) n ≡ false
not_at_all k i n far = names_apart (name_at k i) n (λ same. below (ap (λ (m : NameData). m.number) same))
  where
    below : (name_at k i).number ≡ n.number → ⊥
    below same = omega (arith, number_at k i)

codes_rise : (n m : NameData) → n.number < 2 ^ 20 → m.number < 2 ^ 20 → code n < code m → name_lt n m ≡ true
codes_rise n m below below' less = grind (arith, nat_tests)

-- the names of a word before other entries: a name of another place, and one of theirs
names_miss : (gen : ℕ → ℕ) (k i c : ℕ) (es : List (NameData × ℕ)) (n : NameData) →
    ((j : ℕ) → i ≤ j → j < i + c → name_eq (name_at k j) n ≡ false) → entry_in (names_from gen k i c ++ es) n ≡ entry_in es n
names_miss gen k i zero es n other = refl
names_miss gen k i (suc c) es n other =
    let rest = names_miss gen k (suc i) c es n (λ j from to. other j (omega arith) (omega arith)) in
    elim (cases_order (gen i) 0) [
      | inl none ↦ rw (eq-eqb (gen i) 0 none) rest
      | inr some ↦ rw (ne_eqb (gen i) 0 (omega arith), other i (omega arith) (omega arith)) rest
    ]

names_hit : (gen : ℕ → ℕ) (k i c j : ℕ) (es : List (NameData × ℕ)) (n : NameData) →
    n.number < 2 ^ 20 → i ≤ j → j < i + c → code n ≡ k * 8 + j →
    entry_in (names_from gen k i c ++ es) n ≡ (if gen j == 0 then entry_in es n else gen j)
names_hit gen k i zero j es n below from to at = absurd (omega arith)
names_hit gen k i (suc c) j es n below from to at =
    elim (cases_order i j) [
      | inl one ↦
          let past = names_miss gen k (suc i) c es n (λ m low high. not_at k m n (omega arith)) in
          let here = is_at k i n below (omega arith) in
          subst (λ x. entry_in (names_from gen k i (suc c) ++ es) n ≡ (if gen x == 0 then entry_in es n else gen x)) one
          (elim (cases_order (gen i) 0) [
            | inl none ↦ rw (eq-eqb (gen i) 0 none) past
            | inr some ↦ rw (ne_eqb (gen i) 0 (omega arith), here) refl
          ])
      | inr apart ↦
          let rest = names_hit gen k (suc i) c j es n below (omega arith) (omega arith) at in
          elim (cases_order (gen i) 0) [
            | inl none ↦ rw (eq-eqb (gen i) 0 none) rest
            | inr some ↦ rw (ne_eqb (gen i) 0 (omega arith), not_at k i n (omega arith)) rest
          ]
    ]

-- keys of words are after lesser ones, and rise
words_after : (k low : ℕ) (ws : List (ℕ × ℕ)) → k < low → AreWords low ws → AllAfter same_site nat_lt k ws
words_after k low [] less are = tt
words_after k low (p ∷ ps) less are = (lt-ltb k p.0 (omega arith), words_after k (p.0 + 1) ps (omega arith) are.3)

pub words_rise : (low : ℕ) (ws : List (ℕ × ℕ)) → AreWords low ws → IsRising same_site nat_lt ws
words_rise low [] are = tt
words_rise low (p ∷ ps) are = (are.1, words_after p.0 (p.0 + 1) ps (omega arith) are.3, words_rise (p.0 + 1) ps are.3)

-- a lower bound may be lowered
pub words_from : (low from : ℕ) (ws : List (ℕ × ℕ)) → low ≤ from → AreWords from ws → AreWords low ws
words_from low from [] le are = tt
words_from low from (p ∷ ps) le are = (omega arith, are.1, are.2, are.3)

pub no_word : (k low : ℕ) (ws : List (ℕ × ℕ)) → k < low → AreWords low ws → count_in ws k ≡ 0
no_word k low ws less are = count_is ws k ∙ value_after same_site nat_lt number_order k ws (words_after k low ws less are)

-- what stands at the place of a key, and what a write and a removal there make
pub word_at_place : (ws : List (ℕ × ℕ)) (k i : ℕ) (d : ℕ × ℕ) → AreWords 0 ws → IsPlace ws k i → count_in ws k ≡ (get_or ws i d).1
word_at_place ws k i d are place = count_is ws k ∙ value_is same_site nat_lt number_order ws (words_rise 0 ws are) k i place d

put_word_at_place : (ws : List (ℕ × ℕ)) (k w i : ℕ) → AreWords 0 ws → IsPlace ws k i → set ws i (k, w) ≡ put_count k w ws
put_word_at_place ws k w i are place =
    sym (put_count_is k w ws ∙ put_is_set same_site nat_lt number_order ws (words_rise 0 ws are) k w i place)

remove_word_at_place : (ws : List (ℕ × ℕ)) (k i : ℕ) → AreWords 0 ws → IsPlace ws k i → remove ws i ≡ without_site k ws
remove_word_at_place ws k i are place =
    sym (without_site_is k ws ∙ take_out_is_remove same_site nat_lt number_order ws (words_rise 0 ws are) k i place)

without_no_word : (low k : ℕ) (ws : List (ℕ × ℕ)) → AreWords low ws → count_in ws k ≡ 0 → without_site k ws ≡ ws
without_no_word low k [] are none = refl
without_no_word low k (p ∷ ps) are none =
    elim (cases_order p.0 k) [
      | inl one ↦
          let here : p.1 ≡ 0 = rw (eq-eqb p.0 k one) at none in
          absurd (omega (arith, here, are.1))
      | inr other ↦
          let later : count_in ps k ≡ 0 = rw (ne_eqb p.0 k (omega arith)) at none in
          rw (ne_eqb p.0 k (omega arith)) (ap (λ xs. p ∷ xs) (without_no_word (p.0 + 1) k ps are.3 later))
    ]

-- a word that is set, at its place or in its gap
pub set_removed : (ws : List (ℕ × ℕ)) (k w i : ℕ) → AreWords 0 ws → IsPlace ws k i → w ≡ 0 → remove ws i ≡ set_word k w ws
unfolding set_word
set_removed ws k w i are place none = rw (eq-eqb w 0 none) (remove_word_at_place ws k i are place)

pub set_placed : (ws : List (ℕ × ℕ)) (k w i : ℕ) → AreWords 0 ws → IsPlace ws k i → w ≢ 0 → set ws i (k, w) ≡ set_word k w ws
unfolding set_word
set_placed ws k w i are place some = rw (ne_eqb w 0 some) (put_word_at_place ws k w i are place)

pub set_absent : (ws : List (ℕ × ℕ)) (k w i : ℕ) → AreWords 0 ws → IsGap nat_lt ws k i → w ≡ 0 → ws ≡ set_word k w ws
unfolding set_word
set_absent ws k w i are gap none = rw (eq-eqb w 0 none) (sym (without_no_word 0 k ws are (count_in_gap ws k i gap)))

pub set_inserted : (ws : List (ℕ × ℕ)) (k w i : ℕ) → IsGap nat_lt ws k i → w ≢ 0 → insert ws i (k, w) ≡ set_word k w ws
unfolding set_word
set_inserted ws k w i gap some = rw (ne_eqb w 0 some) (put_in_gap ws k w i gap)

-- the digit of a name in its word
abbrev pub digit_of : List (ℕ × ℕ) → NameData → ℕ
digit_of ws n = digit (count_in ws (word_key n)) (place_in n)

generation_is : (hs : List (NameData × ℕ)) (w : ℕ) (n : NameData) → n.number < 2 ^ 20 →
    generation_at hs (word_key n) w (place_in n) ≡ generation (digit w (place_in n)) (entry_in hs n)
unfolding generation_at
generation_is hs w n below = ap (λ m. generation (digit w (place_in n)) (entry_in hs m)) (name_again n below)

-- the names of a word before other entries, by key
word_miss : (hs : List (NameData × ℕ)) (p : ℕ × ℕ) (es : List (NameData × ℕ)) (n : NameData) →
    ((j : ℕ) → j < 8 → name_eq (name_at p.0 j) n ≡ false) → entry_in (names_in hs p ++ es) n ≡ entry_in es n
unfolding names_in
word_miss hs p es n other = names_miss (generation_at hs p.0 p.1) p.0 0 8 es n (λ j from to. other j (omega arith))

word_hit : (hs : List (NameData × ℕ)) (p : ℕ × ℕ) (es : List (NameData × ℕ)) (n : NameData) → n.number < 2 ^ 20 → p.0 ≡ word_key n →
    entry_in es n ≡ 0 → entry_in (names_in hs p ++ es) n ≡ generation (digit p.1 (place_in n)) (entry_in hs n)
unfolding names_in
word_hit hs p es n below one none =
    let gen = generation_at hs p.0 p.1 in
    let at : code n ≡ p.0 * 8 + place_in n = omega (arith, code_parts n, one) in
    names_hit gen p.0 0 8 (place_in n) es n below (omega arith) (omega (arith, place_below n)) at
    ∙ (other_or_none (gen (place_in n)) (entry_in es n) none
    ∙ (ap (λ k. generation_at hs k p.1 (place_in n)) one ∙ generation_is hs p.1 n below))
  where
    other_or_none : (g other : ℕ) → other ≡ 0 → (if g == 0 then other else g) ≡ g
    other_or_none g other none =
        elim (cases_order g 0) [ inl nought ↦ rw (eq-eqb g 0 nought) (none ∙ sym nought) | inr some ↦ rw (ne_eqb g 0 (omega arith)) refl ]

-- a name's generation among the names of all words, by its digit
pub entry_words : (hs : List (NameData × ℕ)) (low : ℕ) (ws : List (ℕ × ℕ)) (n : NameData) → AreWords low ws → n.number < 2 ^ 20 →
    entry_in (entries_in hs ws) n ≡ generation (digit_of ws n) (entry_in hs n)
entry_words hs low [] n are below = rw (digit_none (place_in n)) refl
entry_words hs low (p ∷ ps) n are below =
    let rest = entry_words hs (p.0 + 1) ps n are.3 below in
    elim (cases_order p.0 (word_key n)) [
      | inl one ↦
          let no_digit : digit_of ps n ≡ 0 = rw (no_word (word_key n) (p.0 + 1) ps (omega arith) are.3) (digit_none (place_in n)) in
          let none : entry_in (entries_in hs ps) n ≡ 0 = rest ∙ ap (λ d. generation d (entry_in hs n)) no_digit in
          rw (eq-eqb p.0 (word_key n) one) (word_hit hs p (entries_in hs ps) n below one none)
      | inr apart ↦
          let other = λ (j : ℕ) (within : j < 8). not_at p.0 j n (λ at. omega (arith, code_parts n, place_below n)) in
          rw (ne_eqb p.0 (word_key n) (omega arith)) (word_miss hs p (entries_in hs ps) n other ∙ rest)
    ]

-- a name whose number has more than 20 bits is in no word
pub no_entry : (hs : List (NameData × ℕ)) (ws : List (ℕ × ℕ)) (n : NameData) → 2 ^ 20 ≤ n.number → entry_in (entries_in hs ws) n ≡ 0
no_entry hs [] n far = refl
no_entry hs (p ∷ ps) n far = word_miss hs p (entries_in hs ps) n (λ j within. not_at_all p.0 j n far) ∙ no_entry hs ps n far

-- codes of entries from this one on, of names with numbers of 20 bits
abbrev FromCode : ℕ → List (NameData × ℕ) → Type 0
FromCode c [] = Unit {0}
FromCode c (e ∷ es) = (c ≤ code e.0) × (e.0.number < 2 ^ 20) × FromCode c es

from_less : (b c : ℕ) (es : List (NameData × ℕ)) → b ≤ c → FromCode c es → FromCode b es
from_less b c [] le from = tt
from_less b c (e ∷ es) le from = (omega arith, from.1, from_less b c es le from.2)

after_code : (n : NameData) (c : ℕ) (es : List (NameData × ℕ)) → n.number < 2 ^ 20 → code n < c → FromCode c es →
    AllAfter name_eq name_lt n es
after_code n c [] below less from = tt
after_code n c (e ∷ es) below less from = (codes_rise n e.0 below from.1 (omega arith), after_code n c es below less from.2)

-- the names of a word before entries of later codes rise
names_code : (gen : ℕ → ℕ) (k i c : ℕ) (es : List (NameData × ℕ)) → FromCode (k * 8 + (i + c)) es →
    FromCode (k * 8 + i) (names_from gen k i c ++ es)
names_code gen k i zero es from = from_less (k * 8 + i) (k * 8 + (i + zero)) es (omega arith) from
names_code gen k i (suc c) es from =
    let later : FromCode (k * 8 + (suc i + c)) es = from_less _ (k * 8 + (i + suc c)) es (omega arith) from in
    let rest : FromCode (k * 8 + i) (names_from gen k (suc i) c ++ es) =
    from_less _ (k * 8 + suc i) _ (omega arith) (names_code gen k (suc i) c es later) in
    elim (cases_order (gen i) 0) [
      | inl none ↦ rw (eq-eqb (gen i) 0 none) rest
      | inr some ↦ rw (ne_eqb (gen i) 0 (omega arith)) (omega (arith, code_at k i), number_at k i, rest)
    ]

names_rise : (gen : ℕ → ℕ) (k i c : ℕ) (es : List (NameData × ℕ)) → FromCode (k * 8 + (i + c)) es → IsRising name_eq name_lt es →
    IsRising name_eq name_lt (names_from gen k i c ++ es)
names_rise gen k i zero es from rise = rise
names_rise gen k i (suc c) es from rise =
    let later : FromCode (k * 8 + (suc i + c)) es = from_less _ (k * 8 + (i + suc c)) es (omega arith) from in
    let rest = names_rise gen k (suc i) c es later rise in
    elim (cases_order (gen i) 0) [
      | inl none ↦ rw (eq-eqb (gen i) 0 none) rest
      | inr some ↦
          let less : code (name_at k i) < k * 8 + suc i = omega (arith, code_at k i) in
          let after = after_code (name_at k i) (k * 8 + suc i) _ (number_at k i) less (names_code gen k (suc i) c es later) in
          rw (ne_eqb (gen i) 0 (omega arith)) (omega arith, after, rest)
    ]

entries_code : (hs : List (NameData × ℕ)) (low : ℕ) (ws : List (ℕ × ℕ)) → AreWords low ws → FromCode (low * 8) (entries_in hs ws)
unfolding names_in
entries_code hs low [] are = tt
entries_code hs low (p ∷ ps) are =
    let rest = entries_code hs (p.0 + 1) ps are.3 in
    let later : FromCode (p.0 * 8 + (0 + 8)) (entries_in hs ps) = from_less _ ((p.0 + 1) * 8) _ (omega arith) rest in
    from_less (low * 8) (p.0 * 8 + 0) _ (omega arith) (names_code (generation_at hs p.0 p.1) p.0 0 8 (entries_in hs ps) later)

pub entries_in_rise : (hs : List (NameData × ℕ)) (low : ℕ) (ws : List (ℕ × ℕ)) → AreWords low ws →
    IsRising name_eq name_lt (entries_in hs ws)
unfolding names_in
entries_in_rise hs low [] are = tt
entries_in_rise hs low (p ∷ ps) are =
    let codes = entries_code hs (p.0 + 1) ps are.3 in
    let later : FromCode (p.0 * 8 + (0 + 8)) (entries_in hs ps) = from_less _ ((p.0 + 1) * 8) _ (omega arith) codes in
    names_rise (generation_at hs p.0 p.1) p.0 0 8 (entries_in hs ps) later (entries_in_rise hs (p.0 + 1) ps are.3)

-- words one after the other
pub entries_append : (hs : List (NameData × ℕ)) (xs ys : List (ℕ × ℕ)) → entries_in hs (xs ++ ys) ≡ entries_in hs xs ++ entries_in hs ys
entries_append hs [] ys = refl
entries_append hs (p ∷ ps) ys =
    ap (λ es. names_in hs p ++ es) (entries_append hs ps ys) ∙ sym (append_assoc (names_in hs p) (entries_in hs ps) (entries_in hs ys))

-- the names of a word are passed one by one
more_places : (i : ℕ) → i < 8 → 8 - i ≡ suc (8 - (i + 1))
more_places i within = omega arith

pub names_pass : (gen : ℕ → ℕ) (k i : ℕ) → i < 8 → gen i ≡ 0 → names_from gen k i (8 - i) ≡ names_from gen k (i + 1) (8 - (i + 1))
names_pass gen k i within none = rw (more_places i within, eq-eqb (gen i) 0 none, add-one i) refl

pub names_first : (gen : ℕ → ℕ) (k i : ℕ) → i < 8 → gen i ≢ 0 →
    names_from gen k i (8 - i) ≡ (name_at k i, gen i) ∷ names_from gen k (i + 1) (8 - (i + 1))
names_first gen k i within some = rw (more_places i within, ne_eqb (gen i) 0 some, add-one i) refl
