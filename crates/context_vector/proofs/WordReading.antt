-- Words that are read from the front: parts of a list of words, and what is left of a word.
use Rattle.std.proofs.Common.{◌≡◌, ℕ, zero, suc, ◌+◌, ◌-◌, ◌*◌, ◌/◌, ◌%◌, ◌<◌, ◌≤◌, ◌≢◌, ◌^◌, List, [], ◌∷◌, ◌++◌, length}
use Rattle.std.proofs.Common.{if◌then◌else◌, drop, Some, None, refl, sym, ap, subst, ◌∙◌, inl, inr, arith}
use Rattle.std.specs.Prelude.{◌==◌, slice_get}
use Rattle.std.proofs.lemmas.Bool.{cases_order, eq-eqb}
use Rattle.op_name.specs.declared.member.TheConstants.{GENERATIONS}
use Rattle.op_name.specs.NameData.{NameData, IsName}
use Rattle.context_vector.specs.Contexts.{count_in, entry_in, AreEntries}
use Rattle.context_vector.specs.Vectors.{SitesBelow}
use Rattle.context_vector.specs.Code.Words.{digit, name_at, generation, generation_at, names_from, names_in, names_left, left_in}
use Rattle.context_vector.specs.Code.Words.{entries_in, IsLeft, AreWords}
use Rattle.context_vector.proofs.Words.{words_from, no_word, entries_append, names_first, names_pass}
use Rattle.std.proofs.Math.Nat.{pow-succ'}
use Rattle.context_vector.proofs.Merging.{begins, ends}
use Rattle.context_vector.proofs.Digits.{digit_none, generation_some}

-- parts of words are words
pub words_front : (low : ℕ) (ps qs : List (ℕ × ℕ)) → AreWords low (ps ++ qs) → AreWords low ps
words_front low [] qs are = tt
words_front low (p ∷ ps) qs are = (are.0, are.1, are.2, words_front (p.0 + 1) ps qs are.3)

pub words_back : (low : ℕ) (ps qs : List (ℕ × ℕ)) → AreWords low (ps ++ qs) → AreWords low qs
words_back low [] qs are = are
words_back low (p ∷ ps) qs are = words_from low (p.0 + 1) qs (omega (arith, are.0)) (words_back (p.0 + 1) ps qs are.3)

-- what the last key of a part says of the keys before and after it
same_word : (p q : ℕ × ℕ) → Some p ≡ Some q → p ≡ q
same_word p q e = cc

pub last_word_below : (low : ℕ) (ps : List (ℕ × ℕ)) (i : ℕ) (p : ℕ × ℕ) (k : ℕ) → AreWords low ps → length ps ≡ suc i →
    slice_get ps i ≡ Some p → p.0 < k → SitesBelow ps k
last_word_below low [] i p k are long is less = tt
last_word_below low (x ∷ []) zero p k are long is less = (subst (λ (y : ℕ × ℕ). y.0 < k) (sym (same_word x p is)) less, tt)
last_word_below low (x ∷ []) (suc i) p k are long is less = absurd (omega (arith, long))
last_word_below low (x ∷ (y ∷ ps)) zero p k are long is less = absurd (omega (arith, long))
last_word_below low (x ∷ (y ∷ ps)) (suc i) p k are long is less =
    let rest = last_word_below (x.0 + 1) (y ∷ ps) i p k are.3 (omega (arith, long)) is less in
    (omega (arith, are.3.0, rest.0), rest)

pub last_word_reaches : (low : ℕ) (ps : List (ℕ × ℕ)) (i : ℕ) (p : ℕ × ℕ) (k : ℕ) (more : List (ℕ × ℕ)) → AreWords low (ps ++ more) →
    length ps ≡ suc i → slice_get ps i ≡ Some p → k ≤ p.0 → AreWords (k + 1) more
last_word_reaches low [] i p k more are long is from = absurd (omega (arith, long))
last_word_reaches low (x ∷ []) zero p k more are long is from =
    words_from (k + 1) (x.0 + 1) more (subst (λ (y : ℕ × ℕ). k + 1 ≤ y.0 + 1) (sym (same_word x p is)) (omega arith)) are.3
last_word_reaches low (x ∷ []) (suc i) p k more are long is from = absurd (omega (arith, long))
last_word_reaches low (x ∷ (y ∷ ps)) zero p k more are long is from = absurd (omega (arith, long))
last_word_reaches low (x ∷ (y ∷ ps)) (suc i) p k more are long is from =
    last_word_reaches (x.0 + 1) (y ∷ ps) i p k more are.3 (omega (arith, long)) is from

-- a word is looked up in the part where its key is or would be
pub word_front : (ps more : List (ℕ × ℕ)) (k : ℕ) → AreWords (k + 1) more → count_in (ps ++ more) k ≡ count_in ps k
word_front [] more k are = no_word k (k + 1) more (omega arith) are
word_front (p ∷ ps) more k are = ap (λ v. if p.0 == k then p.1 else v) (word_front ps more k are)

-- names by the generations at their places alone
names_from_same : (gen other : ℕ → ℕ) (k i c : ℕ) → ((j : ℕ) → i ≤ j → gen j ≡ other j) → names_from gen k i c ≡ names_from other k i c
names_from_same gen other k i zero same = refl
names_from_same gen other k i (suc c) same =
    let rest = names_from_same gen other k (suc i) c (λ j from. same j (omega arith)) in
    let here = same i (omega arith) in
    (λ t. if gen i == 0 then rest t else (name_at k i, gen i) ∷ rest t)
    ∙ ap (λ g. if g == 0 then names_from other k (suc i) c else (name_at k i, g) ∷ names_from other k (suc i) c) here

names_from_none : (gen : ℕ → ℕ) (k i c : ℕ) → ((j : ℕ) → gen j ≡ 0) → names_from gen k i c ≡ []
names_from_none gen k i zero none = refl
names_from_none gen k i (suc c) none = rw (eq-eqb (gen i) 0 (none i)) (names_from_none gen k (suc i) c none)

-- nothing is left where all digits are 0, and the whole word before the first place
pub left_none : (hs : List (NameData × ℕ)) (k i : ℕ) → names_left hs k i 0 ≡ []
unfolding names_left
left_none hs k i =
    names_from_none (λ j. generation (digit 0 (j - i)) (entry_in hs (name_at k j))) k i (8 - i)
    (λ j. ap (λ d. generation d (entry_in hs (name_at k j))) (digit_none (j - i)))

pub left_whole : (hs : List (NameData × ℕ)) (p : ℕ × ℕ) → names_left hs p.0 0 p.1 ≡ names_in hs p
unfolding names_left names_in generation_at
left_whole hs p = names_from_same _ _ p.0 0 8 (λ j from. ap (λ i. generation (digit p.1 i) (entry_in hs (name_at p.0 j))) (whole j))
  where
    whole : (j : ℕ) → j - 0 ≡ j
    whole j = omega arith

-- the digit at the first place, and those behind it
first_digit : (w i : ℕ) → digit w (i - i) ≡ w % 16
first_digit w i = ap (digit w) (let none : i - i ≡ 0 = omega arith in none)

later_digit : (w i j : ℕ) → i + 1 ≤ j → digit w (j - i) ≡ digit (w / 16) (j - (i + 1))
later_digit w i j from = ap (digit w) (let more : j - i ≡ suc (j - (i + 1)) = omega arith in more)

behind : (hs : List (NameData × ℕ)) (k i w : ℕ) →
    names_from (λ j. generation (digit w (j - i)) (entry_in hs (name_at k j))) k (i + 1) (8 - (i + 1)) ≡ names_left hs k (i + 1) (w / 16)
unfolding names_left
behind hs k i w =
    names_from_same _ _ k (i + 1) (8 - (i + 1)) (λ j from. ap (λ d. generation d (entry_in hs (name_at k j))) (later_digit w i j from))

-- a place without a digit is passed, and one with a digit has the first name
pub left_pass : (hs : List (NameData × ℕ)) (k i w : ℕ) → i < 8 → w % 16 ≡ 0 → names_left hs k i w ≡ names_left hs k (i + 1) (w / 16)
unfolding names_left
left_pass hs k i w within none =
    let gen = λ (j : ℕ). generation (digit w (j - i)) (entry_in hs (name_at k j)) in
    let nought : gen i ≡ 0 = ap (λ d. generation d (entry_in hs (name_at k i))) (first_digit w i ∙ none) in
    names_pass gen k i within nought ∙ behind hs k i w

pub left_first : (hs : List (NameData × ℕ)) (k i w : ℕ) → i < 8 → w % 16 ≢ 0 →
    names_left hs k i w ≡ (name_at k i, generation (w % 16) (entry_in hs (name_at k i))) ∷ names_left hs k (i + 1) (w / 16)
unfolding names_left
left_first hs k i w within some =
    let gen = λ (j : ℕ). generation (digit w (j - i)) (entry_in hs (name_at k j)) in
    let here : gen i ≡ generation (w % 16) (entry_in hs (name_at k i)) =
    ap (λ d. generation d (entry_in hs (name_at k i))) (first_digit w i) in
    let least : generation (w % 16) (entry_in hs (name_at k i)) ≡ w % 16 + 15 * entry_in hs (name_at k i) =
    generation_some (w % 16) (entry_in hs (name_at k i)) (omega arith) in
    names_first gen k i within (λ none. omega (arith, sym here ∙ none, least, some)) ∙ (λ t. (name_at k i, here t) ∷ behind hs k i w t)

-- a word has so many digits as it has places left
pub left_within : (i w : ℕ) → IsLeft i w → w ≢ 0 → i < 8
left_within i w left some =
    elim (cases_order i 8) [
      | inl end ↦ absurd (some (omega (arith, subst (λ x. w < 16 ^ (8 - x)) end left.1)))
      | inr other ↦ omega (arith, left.0)
    ]

pub left_next : (i w : ℕ) → IsLeft i w → i < 8 → IsLeft (i + 1) (w / 16)
left_next i w left within =
    let more : 8 - i ≡ suc (8 - (i + 1)) = omega arith in
    let power : 16 ^ (8 - i) ≡ 16 * 16 ^ (8 - (i + 1)) = ap (λ c. 16 ^ c) more ∙ pow-succ' 16 (8 - (i + 1)) in
    (omega arith, omega (arith, left.1, power))

pub left_start : (w : ℕ) → w < 2 ^ 32 → IsLeft 0 w
left_start w below = (omega arith, below)

-- behind a word of which nothing is left comes the next one, if there is any
pub left_loads : (hs : List (NameData × ℕ)) (k i w : ℕ) (ws : List (ℕ × ℕ)) (p : ℕ × ℕ) → w ≡ 0 → slice_get ws 0 ≡ Some p →
    left_in hs k i w ws ≡ left_in hs p.0 0 p.1 (drop 1 ws)
left_loads hs k i w ws p none is =
    ap (λ x. left_in hs k i x ws) none
    ∙ (ap (λ es. es ++ entries_in hs ws) (left_none hs k i)
    ∙ (ap (entries_in hs) (begins ws p is) ∙ ap (λ es. es ++ entries_in hs (drop 1 ws)) (sym (left_whole hs p))))

pub left_ends : (hs : List (NameData × ℕ)) (k i w : ℕ) (ws : List (ℕ × ℕ)) → w ≡ 0 → slice_get ws 0 ≡ None → left_in hs k i w ws ≡ []
left_ends hs k i w ws none is =
    ap (λ x. left_in hs k i x ws) none ∙ (ap (λ es. es ++ entries_in hs ws) (left_none hs k i) ∙ ap (entries_in hs) (ends ws is))

pub words_rest : (ws : List (ℕ × ℕ)) → AreWords 0 ws → AreWords 0 (drop 1 ws)
words_rest [] are = tt
words_rest (p ∷ ps) are = words_from 0 (p.0 + 1) ps (omega arith) are.3

pub first_below : (ws : List (ℕ × ℕ)) (p : ℕ × ℕ) → AreWords 0 ws → slice_get ws 0 ≡ Some p → p.1 < 2 ^ 32
first_below ws p are is = (subst (AreWords 0) (begins ws p is) are).2

-- where nothing is left of a word, what is left is in the words after it
pub left_done : (hs : List (NameData × ℕ)) (k i w : ℕ) (ws : List (ℕ × ℕ)) → w ≡ 0 → left_in hs k i w ws ≡ entries_in hs ws
left_done hs k i w ws none = ap (λ x. left_in hs k i x ws) none ∙ ap (λ es. es ++ entries_in hs ws) (left_none hs k i)

pub is_done : (i w : ℕ) → i ≡ 8 → w ≡ 0 → IsLeft i w
is_done i w end none = subst (λ x. IsLeft x w) (sym end) (subst (IsLeft 8) (sym none) (omega arith, omega arith))

-- what is left begins with the name at the place of a digit
pub record BeginsAt (hs : List (NameData × ℕ)) (k i w : ℕ) (ws : List (ℕ × ℕ)) : Type 0 where
  pub whole : left_in hs k i w ws ≡ (name_at k i, generation (w % 16) (entry_in hs (name_at k i))) ∷ left_in hs k (i + 1) (w / 16) ws
  pub within : i < 8
  pub name : IsName (name_at k i).site (name_at k i).number
  pub most : generation (w % 16) (entry_in hs (name_at k i)) ≤ GENERATIONS
  pub next : IsLeft (i + 1) (w / 16)
  pub rest : AreEntries (left_in hs k (i + 1) (w / 16) ws)

pub begins_at : (hs : List (NameData × ℕ)) (k i w : ℕ) (ws : List (ℕ × ℕ)) → IsLeft i w → w % 16 ≢ 0 → AreEntries (left_in hs k i w ws) →
    BeginsAt hs k i w ws
begins_at hs k i w ws left some are =
    let within = left_within i w left (λ none. some (omega (arith, none))) in
    let whole = ap (λ es. es ++ entries_in hs ws) (left_first hs k i w within some) in
    let parts = subst AreEntries whole are in
    record { whole = whole; within = within; name = parts.0; most = parts.2; next = left_next i w left within; rest = parts.4 }

-- where words are passed, what is left are entries still
entries_right : (es fs : List (NameData × ℕ)) → AreEntries (es ++ fs) → AreEntries fs
entries_right [] fs are = are
entries_right (e ∷ es) fs are = entries_right es fs are.4

pub still_left : (hs : List (NameData × ℕ)) (k i w : ℕ) (ws xs ys : List (ℕ × ℕ)) → w ≡ 0 → ws ≡ xs ++ ys →
    AreEntries (left_in hs k i w ws) → AreEntries (left_in hs k i w ys)
still_left hs k i w ws xs ys none parts are =
    let all = left_done hs k i w ws none ∙ (ap (entries_in hs) parts ∙ entries_append hs xs ys) in
    subst AreEntries (sym (left_done hs k i w ys none)) (entries_right (entries_in hs xs) (entries_in hs ys) (subst AreEntries all are))
