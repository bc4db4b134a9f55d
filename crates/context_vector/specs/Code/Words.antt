-- Undone names in words: eight neighbouring names in one number, with a digit to the base 16 for each.
use Rattle.std.specs.Prelude.{◌≡◌, ℕ, zero, suc, ◌+◌, ◌-◌, ◌*◌, ◌/◌, ◌%◌, ◌^◌, ◌<◌, ◌≤◌, List, [], ◌∷◌, ◌++◌, ◌==◌, if◌then◌else◌}
use Rattle.op_name.specs.NameData.{NameData}
use Rattle.context_vector.specs.Contexts.{count_in, entry_in, put_count, AreEntries}
use Rattle.context_vector.specs.Vectors.{without_site}

-- the i-th digit of a number to the base 16, from the lowest
abbrev pub digit : ℕ → ℕ → ℕ
digit w zero = w % 16
digit w (suc i) = digit (w / 16) i

-- the number with d, below 16, as its i-th digit
abbrev pub with_digit : ℕ → ℕ → ℕ → ℕ
with_digit w zero d = w / 16 * 16 + d
with_digit w (suc i) d = with_digit (w / 16) i d * 16 + w % 16

-- a name, whose number is below 2 ^ 20, as one number: site and number side by side
abbrev pub code : NameData → ℕ
code n = n.site * 2 ^ 20 + n.number

-- the key of the word of a name, and the place of the name in it
abbrev pub word_key : NameData → ℕ
word_key n = code n / 8

abbrev pub place_in : NameData → ℕ
place_in n = code n % 8

-- the name at a place of the word with a key
abbrev pub name_at : ℕ → ℕ → NameData
name_at k i = record { site = (k * 8 + i) / 2 ^ 20; number = (k * 8 + i) % 2 ^ 20 }

-- the generation of a digit, 1 to 15, and of what is above it, in steps of 15; at digit 0 nothing is undone
abbrev pub generation : ℕ → ℕ → ℕ
generation d h = if d == 0 then 0 else d + 15 * h

-- the digit of a generation, and what is above it
abbrev pub low_of : ℕ → ℕ
low_of g = if g == 0 then 0 else 1 + (g - 1) % 15

abbrev pub high_of : ℕ → ℕ
high_of g = (g - 1) / 15

-- the generation at a place of the word with a key, where the second list has what is above the digits
unfoldable pub generation_at : List (NameData × ℕ) → ℕ → ℕ → ℕ → ℕ
generation_at hs k w i = generation (digit w i) (entry_in hs (name_at k i))

-- the undone names among c places of a word, from place i on
abbrev pub names_from : (ℕ → ℕ) → ℕ → ℕ → ℕ → List (NameData × ℕ)
names_from gen k i zero = []
names_from gen k i (suc c) = if gen i == 0 then names_from gen k (suc i) c else (name_at k i, gen i) ∷ names_from gen k (suc i) c

-- the undone names of a word
unfoldable pub names_in : List (NameData × ℕ) → ℕ × ℕ → List (NameData × ℕ)
names_in hs p = names_from (generation_at hs p.0 p.1) p.0 0 8

-- the undone names of all words
abbrev pub entries_in : List (NameData × ℕ) → List (ℕ × ℕ) → List (NameData × ℕ)
entries_in hs [] = []
entries_in hs (p ∷ ps) = names_in hs p ++ entries_in hs ps

-- the undone names of a word from place i on, where these are its digits from there on
unfoldable pub names_left : List (NameData × ℕ) → ℕ → ℕ → ℕ → List (NameData × ℕ)
names_left hs k i w = names_from (λ j. generation (digit w (j - i)) (entry_in hs (name_at k j))) k i (8 - i)

-- those, and the undone names of the words after it
abbrev pub left_in : List (NameData × ℕ) → ℕ → ℕ → ℕ → List (ℕ × ℕ) → List (NameData × ℕ)
left_in hs k i w ws = names_left hs k i w ++ entries_in hs ws

-- the number has no more digits than a word has places from i on
abbrev pub IsLeft : ℕ → ℕ → Type 0
IsLeft i w = (i ≤ 8) × (w < 16 ^ (8 - i))

-- keys from `low` on, rising, each with a word of eight digits that isn't empty
abbrev pub AreWords : ℕ → List (ℕ × ℕ) → Type 0
AreWords low [] = Unit {0}
AreWords low (p ∷ ps) = (low ≤ p.0) × (1 ≤ p.1) × (p.1 < 2 ^ 32) × AreWords (p.0 + 1) ps

-- undone names in words, and how many steps of 15 their generations are above their digits
pub record AreUndone (ws : List (ℕ × ℕ)) (hs : List (NameData × ℕ)) : Type 0 where
  pub words : AreWords 0 ws
  pub high : AreEntries hs
  pub entries : AreEntries (entries_in hs ws)

-- the words with this one for the key, which has none at 0
unfoldable pub set_word : ℕ → ℕ → List (ℕ × ℕ) → List (ℕ × ℕ)
set_word k w ws = if w == 0 then without_site k ws else put_count k w ws

-- the words after a write of a generation for the name
unfoldable pub words_with : NameData → ℕ → List (ℕ × ℕ) → List (ℕ × ℕ)
words_with n g ws = set_word (word_key n) (with_digit (count_in ws (word_key n)) (place_in n) (low_of g)) ws
