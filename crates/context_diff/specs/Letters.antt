-- Equality of texts of inserts as a test, what a text feeds a hasher, and why characters are no text of an insert.
use Rattle.std.specs.Prelude.{◌≡◌, ℕ, ◌<◌, ◌≤◌, Bool, true, List, ◌==◌, length}
use Rattle.std.proofs.Common.{ap, subst}
use Rattle.std.specs.Bool.{Decides}
use Rattle.std.specs.Cmp.{IsEquivalence, IsPartialEquivalence, decided, partial_equiv_from_equiv}
use Rattle.std.specs.Hash as fed
use Rattle.std.specs.Hash.{HashWrites}
use lib.Pointwise.{pointwise, pointwise_decides}
use Rattle.op_name.proofs.CallerLemmas.{number_order}
use Rattle.op_name.specs.declared.limits.TheConstants.{LETTERS}
use Rattle.context_diff.specs.declared.letters.LettersBad.{LettersBad}
use Rattle.context_diff.specs.declared.letters.LettersBad.TheVariants.{Empty, Long, Memory}

-- two texts have the same characters
abbrev pub letters_eq : List ℕ → List ℕ → Bool
letters_eq a b = pointwise (λ (x : ℕ) (y : ℕ). x == y) a b

numbers_decide : (a b : ℕ) → Decides (a == b) (a ≡ b)
numbers_decide a b = (number_order.same a b, λ e. subst (λ x. (a == x) ≡ true) e (number_order.itself a))

pub letters_eq_decides : (a b : List ℕ) → Decides (letters_eq a b) (a ≡ b)
letters_eq_decides a b = pointwise_decides numbers_decide a b

pub letters_equiv : IsEquivalence letters_eq
letters_equiv = decided letters_eq letters_eq_decides

pub letters_per : IsPartialEquivalence letters_eq
letters_per = partial_equiv_from_equiv letters_equiv

-- all characters, as a slice of them
abbrev pub letters_input : List ℕ → HashWrites
letters_input text = fed.slice fed.char text

pub letters_alike : (a b : List ℕ) → letters_eq a b ≡ true → letters_input a ≡ letters_input b
letters_alike a b e = ap letters_input ((letters_eq_decides a b).0 e)

-- so many characters are two and more, as an insert may have
pub record IsManyLetters (chars : List ℕ) : Type 0 where
  pub many : 2 ≤ length chars
  pub most : length chars ≤ LETTERS

-- why there is no text of these characters: there is none, there are too many, or there is no memory for two and more
abbrev pub IsUnmade : List ℕ → LettersBad → Type 0
IsUnmade chars Empty = length chars ≡ 0
IsUnmade chars Long = LETTERS < length chars
IsUnmade chars Memory = IsManyLetters chars
