-- The texts of inserts, both ways.
use Rattle.std.proofs.Common.{◌≡◌, ℕ, ◌<◌, ◌≤◌, ◌^◌, eqb, true, false, List, [], ◌∷◌, length, refl, sym, subst, arith, inl, inr, ◌⊎◌}
use Rattle.std.specs.List.{flat_map}
use Rattle.std.specs.Int.{w16, w32, to_be_bytes}
use Rattle.std.specs.Char.{IsScalar}
use Rattle.std.specs.Str.{all_scalars}
use Rattle.std.proofs.lemmas.Bool.{ne_eqb, cond-true, cond-false, and_parts, and_from}
use Rattle.std.proofs.lemmas.Bool.Decides.{eqb_tells}
use Rattle.std.proofs.Math.Utf8.{scalar, scalar_fits}
use Rattle.op_name.specs.declared.limits.TheConstants.{LETTERS}
use Rattle.wire_codec.specs.declared.cause.Cause.TheVariants.{Range, Char}
use Rattle.wire_codec.specs.Spelling.{insert_kind, length_bytes, character_bytes}
use Rattle.wire_codec.specs.Reading.{Follow, number, bounded, length_at, character_at, any_after, characters_at}
use Rattle.wire_codec.proofs.TwoWays.{Reads, in_words, tested_reads, end}
use Rattle.wire_codec.proofs.Numbers.{wide16, wide32, number_reads, bounded_reads}
use Rattle.wire_codec.proofs.Lists.{many_reads}

-- ---- how many characters there are

-- so many characters as an insert of the kind has
pub record IsLengthOf (kind len : ℕ) : Type 0 where
  pub some : 1 ≤ len
  pub most : len ≤ LETTERS
  pub is : insert_kind len ≡ kind

-- the two kinds of inserts
pub insert_kinds : (len : ℕ) → ((insert_kind len ≡ 1) × (len ≡ 1)) ⊎ ((insert_kind len ≡ 4) × (len ≡ 1 → ⊥))
insert_kinds len =
    elim (eqb_tells len 1) [
      | inl one ↦ inl (cond-true (eqb len 1) 1 4 one.0, one.1)
      | inr more ↦ inr (cond-false (eqb len 1) 1 4 more.0, more.1)
    ]

kind_of_one : (len : ℕ) → insert_kind len ≡ 1 → len ≡ 1
kind_of_one len e = elim (insert_kinds len) [
  | inl one ↦ one.1
  | inr more ↦ absurd (omega (arith, e, more.0))
]

kind_of_more : (len : ℕ) → insert_kind len ≡ 4 → len ≡ 1 → ⊥
kind_of_more len e = elim (insert_kinds len) [
  | inl one ↦ absurd (omega (arith, e, one.0))
  | inr more ↦ more.1
]

pub one_reads : Reads (length_at 1) length_bytes (IsLengthOf 1)
one_reads =
    in_words (length_at 1) (λ n. []) length_bytes (λ n. 1 ≡ n) (IsLengthOf 1) (end 1)
    (λ n h. subst (IsLengthOf 1) h (record { some = omega arith; most = omega arith; is = refl }))
    (λ n h. sym (kind_of_one n h.is))
    (λ n h. subst (λ (k : ℕ). [] ≡ length_bytes k) h refl)

pub more_reads : Reads (length_at 4) length_bytes (IsLengthOf 4)
more_reads =
    in_words (bounded w16 2 LETTERS Range) (to_be_bytes w16) length_bytes (λ n. (2 ≤ n) × (n ≤ LETTERS)) (IsLengthOf 4)
    (bounded_reads w16 (2 ^ 16) wide16 2 LETTERS Range (omega arith))
    (λ n h. record { some = omega (arith, h.0); most = h.1; is = cond-false (eqb n 1) 1 4 (not_one n h.0) })
    (λ n h. (omega (arith, h.some, kind_of_more n h.is), h.most))
    (λ n h. sym (cond-false (eqb n 1) [] (to_be_bytes w16 n) (not_one n h.0)))
  where
    not_one : (n : ℕ) → 2 ≤ n → eqb n 1 ≡ false
    not_one n h = ne_eqb n 1 (λ e. omega (arith, h, e))

-- ---- the characters

-- a character, whatever comes before it
abbrev pub IsCharacter : Unit {0} → ℕ → Type 0
IsCharacter before ch = IsScalar ch

pub character_reads : (before : Unit {0}) → Reads (character_at before) character_bytes (IsCharacter before)
character_reads before =
    in_words (character_at before) character_bytes character_bytes (λ c. (c < 2 ^ 32) × (scalar c ≡ true)) (IsCharacter before)
    (tested_reads scalar Char (number w32) character_bytes (λ c. c < 2 ^ 32) (number_reads w32 (2 ^ 32) wide32))
    (λ c h. h.1) (λ c h. (scalar_fits c h, h)) (λ c h. refl)

pub characters_from : (text : List ℕ) → Follow IsCharacter any_after tt text → all_scalars text ≡ true
characters_from [] h = refl
characters_from (c ∷ cs) h = and_from (scalar c) (all_scalars cs) h.0 (characters_from cs h.1)

characters_to : (text : List ℕ) → all_scalars text ≡ true → Follow IsCharacter any_after tt text
characters_to [] h = tt
characters_to (c ∷ cs) h = let parts = and_parts (scalar c) (all_scalars cs) h in (parts.0, characters_to cs parts.1)

-- so many characters
pub record AreCharacters (count : ℕ) (text : List ℕ) : Type 0 where
  pub len : length text ≡ count
  pub scalars : all_scalars text ≡ true

pub characters_reads : (len : ℕ) → Reads (characters_at len) (flat_map character_bytes) (AreCharacters len)
characters_reads len =
    in_words (characters_at len) (flat_map character_bytes) (flat_map character_bytes)
    (λ text. (length text ≡ len) × Follow IsCharacter any_after tt text) (AreCharacters len)
    (many_reads character_at any_after character_bytes IsCharacter character_reads len tt)
    (λ text h. record { len = h.0; scalars = characters_from text h.1 })
    (λ text h. (h.len, characters_to text h.scalars))
    (λ text h. refl)
