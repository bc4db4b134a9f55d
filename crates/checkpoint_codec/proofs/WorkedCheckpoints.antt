-- Checkpoints written out byte by byte, and what the rules say of them.
use Rattle.std.proofs.Common.{◌≡◌, ℕ, List, [], ◌∷◌, ◌++◌, None, Ok, Err, refl}
use Rattle.op_name.specs.NameData.{NameData}
use Rattle.context_vector.specs.Contexts.{ContextData}
use Rattle.wire_codec.specs.declared.cause.Cause.TheVariants.{Kind, Range, Char, Order, Zero, Length, Own, Stray}
use Rattle.wire_codec.specs.Reading.{left_at, fault, name_at, many}
use Rattle.flat_history.specs.Checkpoints.{inserted, deleted, Checkpoint}
use Rattle.checkpoint_codec.specs.Spelling.{checkpoint_bytes}
use Rattle.checkpoint_codec.specs.Reading.{start_at, insert_at, delete_at, placed_at, originals_at, undone_at, names_at, fields_at}
use Rattle.checkpoint_codec.specs.Answers.{found_in}

abbrev of_0 : ℕ → NameData
of_0 n = record { site = 0; number = n }

-- the bytes of the header
abbrev head : List ℕ
head = 67 ∷ 79 ∷ 84 ∷ 67 ∷ 72 ∷ 75 ∷ 49 ∷ 10 ∷ []

-- so many originals or names, few of them
abbrev so_many : ℕ → List ℕ
so_many n = 0 ∷ 0 ∷ 0 ∷ n ∷ []

-- kind, site 0 and a number
abbrev begins : ℕ → ℕ → List ℕ
begins kind number = kind ∷ 0 ∷ 0 ∷ 0 ∷ 0 ∷ 0 ∷ number ∷ []

-- a place or a character
abbrev four : ℕ → List ℕ
four n = 0 ∷ 0 ∷ 0 ∷ n ∷ []

-- the undone name of site 0 with this number, without its generation
abbrev undone_0 : ℕ → List ℕ
undone_0 number = 0 ∷ 0 ∷ 0 ∷ 0 ∷ 0 ∷ number ∷ []

-- ---- what is written

-- 0.1 writes `a`, and 0.2 writes `b` behind it: 46 bytes
abbrev a_b : Checkpoint
a_b = record { originals = inserted (of_0 1) 0 (97 ∷ []) ∷ inserted (of_0 2) 1 (98 ∷ []) ∷ []; undone = [] }

abbrev a_b_fields : List ℕ
a_b_fields = so_many 2 ++ (begins 1 1 ++ four 0 ++ four 97) ++ (begins 1 2 ++ four 1 ++ four 98) ++ so_many 0

pub a_b_is_written : checkpoint_bytes a_b ≡ head ++ a_b_fields
a_b_is_written = refl

pub a_b_is_read : found_in a_b_fields ≡ Ok (a_b, left_at 46 [])
unfolding name_at many start_at insert_at delete_at placed_at originals_at undone_at names_at fields_at
a_b_is_read = refl

-- 0.1 writes `ab` at once, 0.2 deletes the `b`, and that was undone and redone
abbrev ab_less : Checkpoint
ab_less = record {
  originals = inserted (of_0 1) 0 (97 ∷ 98 ∷ []) ∷ deleted (of_0 2) 1 ∷ [];
  undone = (of_0 2, 2) ∷ [];
}

abbrev ab_less_fields : List ℕ
ab_less_fields =
    so_many 2 ++ (begins 4 1 ++ four 0 ++ (0 ∷ 2 ∷ []) ++ four 97 ++ four 98) ++ (begins 2 2 ++ four 1) ++ so_many 1
    ++ (undone_0 2 ++ (0 ∷ 2 ∷ []))

pub ab_less_is_written : checkpoint_bytes ab_less ≡ head ++ ab_less_fields
ab_less_is_written = refl

-- what follows is left: here, one byte
pub ab_less_is_read : found_in (ab_less_fields ++ 7 ∷ []) ≡ Ok (ab_less, left_at 56 (7 ∷ []))
unfolding name_at many start_at insert_at delete_at placed_at originals_at undone_at names_at fields_at
ab_less_is_read = refl

-- nothing at all: no original and no name
pub nothing_is_written : checkpoint_bytes (record { originals = []; undone = [] }) ≡ head ++ so_many 0 ++ so_many 0
nothing_is_written = refl

-- ---- bytes that end in a field

-- without its last byte, that of two inserts ends in the number of names
pub number_of_names_is_cut :
    found_in (so_many 2 ++ (begins 1 1 ++ four 0 ++ four 97) ++ (begins 1 2 ++ four 1 ++ four 98) ++ (0 ∷ 0 ∷ 0 ∷ []))
    ≡ Err (fault Length 42)
unfolding name_at many start_at insert_at delete_at placed_at originals_at undone_at names_at fields_at
number_of_names_is_cut = refl

pub number_of_originals_is_cut : found_in (0 ∷ 0 ∷ 0 ∷ []) ≡ Err (fault Length 8)
unfolding name_at many start_at insert_at delete_at placed_at originals_at undone_at names_at fields_at
number_of_originals_is_cut = refl

pub kind_is_cut : found_in (so_many 1) ≡ Err (fault Length 12)
unfolding name_at many start_at insert_at delete_at placed_at originals_at undone_at names_at fields_at
kind_is_cut = refl

pub place_is_cut : found_in (so_many 1 ++ begins 1 1 ++ (0 ∷ 0 ∷ 0 ∷ [])) ≡ Err (fault Length 19)
unfolding name_at many start_at insert_at delete_at placed_at originals_at undone_at names_at fields_at
place_is_cut = refl

-- the second of two characters
pub character_is_cut : found_in (so_many 1 ++ begins 4 1 ++ four 0 ++ (0 ∷ 2 ∷ []) ++ four 97 ++ (0 ∷ [])) ≡ Err (fault Length 29)
unfolding name_at many start_at insert_at delete_at placed_at originals_at undone_at names_at fields_at
character_is_cut = refl

-- ---- originals that are wrong

pub kind_of_undos_is_bad : found_in (so_many 1 ++ begins 3 1) ≡ Err (fault Kind 12)
unfolding name_at many start_at insert_at delete_at placed_at originals_at undone_at names_at fields_at
kind_of_undos_is_bad = refl

pub site_1024_is_bad : found_in (so_many 1 ++ (1 ∷ 4 ∷ 0 ∷ [])) ≡ Err (fault Range 13)
unfolding name_at many start_at insert_at delete_at placed_at originals_at undone_at names_at fields_at
site_1024_is_bad = refl

-- that number 0 isn't the next one is not told
pub number_0_is_bad : found_in (so_many 1 ++ begins 1 0) ≡ Err (fault Range 15)
unfolding name_at many start_at insert_at delete_at placed_at originals_at undone_at names_at fields_at
number_0_is_bad = refl

-- 0.2 comes first: that is told at the original, although its place is missing
pub number_2_comes_first : found_in (so_many 1 ++ begins 1 2) ≡ Err (fault Own 12)
unfolding name_at many start_at insert_at delete_at placed_at originals_at undone_at names_at fields_at
number_2_comes_first = refl

-- 0.1 comes twice
pub number_1_comes_twice : found_in (so_many 2 ++ (begins 1 1 ++ four 0 ++ four 97) ++ begins 2 1) ≡ Err (fault Own 27)
unfolding name_at many start_at insert_at delete_at placed_at originals_at undone_at names_at fields_at
number_1_comes_twice = refl

pub one_character_has_kind_1 : found_in (so_many 1 ++ begins 4 1 ++ four 0 ++ (0 ∷ 1 ∷ [])) ≡ Err (fault Range 23)
unfolding name_at many start_at insert_at delete_at placed_at originals_at undone_at names_at fields_at
one_character_has_kind_1 = refl

-- a surrogate
pub surrogate_is_bad : found_in (so_many 1 ++ begins 1 1 ++ four 0 ++ (0 ∷ 0 ∷ 216 ∷ 0 ∷ [])) ≡ Err (fault Char 23)
unfolding name_at many start_at insert_at delete_at placed_at originals_at undone_at names_at fields_at
surrogate_is_bad = refl

-- ---- names that are wrong

-- 0.1 writes `a`: what comes before the number of names
abbrev a : List ℕ
a = so_many 1 ++ (begins 1 1 ++ four 0 ++ four 97)

pub too_many_names_are_bad : found_in (a ++ (0 ∷ 0 ∷ 64 ∷ 1 ∷ [])) ≡ Err (fault Range 27)
unfolding name_at many start_at insert_at delete_at placed_at originals_at undone_at names_at fields_at
too_many_names_are_bad = refl

-- 0.2 is no original: told at the name, although its generation is missing
pub stray_name_is_bad : found_in (a ++ so_many 1 ++ undone_0 2) ≡ Err (fault Stray 31)
unfolding name_at many start_at insert_at delete_at placed_at originals_at undone_at names_at fields_at
stray_name_is_bad = refl

-- 0.1 comes twice: told at the second one, although its generation is missing
pub names_rise : found_in (a ++ so_many 2 ++ (undone_0 1 ++ (0 ∷ 1 ∷ [])) ++ undone_0 1) ≡ Err (fault Order 39)
unfolding name_at many start_at insert_at delete_at placed_at originals_at undone_at names_at fields_at
names_rise = refl

abbrev a_and_b : List ℕ
a_and_b = so_many 2 ++ (begins 1 1 ++ four 0 ++ four 97) ++ (begins 1 2 ++ four 1 ++ four 98)

-- two originals: 0.2 is undone, and then 0.1, which is one of them all the same
pub names_may_not_fall :
    found_in (a_and_b ++ so_many 2 ++ (undone_0 2 ++ (0 ∷ 1 ∷ [])) ++ undone_0 1) ≡ Err (fault Order 54)
unfolding name_at many start_at insert_at delete_at placed_at originals_at undone_at names_at fields_at
names_may_not_fall = refl

pub generation_0_is_bad : found_in (a ++ so_many 1 ++ undone_0 1 ++ (0 ∷ 0 ∷ [])) ≡ Err (fault Zero 37)
unfolding name_at many start_at insert_at delete_at placed_at originals_at undone_at names_at fields_at
generation_0_is_bad = refl

-- generations that add up to 1,000,000 are read, and one more is not
abbrev with_0_1 : ContextData
with_0_1 = record { counts = (0, 1) ∷ []; entries = [] }

pub last_generation_is_read : undone_at with_0_1 (record { name = None; sum = 999999 }) (left_at 100 (undone_0 1 ++ (0 ∷ 1 ∷ [])))
    ≡ Ok ((of_0 1, 1), left_at 108 [])
unfolding name_at undone_at
last_generation_is_read = refl

pub generation_too_many_is_bad : undone_at with_0_1 (record { name = None; sum = 999999 }) (left_at 100 (undone_0 1 ++ (0 ∷ 2 ∷ [])))
    ≡ Err (fault Range 106)
unfolding name_at undone_at
generation_too_many_is_bad = refl
