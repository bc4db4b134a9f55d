-- Fields of a line: what stands between its blanks.
use Rattle.std.specs.Prelude.{◌≡◌, ℕ, ◌<◌, ◌^◌, Bool, false, not, ◌&&◌, ◌==◌, nat_lt, nat_le, List, [], ◌∷◌, ◌++◌, length, chars, encode_utf8_all, decimal, Option, Some, None, Ok, ◌≤◌, option_map, option_and_then, if◌then◌else◌, IsTrue}
use Rattle.std.specs.Str.{all_ascii_digits, is_utf8, all_scalars, IsUtf8}
use Rattle.std.specs.Result.{result_ok}
use Rattle.hex.specs.Hex.{decode_of}
use Rattle.op_name.specs.NameData.{NameData, IsName}
use Rattle.op_name.specs.declared.name.TheConstants.{SITES, NUMBERS}
use Rattle.op_name.specs.declared.member.TheConstants.{GENERATIONS}
use Rattle.op_name.specs.declared.member.Member.{Member}
use Rattle.op_name.specs.declared.member.Member.TheVariants.{Original, Group}
use Rattle.script_text.specs.declared.reading.parse.TheConstants.{LONGEST}
use Rattle.site_answers.specs.Names.{name_text, member_text}
use Rattle.std.specs.Str.Parse.{digits_value}

infixl 10 ◌>>=◌
abbrev pub ◌>>=◌ : {A B : Type 0} → Option A → (A → Option B) → Option B
o >>= f = option_and_then f o

-- what stands before the first c and what stands after it, if there is a c
unfoldable pub cut : ℕ → List ℕ → Option (List ℕ × List ℕ)
cut c [] = None
cut c (b ∷ bs) = if b == c then Some ([], bs) else option_map (λ p. (b ∷ p.0, p.1)) (cut c bs)

-- two fields, of which the first ends before the first c
abbrev pub pair_by : {A B : Type 0} → ℕ → (List ℕ → Option A) → (List ℕ → Option B) → List ℕ → Option (A × B)
pair_by c first second bs = do
  p ← cut c bs
  a ← first p.0
  b ← second p.1
  Some (a, b)

-- a field that also passes a test
abbrev pub tested : {A : Type 0} → (A → Bool) → (List ℕ → Option A) → List ℕ → Option A
tested test read bs = do
  a ← read bs
  if test a then Some a else None

-- `0` alone, or a digit that isn't 0 comes first
abbrev pub starts_numeral : List ℕ → Bool
starts_numeral [] = false
starts_numeral (d ∷ ds) = if d == 48 then length ds == 0 else (nat_le 49 d && nat_le d 57)

-- `0`, or decimal digits that don't start with 0
abbrev pub is_numeral : List ℕ → Bool
is_numeral ds = starts_numeral ds && all_ascii_digits ds

-- the number that a field spells, if it is below the limit
abbrev pub number_below : ℕ → List ℕ → Option ℕ
number_below limit ds = if is_numeral ds && nat_lt (digits_value 10 ds) limit then Some (digits_value 10 ds) else None

-- the same below 2 ^ 32
unfoldable pub number_of : List ℕ → Option ℕ
number_of ds = number_below (2 ^ 32) ds

-- the same below 2 ^ 64
unfoldable pub long_of : List ℕ → Option ℕ
long_of ds = number_below (2 ^ 64) ds

-- a site: from 0, below SITES
unfoldable pub site_of : List ℕ → Option ℕ
site_of bs = tested (λ n. nat_lt n SITES) number_of bs

-- a number of sites: 1 to SITES
unfoldable pub count_of : List ℕ → Option ℕ
count_of bs = tested (λ n. nat_le 1 n && nat_le n SITES) number_of bs

-- the name that a site and a number make, if they are in its range
abbrev pub named : ℕ × ℕ → Option NameData
named x = if nat_le 1 x.1 && nat_le x.1 NUMBERS then Some (record { site = x.0; number = x.1 }) else None

-- a name, `S.N`
unfoldable pub name_of : List ℕ → Option NameData
name_of bs = do
  x ← pair_by 46 site_of number_of bs
  named x

-- a generation of undos and redos: 1 to GENERATIONS
unfoldable pub generation_of : List ℕ → Option ℕ
generation_of bs = tested (λ g. nat_le 1 g && nat_le g GENERATIONS) number_of bs

-- the member of a field that was cut at its first slash, or has none
abbrev pub member_by : Option (List ℕ × List ℕ) → List ℕ → Option Member
member_by None bs = option_map (λ n. Original n) (name_of bs)
member_by (Some p) bs = do
  n ← name_of p.0
  g ← generation_of p.1
  Some (Group n g)

-- a member: `S.N` for an original, `S.N/G` for a group
unfoldable pub member_of : List ℕ → Option Member
member_of bs = member_by (cut 47 bs) bs

-- bytes in hexadecimal, two digits each in either case, of which there is one at least
unfoldable pub octets_of : List ℕ → Option (List ℕ)
octets_of hex = if length hex == 0 then None else result_ok (decode_of hex)

-- the characters of a field that has one at least
unfoldable pub text_of : List ℕ → Option (List ℕ)
text_of bs = if not (length bs == 0) && is_utf8 bs then Some (chars bs) else None

-- the field spells the number
abbrev pub IsNumber : List ℕ → ℕ → Type 0
IsNumber bs n = (bs ≡ decimal n) × (n < 2 ^ 32)

-- the field spells the number, of at most 64 bits
abbrev pub IsLong : List ℕ → ℕ → Type 0
IsLong bs n = (bs ≡ decimal n) × (n < 2 ^ 64)

-- the field spells the characters (RFC 3629), of which there is one at least
abbrev pub IsCharacters : List ℕ → List ℕ → Type 0
IsCharacters bs cs = (bs ≡ encode_utf8_all cs) × (0 < length cs) × IsTrue (all_scalars cs)

-- the field spells the site
abbrev pub IsSite : List ℕ → ℕ → Type 0
IsSite bs n = (bs ≡ decimal n) × (n < SITES)

-- the field spells the number of sites
abbrev pub IsCount : List ℕ → ℕ → Type 0
IsCount bs n = (bs ≡ decimal n) × (1 ≤ n) × (n ≤ SITES)

-- the field spells the name
abbrev pub IsNameText : List ℕ → NameData → Type 0
IsNameText bs n = (bs ≡ name_text n) × IsName n.site n.number

-- the field spells the generation
abbrev pub IsGeneration : List ℕ → ℕ → Type 0
IsGeneration bs g = (bs ≡ decimal g) × (1 ≤ g) × (g ≤ GENERATIONS)

-- the parts of a member are in range
abbrev pub IsMemberInRange : Member → Type 0
IsMemberInRange (Original n) = IsName n.site n.number
IsMemberInRange (Group n g) = IsName n.site n.number × (1 ≤ g) × (g ≤ GENERATIONS)

-- the field spells the member
abbrev pub IsMemberText : List ℕ → Member → Type 0
IsMemberText bs m = (bs ≡ member_text m) × IsMemberInRange m

-- the field spells the bytes
abbrev pub IsHex : List ℕ → List ℕ → Type 0
IsHex hex bytes = (decode_of hex ≡ Ok bytes) × (0 < length bytes)

-- two fields with c between them
abbrev pub IsPair : {A B : Type 0} → ℕ → (List ℕ → A → Type 0) → (List ℕ → B → Type 0) → List ℕ → A × B → Type 0
IsPair c First Second bs x = (a : List ℕ) × (b : List ℕ) × (bs ≡ a ++ c ∷ b) × First a x.0 × Second b x.1

-- the bytes may be a line: at most LONGEST of them, in UTF-8 (RFC 3629)
abbrev pub IsText : List ℕ → Type 0
IsText bs = (length bs ≤ LONGEST) × IsUtf8 bs
