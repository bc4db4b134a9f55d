-- The lines of `explain`: the steps that derive a form.
use Rattle.std.specs.Prelude.{ℕ, zero, suc, ◌^◌, ◌/◌, ◌%◌, nat_lt, List, [], ◌∷◌, ◌++◌, decimal, codes, slice_index, length, if◌then◌else◌}
use Rattle.hex.specs.Hex.{upper_digits}
use Rattle.op_name.specs.declared.member.Member.{Member}
use Rattle.ttf_form.specs.declared.form.Form.{Form}
use Rattle.ttf_form.specs.declared.form.Form.TheVariants.{Ins, Cover}
use Rattle.site_answers.specs.Names.{member_text}

-- the last so many digits of a number in base 16
unfoldable pub hex_digits : ℕ → ℕ → List ℕ
hex_digits zero n = []
hex_digits (suc k) n = hex_digits k (n / 16) ++ slice_index upper_digits (n % 16) ∷ []

-- how many digits are written of a character's number, which is at most 10FFFF (RFC 3629): all, and four at least
abbrev pub hex_width : ℕ → ℕ
hex_width n = if nat_lt n (16 ^ 4) then 4 else (if nat_lt n (16 ^ 5) then 5 else 6)

-- `U+HEX`
abbrev pub scalar_text : ℕ → List ℕ
scalar_text ch = codes "U+" ++ hex_digits (hex_width ch) ch

-- an insert of these characters there: of one `ins PLACE U+HEX`, of others `run PLACE LEN`, with how many they are
abbrev pub insert_text : ℕ → List ℕ → List ℕ
insert_text place (ch ∷ []) = codes "ins " ++ (decimal place ++ (codes " " ++ scalar_text ch))
insert_text place chars = codes "run " ++ (decimal place ++ (codes " " ++ decimal (length chars)))

-- the form of a member that inserts these characters: an insert of them, or `cover PLACE`, which puts none
abbrev pub form_text : List ℕ → Form → List ℕ
form_text chars (Ins a) = insert_text a.place chars
form_text chars (Cover c) = codes "cover " ++ decimal c.place

-- a blank, `MEMBER FORM` and a line feed
abbrev pub about_text : Member → List ℕ → Form → List ℕ
about_text m chars f = codes " " ++ (member_text m ++ (codes " " ++ (form_text chars f ++ codes "\n")))

-- `K base MEMBER FORM` and a line feed
abbrev pub base_text : ℕ → Member → List ℕ → Form → List ℕ
base_text number m chars f = decimal number ++ (codes " base" ++ about_text m chars f)

-- `K step LEFT OVER MEMBER FORM` and a line feed
abbrev pub step_text : ℕ → ℕ → ℕ → Member → List ℕ → Form → List ℕ
step_text number left over m chars f =
    decimal number ++ (codes " step " ++ (decimal left ++ (codes " " ++ (decimal over ++ about_text m chars f))))
