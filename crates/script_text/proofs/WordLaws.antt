-- Numbers, sites and names that stand alone: each is read where it is spelled, and nothing else is.
use Rattle.std.proofs.Common.{◌≡◌, ℕ, ◌^◌, true, false, List, Option, Some, None, Result, sym, ◌∙◌}
use Rattle.std.specs.Prelude.{IfSome}
use Rattle.std.specs.Str.Parse.{ParsesUnsigned}
use Rattle.std.specs.Result.{result_ok}
use Rattle.op_name.specs.NameData.{NameData}
use Rattle.script_text.specs.Fields.{number_of, long_of, site_of, name_of, starts_numeral, IsNumber, IsLong, IsSite, IsNameText}
use Rattle.script_text.proofs.FieldLaws.{Reads, numeral_parsed, numeral_no, number_reads, long_reads, site_reads, name_reads}

-- what a reader of fields answers is spelled so, and what is spelled so it answers
pub found : {X : Type 0} (read : List ℕ → Option X) (Is : List ℕ → X → Type 0) → Reads read Is → (bs : List ℕ) (r : Option X) → r ≡ read bs
    → IfSome r (λ x. Is bs x)
found read Is reads bs None e = tt
found read Is reads bs (Some x) e = reads.from bs x (sym e)

pub only : {X : Type 0} (read : List ℕ → Option X) (Is : List ℕ → X → Type 0) → Reads read Is → (bs : List ℕ) (r : Option X) → r ≡ read bs
    → (x : X) → Is bs x → r ≡ Some x
only read Is reads bs r e x is = e ∙ reads.to bs x is

pub number_found : (bs : List ℕ) (r : Option ℕ) → r ≡ number_of bs → IfSome r (λ n. IsNumber bs n)
number_found bs r e = found number_of IsNumber number_reads bs r e

pub number_only : (bs : List ℕ) (r : Option ℕ) → r ≡ number_of bs → (n : ℕ) → IsNumber bs n → r ≡ Some n
number_only bs r e n is = only number_of IsNumber number_reads bs r e n is

pub site_found : (bs : List ℕ) (r : Option ℕ) → r ≡ site_of bs → IfSome r (λ n. IsSite bs n)
site_found bs r e = found site_of IsSite site_reads bs r e

pub site_only : (bs : List ℕ) (r : Option ℕ) → r ≡ site_of bs → (n : ℕ) → IsSite bs n → r ≡ Some n
site_only bs r e n is = only site_of IsSite site_reads bs r e n is

pub name_found : (bs : List ℕ) (r : Option NameData) → r ≡ name_of bs → IfSome r (λ n. IsNameText bs n)
name_found bs r e = found name_of IsNameText name_reads bs r e

pub name_only : (bs : List ℕ) (r : Option NameData) → r ≡ name_of bs → (n : NameData) → IsNameText bs n → r ≡ Some n
name_only bs r e n is = only name_of IsNameText name_reads bs r e n is

-- ---- numbers of 64 bits

pub long_parsed : {E : Type 0} (bs : List ℕ) (r : Result ℕ E) → ParsesUnsigned 64 10 bs r → starts_numeral bs ≡ true
    → result_ok r ≡ long_of bs
unfolding long_of
long_parsed bs r h s = numeral_parsed 64 bs r h s

pub long_no : (bs : List ℕ) → starts_numeral bs ≡ false → long_of bs ≡ None
unfolding long_of
long_no bs s = numeral_no (2 ^ 64) bs s

pub long_found : (bs : List ℕ) (r : Option ℕ) → r ≡ long_of bs → IfSome r (λ n. IsLong bs n)
long_found bs r e = found long_of IsLong long_reads bs r e

pub long_only : (bs : List ℕ) (r : Option ℕ) → r ≡ long_of bs → (n : ℕ) → IsLong bs n → r ≡ Some n
long_only bs r e n is = only long_of IsLong long_reads bs r e n is
