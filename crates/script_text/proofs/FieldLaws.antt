-- Readers of fields: each reads what is spelled so, and nothing else.
use Rattle.std.proofs.Common.{◌≡◌, ℕ, zero, suc, ◌<◌, ◌≤◌, ◌^◌, Bool, true, false, ◌&&◌, not, nat_lt, nat_le, ◌==◌, ◌≢◌, List, [], ◌∷◌, ◌++◌, length, get_or, Option, Some, None, Result, Ok, Err, refl, sym, ap, ◌∙◌, arith, inl, inr, decimal, MatchOption, option_map, option_and_then, Bor, OkIff, eq-eqb, ne_eqb, encode_utf8_all, chars, subst, IsUtf8, if◌then◌else◌, lt-ltb, le-leb, leb-true, IsOk, IfOk, ◌↔◌, ap₂, ltb-true, eqb-true}
use Rattle.std.proofs.lemmas.Str.Pattern.{IsSplitOnceResult, split_parts}
use Rattle.std.proofs.lemmas.Str.Parse.{numerals_by_value, tells_all_ascii_digits, parse_plain, not_in_digits, IsNumeralModel}
use Rattle.std.proofs.lemmas.Bool.{and_parts, and_from, cases_Bool}
use Rattle.std.proofs.lemmas.Bool.Decides.{nat_tests}
use Rattle.std.proofs.lemmas.Fmt.{decimal-digits_value, digits_value-decimal, digits_decimal, first_decimal, decimal_digit}
use Rattle.std.proofs.lemmas.Str.{chars-encodes, encodes-chars, scalars-chars, length-le-encodes}
use Rattle.std.specs.Str.{all_ascii_digits, is_utf8, all_scalars}
use Rattle.std.specs.Char.{is_ascii_digit}
use Rattle.std.specs.Int.{IsInRange}
use Rattle.std.proofs.lemmas.Str.{is_utf8-from_IsUtf8, IsUtf8-from_is_utf8}
use Rattle.std.specs.Str.Parse.{ParsesUnsigned, digits_value}
use Rattle.std.specs.Result.{result_ok}
use Rattle.hex.specs.Hex.{decode_of}
use Rattle.hex.proofs.HexLemmas.{decode_of-ok}
use Rattle.op_name.specs.NameData.{NameData, IsName}
use Rattle.op_name.specs.declared.name.TheConstants.{SITES, NUMBERS}
use Rattle.script_text.specs.Fields.{cut, number_below, number_of, long_of, text_of, site_of, count_of, name_of, named, octets_of, tested, starts_numeral, is_numeral, IsSite, IsCount, IsNameText, IsHex, IsNumber, IsLong, IsCharacters, IsPair, pair_by}

-- the first field has no c
abbrev pub Lacks : ℕ → List ℕ → Type 0
Lacks c a = (i : ℕ) → i < length a → get_or a i 0 ≢ c

pub cut-append : (c : ℕ) (a bs : List ℕ) → Lacks c a → cut c (a ++ c ∷ bs) ≡ Some (a, bs)
unfolding cut
cut-append c [] bs lacks = rw (eq-eqb c c refl) refl
cut-append c (x ∷ a) bs lacks = rw (ne_eqb x c (lacks 0 (omega arith)), cut-append c a bs (λ i h. lacks (suc i) (omega arith))) refl

pub cut-lacks : (c : ℕ) (a : List ℕ) → Lacks c a → cut c a ≡ None
unfolding cut
cut-lacks c [] lacks = refl
cut-lacks c (x ∷ a) lacks = rw (ne_eqb x c (lacks 0 (omega arith)), cut-lacks c a (λ i h. lacks (suc i) (omega arith))) refl

-- what `split_once` answers is the cut
pub cut_by_parts : (c : ℕ) (bs : List ℕ) (r : Option (Bor (List ℕ) × Bor (List ℕ))) → IsSplitOnceResult c bs r → c < 128
    → MatchOption r (cut c bs ≡ None) (λ p. cut c bs ≡ Some (p.0.now, p.1.now))
cut_by_parts c bs r h ascii = by r (split_parts c bs r h ascii)
  where
    by : (r : Option (Bor (List ℕ) × Bor (List ℕ)))
        → MatchOption r ((i : ℕ) → i < length bs → get_or bs i 0 ≢ c)
        (λ x. (bs ≡ x.0.now ++ (c ∷ x.1.now)) × ((i : ℕ) → i < length x.0.now → get_or x.0.now i 0 ≢ c))
        → MatchOption r (cut c bs ≡ None) (λ p. cut c bs ≡ Some (p.0.now, p.1.now))
    by None lacks = cut-lacks c bs lacks
    by (Some x) parts = ap (cut c) parts.0 ∙ cut-append c x.0.now x.1.now parts.1

abbrev pub own : IsNumeralModel (λ ds. all_ascii_digits ds ≡ true) (digits_value 10)
own = numerals_by_value _ tells_all_ascii_digits

-- what the first digit of a numeral tells
pub record Starts (bs : List ℕ) : Type 0 where
  pub nonempty : 0 < length bs
  pub no_plus : get_or bs 0 0 ≢ 43
  pub alone : get_or bs 0 0 ≡ 48 → length bs ≡ 1

pub starts : (bs : List ℕ) → starts_numeral bs ≡ true → Starts bs
starts [] s = cc
starts (d ∷ ds) s = record {
  nonempty = omega arith;
  no_plus = λ e. grind (arith, nat_tests);
  alone = λ e. grind (arith, nat_tests);
}

pub some_if : {A : Type 0} (t : Bool) (x y : A) → (if t then Some x else None) ≡ Some y → (t ≡ true) × (x ≡ y)
some_if true x y e = (refl, (cc))
some_if false x y e = cc

pub not_true : (t : Bool) → (t ≡ true → ⊥) → t ≡ false
not_true t never = elim (cases_Bool t) [ inl e ↦ absurd (never e) | inr e ↦ e ]

pub no_if : {A : Type 0} (t : Bool) (x : A) → (t ≡ true → ⊥) → (if t then Some x else None) ≡ None
no_if t x never = rw (not_true t never) refl

-- what `parse` answers where a digit comes first is the number
pub numeral_parsed : {E : Type 0} (width : ℕ) (bs : List ℕ) (r : Result ℕ E) → ParsesUnsigned width 10 bs r → starts_numeral bs ≡ true
    → result_ok r ≡ number_below (2 ^ width) bs
numeral_parsed width bs r h s = by r (parse_plain own width bs r h (starts bs s).no_plus)
  where
    by : {E : Type 0} (r : Result ℕ E)
        → OkIff r ((all_ascii_digits bs ≡ true) × (0 < length bs) × (digits_value 10 bs < 2 ^ width)) (digits_value 10 bs)
        → result_ok r ≡ number_below (2 ^ width) bs
    by (Ok n) h = rw (s, h.0.0, lt-ltb _ _ h.0.2, h.1) refl
    by (Err e) h = rw (no_if _ _ (λ t. let p = and_parts _ _ t in h ((and_parts _ _ p.0).1, (starts bs s).nonempty, ltb-true _ _ p.1))) refl

pub numeral_no : (limit : ℕ) (bs : List ℕ) → starts_numeral bs ≡ false → number_below limit bs ≡ None
numeral_no limit bs s = rw s refl

pub number_parsed : {E : Type 0} (bs : List ℕ) (r : Result ℕ E) → ParsesUnsigned 32 10 bs r → starts_numeral bs ≡ true
    → result_ok r ≡ number_of bs
unfolding number_of
number_parsed bs r h s = numeral_parsed 32 bs r h s

pub number_no : (bs : List ℕ) → starts_numeral bs ≡ false → number_of bs ≡ None
unfolding number_of
number_no bs s = numeral_no (2 ^ 32) bs s

-- a reader of fields reads what is spelled so, and nothing else
pub record Reads {X : Type 0} (read : List ℕ → Option X) (Is : List ℕ → X → Type 0) : Type 0 where
  pub from : (bs : List ℕ) (x : X) → read bs ≡ Some x → Is bs x
  pub to : (bs : List ℕ) (x : X) → Is bs x → read bs ≡ Some x

numeral_is : (bs : List ℕ) → is_numeral bs ≡ true → digits_value 10 bs < 2 ^ 64 → bs ≡ decimal (digits_value 10 bs)
numeral_is bs t small =
    let p = and_parts (starts_numeral bs) (all_ascii_digits bs) t in
    let first = starts bs p.0 in
    sym (decimal-digits_value own bs p.1 first.nonempty first.alone (omega arith))

digits_start : (ds : List ℕ) → 48 < get_or ds 0 0 → all_ascii_digits ds ≡ true → starts_numeral ds ≡ true
digits_start [] more all = absurd (omega arith)
digits_start (d ∷ ds) more all = let first = (and_parts (is_ascii_digit d) (all_ascii_digits ds) all).0 in grind (arith, nat_tests)

decimal_starts : (n : ℕ) → n < 2 ^ 64 → starts_numeral (decimal n) ≡ true
decimal_starts zero small = rw (decimal_digit 0 (omega arith)) refl
decimal_starts (suc n) small =
    digits_start (decimal (suc n)) (first_decimal (suc n) (omega arith) (omega arith)) (digits_decimal own (suc n) (omega arith))

decimal_value : (limit n : ℕ) → n < 2 ^ 64 → n < limit → number_below limit (decimal n) ≡ Some n
decimal_value limit n wide small =
    let value : digits_value 10 (decimal n) ≡ n = digits_value-decimal own n wide in
    let digits : all_ascii_digits (decimal n) ≡ true = digits_decimal own n wide in
    let below : nat_lt n limit ≡ true = lt-ltb n limit small in
    rw (decimal_starts n wide, digits, value, below) refl

pub numeral_reads : (limit : ℕ) → limit ≤ 2 ^ 64 → Reads (number_below limit) (λ bs n. (bs ≡ decimal n) × (n < limit))
numeral_reads limit most = record {
  from = λ bs n e.
      let p = some_if (is_numeral bs && nat_lt (digits_value 10 bs) limit) (digits_value 10 bs) n e in
      let t = and_parts (is_numeral bs) (nat_lt (digits_value 10 bs) limit) p.0 in
      let small : digits_value 10 bs < limit = ltb-true _ _ t.1 in
      (numeral_is bs t.0 (omega (arith, small, most)) ∙ ap decimal p.1, subst (λ k. k < limit) p.1 small);
  to = λ bs n h. ap (number_below limit) h.0 ∙ decimal_value limit n (omega (arith, h.1, most)) h.1;
}

pub number_reads : Reads number_of IsNumber
unfolding number_of
number_reads = let r = numeral_reads (2 ^ 32) (omega arith) in record { from = λ bs n e. r.from bs n e; to = λ bs n h. r.to bs n h }

pub long_reads : Reads long_of IsLong
unfolding long_of
long_reads = let r = numeral_reads (2 ^ 64) (omega arith) in record { from = λ bs n e. r.from bs n e; to = λ bs n h. r.to bs n h }

pub text_some : (bs : List ℕ) → IsUtf8 bs → (length bs == 0) ≡ false → text_of bs ≡ Some (chars bs)
unfolding text_of
text_some bs u e = rw (e, is_utf8-from_IsUtf8 bs u) refl

pub text_none : (bs : List ℕ) → (length bs == 0) ≡ true → text_of bs ≡ None
unfolding text_of
text_none bs e = rw e refl

some_characters : (bs cs : List ℕ) → bs ≡ encode_utf8_all cs → 0 < length bs → 0 < length cs
some_characters bs [] e more = let none : length bs ≡ 0 = ap length e in omega arith
some_characters bs (c ∷ cs) e more = omega arith

pub text_reads : Reads text_of IsCharacters
unfolding text_of
text_reads = record {
  from = λ bs cs e.
      let p = some_if (not (length bs == 0) && is_utf8 bs) (chars bs) cs e in
      let t = and_parts (not (length bs == 0)) (is_utf8 bs) p.0 in
      let u : IsUtf8 bs = IsUtf8-from_is_utf8 bs t.1 in
      let more : 0 < length bs = grind (arith, nat_tests) in
      let spelled : bs ≡ encode_utf8_all cs = sym (encodes-chars bs u) ∙ ap encode_utf8_all p.1 in
      (spelled, some_characters bs cs spelled more, ap all_scalars (sym p.1) ∙ scalars-chars bs u);
  to = λ bs cs h.
      let more : 0 < length bs = omega (arith, length-le-encodes cs, ap length h.0) in
      text_some bs (cs, (h.2, sym h.0)) (ne_eqb (length bs) 0 (λ e. absurd (omega arith))) ∙ ap Some (ap chars h.0 ∙ chars-encodes cs h.2);
}

-- two fields
pub and_then_some : {A B : Type 0} (o : Option A) (f : A → Option B) (y : B) → option_and_then f o ≡ Some y
    → (x : A) × (o ≡ Some x) × (f x ≡ Some y)
and_then_some None f y e = cc
and_then_some (Some x) f y e = (x, refl, e)

pub some_is : {A : Type 0} (x y : A) → Some x ≡ Some y → x ≡ y
some_is x y e = cc

pub cut_some : (c : ℕ) (bs : List ℕ) (p : List ℕ × List ℕ) → cut c bs ≡ Some p → bs ≡ p.0 ++ c ∷ p.1
unfolding cut
cut_some c [] p e = cc
cut_some c (x ∷ bs) p e = by (x == c) refl (cut c bs) (cut_some c bs) e
  where
    by : (t : Bool) → (x == c) ≡ t → (r : Option (List ℕ × List ℕ)) → ((q : List ℕ × List ℕ) → r ≡ Some q → bs ≡ q.0 ++ c ∷ q.1)
        → (if t then Some ([], bs) else option_map (λ q. (x ∷ q.0, q.1)) r) ≡ Some p → x ∷ bs ≡ p.0 ++ c ∷ p.1
    by true t r rest e = ap (λ y. y ∷ bs) (eqb-true x c t) ∙ ap (λ (q : List ℕ × List ℕ). q.0 ++ c ∷ q.1) (some_is ([], bs) p e)
    by false t None rest e = cc
    by false t (Some q) rest e = ap (λ y. x ∷ y) (rest q refl) ∙ ap (λ (q : List ℕ × List ℕ). q.0 ++ c ∷ q.1) (some_is (x ∷ q.0, q.1) p e)

pub pair_reads : {A B : Type 0} (c : ℕ) (first : List ℕ → Option A) (First : List ℕ → A → Type 0) (second : List ℕ → Option B)
    (Second : List ℕ → B → Type 0)
    → Reads first First → Reads second Second → ((bs : List ℕ) (x : A) → First bs x → Lacks c bs)
    → Reads (pair_by c first second) (IsPair c First Second)
pair_reads {A = A} {B = B} c first First second Second f s lacks = record {
  from = λ bs x e.
      let p = and_then_some (cut c bs) _ x e in
      let a = and_then_some (first p.0.0) _ x p.2 in
      let b = and_then_some (second p.0.1) _ x a.2 in
      let same : (a.0, b.0) ≡ x = some_is (a.0, b.0) x b.2 in (
        p.0.0,
        p.0.1,
        cut_some c bs p.0 p.1,
        subst (First p.0.0) (ap (λ (q : A × B). q.0) same) (f.from p.0.0 a.0 a.1),
        subst (Second p.0.1) (ap (λ (q : A × B). q.1) same) (s.from p.0.1 b.0 b.1),
      );
  to = λ bs x h.
      let found : cut c (h.0 ++ c ∷ h.1) ≡ Some (h.0, h.1) = cut-append c h.0 h.1 (lacks h.0 x.0 h.3) in
      ap (pair_by c first second) h.2 ∙ rw (found, f.to h.0 x.0 h.3, s.to h.1 x.1 h.4) refl;
}

-- a number is spelled by digits alone
pub number_lacks : (c : ℕ) → ¬ (IsInRange 48 57 c) → (bs : List ℕ) (n : ℕ) → IsNumber bs n → Lacks c bs
number_lacks c other bs n h = subst (Lacks c) (sym h.0) (not_in_digits own (decimal n) c (digits_decimal own n (omega arith)) other)

pub blank_no_digit : ¬ (IsInRange 48 57 32)
blank_no_digit h = omega (arith, h)

-- a field that also passes a test
pub tested_reads : {A : Type 0} (test : A → Bool) (read : List ℕ → Option A) (Is : List ℕ → A → Type 0)
    → Reads read Is → Reads (tested test read) (λ bs x. Is bs x × (test x ≡ true))
tested_reads {A = A} test read Is r = record {
  from = λ bs x e.
      let a = and_then_some (read bs) _ x e in
      let p = some_if (test a.0) a.0 x a.2 in
      (subst (Is bs) p.1 (r.from bs a.0 a.1), ap test (sym p.1) ∙ p.0);
  to = λ bs x h. rw (r.to bs x h.0, h.1) refl;
}

pub site_reads : Reads site_of IsSite
unfolding site_of
site_reads =
    let t = tested_reads (λ n. nat_lt n SITES) number_of IsNumber number_reads in
    record {
      from = λ bs x e. let h = t.from bs x e in (h.0.0, ltb-true x SITES h.1);
      to = λ bs x h. let wide : x < 2 ^ 32 = omega arith in t.to bs x ((h.0, wide), lt-ltb x SITES h.1);
    }

-- a number from 1 on
pub from_one_reads : (most : ℕ) → most < 2 ^ 32
    → Reads (tested (λ n. nat_le 1 n && nat_le n most) number_of) (λ bs n. (bs ≡ decimal n) × (1 ≤ n) × (n ≤ most))
from_one_reads most fits =
    let t = tested_reads (λ n. nat_le 1 n && nat_le n most) number_of IsNumber number_reads in
    record {
      from = λ bs x e. let h =
          t.from bs x e in let p = and_parts (nat_le 1 x) (nat_le x most) h.1 in (h.0.0, leb-true 1 x p.0, leb-true x most p.1);
      to = λ bs x h. let wide : x < 2 ^ 32 = omega (arith, h.2, fits) in
          t.to bs x ((h.0, wide), and_from (nat_le 1 x) (nat_le x most) (le-leb 1 x h.1) (le-leb x most h.2));
    }

pub count_reads : Reads count_of IsCount
unfolding count_of
count_reads = let r = from_one_reads SITES (omega arith) in record { from = λ bs n e. r.from bs n e; to = λ bs n h. r.to bs n h }

pub site_lacks : (c : ℕ) → ¬ (IsInRange 48 57 c) → (bs : List ℕ) (n : ℕ) → IsSite bs n → Lacks c bs
site_lacks c other bs n h = number_lacks c other bs n (h.0, omega arith)

point_no_digit : ¬ (IsInRange 48 57 46)
point_no_digit h = omega (arith, h)

-- what `Name::new` answers is the name, if the parts are in range
pub named_new : {E : Type 0} (s n : ℕ) (r : Result NameData E) → (IsOk r ↔ IsName s n) → IfOk r (λ m. m.site ≡ s)
    → IfOk r (λ m. m.number ≡ n) → s < SITES
    → result_ok r ≡ named (s, n)
named_new s n (Ok m) accepted site number small =
    let name = accepted.0 refl in
    rw (le-leb 1 n name.1, le-leb n NUMBERS name.2)
    (ap₂ (λ (a b : ℕ). let x : NameData = record { site = a; number = b } in Some x) site number)
named_new s n (Err e) accepted site number small =
    sym (no_if (nat_le 1 n && nat_le n NUMBERS) _
    (λ t. let p = and_parts _ _ t in absurd (refused (accepted.1 (small, leb-true 1 n p.0, leb-true n NUMBERS p.1)))))
  where
    refused : false ≡ true → ⊥
    refused t = cc

pub name_reads : Reads name_of IsNameText
unfolding name_of
name_reads =
    let pair = pair_reads 46 site_of IsSite number_of IsNumber site_reads number_reads (site_lacks 46 point_no_digit) in
    record {
      from = λ bs n e.
          let a = and_then_some (pair_by 46 site_of number_of bs) _ n e in
          let h = pair.from bs a.0 a.1 in
          let q = some_if (nat_le 1 a.0.1 && nat_le a.0.1 NUMBERS) _ n a.2 in
          let p = and_parts (nat_le 1 a.0.1) (nat_le a.0.1 NUMBERS) q.0 in
          let spelled : bs ≡ decimal a.0.0 ++ 46 ∷ decimal a.0.1 =
          h.2 ∙ ap (λ x. x ++ 46 ∷ h.1) h.3.0 ∙ ap (λ y. decimal a.0.0 ++ 46 ∷ y) h.4.0 in
          subst (λ (m : NameData). IsNameText bs m) q.1 (spelled, (h.3.1, leb-true _ _ p.0, leb-true _ _ p.1));
      to = λ bs n h.
          let wide : n.number < 2 ^ 32 = omega (arith, h.1.2) in
          let read = pair.to bs (n.site, n.number) (decimal n.site, decimal n.number, h.0, (refl, h.1.0), (refl, wide)) in
          rw (read, le-leb 1 n.number h.1.1, le-leb n.number NUMBERS h.1.2) refl;
    }

result_some : {A E : Type 0} (r : Result A E) (x : A) → result_ok r ≡ Some x → r ≡ Ok x
result_some (Ok y) x e = ap Ok (some_is y x e)
result_some (Err y) x e = cc

pub octets_reads : Reads octets_of IsHex
unfolding octets_of
octets_reads = record {
  from = λ hex bytes e.
      let p = hex_some (length hex == 0) (decode_of hex) bytes e in
      let ok = decode_of-ok hex bytes p.1 in
      (p.1, grind (arith, nat_tests));
  to = λ hex bytes h.
      let ok = decode_of-ok hex bytes h.0 in
      let more : (length hex ≡ 0) → ⊥ = λ none. absurd (omega arith) in
      rw (ne_eqb (length hex) 0 more, h.0) refl;
}
  where
    hex_some : {E : Type 0} (t : Bool) (r : Result (List ℕ) E) (x : List ℕ) → (if t then None else result_ok r) ≡ Some x
        → (t ≡ false) × (r ≡ Ok x)
    hex_some true r x e = cc
    hex_some false r x e = (refl, result_some r x e)
