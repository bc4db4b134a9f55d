-- The tests of a verdict decide what they are named for.
use Rattle.std.proofs.Common.{◌≡◌, ℕ, ◌≤◌, Bool, true, false, ◌⊎◌, inl, inr, List, [], ◌∷◌, refl, ap, sym, subst, ◌∙◌, arith}
use Rattle.std.specs.Prelude.{Contains, not, ◌||◌, nat_le}
use Rattle.std.specs.List.{list_any}
use Rattle.std.specs.Bool.{Decides}
use Rattle.std.proofs.lemmas.Bool.{cases_Bool, or_cases, or_left, or_right, and_parts, and_from, true≢false, false≢true, not_from_false, false_from_ne_true}
use Rattle.std.proofs.lemmas.Bool.Decides.{nat_tests}
use Rattle.op_name.specs.NameData.{NameData}
use Rattle.op_name.specs.declared.member.Member.TheVariants.{Original}
use Rattle.op_name.specs.Members.{member_eq}
use Rattle.context_diff.specs.Operations.{OpData, inserting, deleting, undoing, member_of, is_original}
use Rattle.context_diff.specs.Histories.{generation_in}
use Rattle.op_name.proofs.CallerLemmas.{member_same, member_itself}
use Rattle.context_diff.specs.Ops.{op_eq}
use Rattle.context_diff.proofs.CallerLemmas.{op_eq_decides, contains_cases, contains_here, contains_later, contains_none, original_name, named_original}
use Rattle.cot_site.specs.Verdicts.{is_repeat, is_other, is_forged, IsRepeat, HasOther, IsForgery}

-- ---- tests on the elements of a list

pub record Passes {A : Type 0} (p : A → Bool) (xs : List A) : Type 0 where
  pub element : A
  pub there : Contains xs element
  pub passes : p element ≡ true

pub any_passes : {A : Type 0} (p : A → Bool) (xs : List A) → list_any p xs ≡ true → Passes p xs
any_passes p [] e = absurd (false≢true e)
any_passes p (x ∷ xs) e =
    elim (or_cases (p x) (list_any p xs) e) [
      | inl here ↦ record { element = x; there = contains_here x xs; passes = here }
      | inr later ↦ let rest =
          any_passes p xs later in record
          { element = rest.element; there = contains_later x xs rest.element rest.there; passes = rest.passes }
    ]

pub passes_any : {A : Type 0} (p : A → Bool) (xs : List A) (x : A) → Contains xs x → p x ≡ true → list_any p xs ≡ true
passes_any p [] x at so = absurd (contains_none x at)
passes_any p (y ∷ ys) x at so =
    elim (contains_cases y ys x at) [
      | inl is ↦ or_left (p y) (list_any p ys) (ap p is ∙ so)
      | inr later ↦ or_right (p y) (list_any p ys) (passes_any p ys x later so)
    ]

-- ---- repeats

pub same_any : (o : OpData) (h : List OpData) → Decides (list_any (op_eq o) h) (Contains h o)
same_any o h = (
  λ e. let found = any_passes (op_eq o) h e in subst (λ x. Contains h x) (sym ((op_eq_decides o found.element).0 found.passes)) found.there,
  λ at. passes_any (op_eq o) h o at ((op_eq_decides o o).1 refl),
)

le_decides : (a b : ℕ) → Decides (nat_le a b) (a ≤ b)
le_decides a b = (λ e. grind (arith, nat_tests), λ e. grind (arith, nat_tests))

pub repeat_decides : (h : List OpData) (o : OpData) → Decides (is_repeat h o) (IsRepeat h o)
repeat_decides h (inserting n p text c) = same_any (inserting n p text c) h
repeat_decides h (deleting n p c) = same_any (deleting n p c) h
repeat_decides h (undoing a t g c) = le_decides g (generation_in h t)

-- ---- forgeries

pub other_any : (o : OpData) (os : List OpData) (n : NameData) → member_of o ≡ Original n
    → Decides (list_any (is_other o) os) (HasOther os o n)
other_any o os n is = (
  λ e.
      let found = any_passes (is_other o) os e in
      let parts = and_parts (member_eq (member_of o) (member_of found.element)) (not (op_eq o found.element)) found.passes in
      record {
        other = found.element;
        there = found.there;
        same_name = sym (member_same (member_of o) (member_of found.element) parts.0) ∙ is;
        differs = λ same. not_both (op_eq o found.element) ((op_eq_decides o found.element).1 (sym same)) parts.1;
      },
  λ has.
      let same : member_eq (member_of o) (member_of has.other) ≡ true =
      ap (λ m. member_eq (member_of o) m) (has.same_name ∙ sym is) ∙ member_itself (member_of o) in
      let apart : op_eq o has.other ≡ false =
      false_from_ne_true (op_eq o has.other) (λ e. has.differs (sym ((op_eq_decides o has.other).0 e))) in
      passes_any (is_other o) os has.other has.there
      (and_from (member_eq (member_of o) (member_of has.other)) (not (op_eq o has.other)) same
      (not_from_false (op_eq o has.other) apart)),
)
  where
    not_both : (b : Bool) → b ≡ true → not b ≡ true → ⊥
    not_both true e f = false≢true f
    not_both false e f = false≢true e

pub forged_decides : (h w : List OpData) (o : OpData) (n : NameData) → member_of o ≡ Original n
    → Decides (is_forged h w o) (IsForgery h w o n)
forged_decides h w o n is =
    let in_h = other_any o h n is in
    let in_w = other_any o w n is in (
      λ e.
          let parts = and_parts (is_original o) (list_any (is_other o) h || list_any (is_other o) w) e in
          elim (or_cases (list_any (is_other o) h) (list_any (is_other o) w) parts.1) [
            | inl one ↦ record { name = is; known = inl (in_h.0 one) }
            | inr two ↦ record { name = is; known = inr (in_w.0 two) }
          ],
      λ forgery. and_from (is_original o) (list_any (is_other o) h || list_any (is_other o) w) (named_original o n is)
          (known forgery.known),
    )
  where
    known : HasOther h o n ⊎ HasOther w o n → (list_any (is_other o) h || list_any (is_other o) w) ≡ true
    known (inl one) = or_left (list_any (is_other o) h) (list_any (is_other o) w) ((other_any o h n is).1 one)
    known (inr two) = or_right (list_any (is_other o) h) (list_any (is_other o) w) ((other_any o w n is).1 two)

pub no_forgery_undo : (h w : List OpData) (o : OpData) → is_original o ≡ false → is_forged h w o ≡ false
no_forgery_undo h w (inserting n p text c) e = absurd (true≢false e)
no_forgery_undo h w (deleting n p c) e = absurd (true≢false e)
no_forgery_undo h w (undoing a t g c) e = refl

pub not_forged : (h w : List OpData) (o : OpData) → ((n : NameData) → ¬ IsForgery h w o n) → is_forged h w o ≡ false
not_forged h w o none =
    elim (cases_Bool (is_original o)) [
      | inl original ↦
          let named = original_name o original in
          false_from_ne_true (is_forged h w o) (λ e. none named.0 ((forged_decides h w o named.0 named.1).0 e))
      | inr undo ↦ no_forgery_undo h w o undo
    ]

pub forged_not : (h w : List OpData) (o : OpData) → is_forged h w o ≡ false → (n : NameData) → ¬ IsForgery h w o n
forged_not h w o e n forgery = true≢false (sym ((forged_decides h w o n forgery.name).1 forgery) ∙ e)
