-- Facts on sets of members: one member more or less, and the members of a list more.
use Rattle.std.proofs.Common.{◌≡◌, ◌≢◌, ℕ, ◌+◌, ◌≤◌, Bool, true, false, not, ◌&&◌, ◌||◌, List, [], ◌∷◌, ◌++◌, if◌then◌else◌, ◌⊎◌, inl, inr, refl, sym, ap, ap₂, subst, ◌∙◌, arith}
use Rattle.std.proofs.lemmas.Bool.{cases_Bool, or_right, or_left, or_cases, or_from, or_parts, and_parts, and_from, not-true, not_from_false, false_from_ne_true, both_ways}
use Rattle.op_name.specs.declared.member.Member.{Member}
use Rattle.op_name.specs.Members.{member_eq}
use Rattle.op_name.proofs.CallerLemmas.{member_itself, member_same, member_apart, member_other}
use Rattle.transform_rec.specs.Sets.{IsSubset, SameSet, plus, minus, plus_all}
use Rattle.ttf_form.specs.Families.{IsIn, sum_where}
use Rattle.transform_rec.specs.Lists.{AreApart}
use Rattle.transform_rec.proofs.Lists.{sum_same}
use Rattle.std.specs.Cmp.{both_ways as same_bool}

pub same_set : (C D : Member → Bool) → SameSet C D → C ≡ D
same_set C D h = λ i y. h y i

pub same_from : (C D : Member → Bool) → IsSubset C D → IsSubset D C → SameSet C D
same_from C D f g z = same_bool (C z) (D z) (f z) (g z)

-- what a greater set lacks a smaller one lacks
pub lacks_from : (C D : Member → Bool) (x : Member) → IsSubset C D → D x ≡ false → C x ≡ false
lacks_from C D x h l = false_from_ne_true (C x) (λ e. both_ways (D x) l (h x e))

-- ---- one member more

pub plus_here : (C : Member → Bool) (x : Member) → plus C x x ≡ true
plus_here C x = or_right (C x) (member_eq x x) (member_itself x)

pub plus_keeps : (C : Member → Bool) (x : Member) → IsSubset C (plus C x)
plus_keeps C x y h = or_left (C y) (member_eq x y) h

pub plus_cases : (C : Member → Bool) (x y : Member) → plus C x y ≡ true → (C y ≡ true) ⊎ (x ≡ y)
plus_cases C x y h = elim (or_cases (C y) (member_eq x y) h) [ inl a ↦ inl a | inr e ↦ inr (member_same x y e) ]

pub plus_lacks : (C : Member → Bool) (x y : Member) → C y ≡ false → x ≢ y → plus C x y ≡ false
plus_lacks C x y l ne = or_from (C y) (member_eq x y) l (member_apart x y ne)

pub plus_parts : (C : Member → Bool) (x y : Member) → plus C x y ≡ false → (C y ≡ false) × (x ≢ y)
plus_parts C x y l = let r = or_parts (C y) (member_eq x y) l in (r.0, member_other x y r.1)

pub plus_other : (C : Member → Bool) (x y : Member) → x ≢ y → plus C x y ≡ C y
plus_other C x y ne =
    same_bool (plus C x y) (C y) (λ h. elim (plus_cases C x y h) [ inl a ↦ a | inr e ↦ absurd (ne e) ]) (λ h. plus_keeps C x y h)

or_swap : (a b c : Bool) → ((a || b) || c) ≡ ((a || c) || b)
or_swap true b c = refl
or_swap false true true = refl
or_swap false true false = refl
or_swap false false true = refl
or_swap false false false = refl

pub plus_swap : (C : Member → Bool) (x y : Member) → SameSet (plus (plus C x) y) (plus (plus C y) x)
plus_swap C x y z = or_swap (C z) (member_eq x z) (member_eq y z)

pub plus_same : (C D : Member → Bool) (x : Member) → SameSet C D → SameSet (plus C x) (plus D x)
plus_same C D x h z = ap (λ b. b || member_eq x z) (h z)

pub plus_within : (C D : Member → Bool) (x : Member) → IsSubset C D → D x ≡ true → IsSubset (plus C x) D
plus_within C D x h d z i = elim (plus_cases C x z i) [ inl a ↦ h z a | inr e ↦ subst (λ (y : Member). D y ≡ true) e d ]

pub plus_both : (C D : Member → Bool) (x : Member) → IsSubset C D → IsSubset (plus C x) (plus D x)
plus_both C D x h = plus_within C (plus D x) x (λ z i. plus_keeps D x z (h z i)) (plus_here D x)

-- ---- one member less

pub minus_parts : (C : Member → Bool) (x y : Member) → minus C x y ≡ true → (C y ≡ true) × (x ≢ y)
minus_parts C x y h = let r = and_parts (C y) (not (member_eq x y)) h in (r.0, member_other x y (not-true (member_eq x y) r.1))

pub minus_from : (C : Member → Bool) (x y : Member) → C y ≡ true → x ≢ y → minus C x y ≡ true
minus_from C x y h ne = and_from (C y) (not (member_eq x y)) h (not_from_false (member_eq x y) (member_apart x y ne))

pub minus_lacks : (C : Member → Bool) (x y : Member) → C y ≡ false → minus C x y ≡ false
minus_lacks C x y l = ap (λ b. b && not (member_eq x y)) l

pub minus_here : (C : Member → Bool) (x : Member) → minus C x x ≡ false
minus_here C x = false_from_ne_true (minus C x x) (λ e. (minus_parts C x x e).1 refl)

-- taken out and put back
pub minus_plus : (C : Member → Bool) (x : Member) → C x ≡ true → SameSet C (plus (minus C x) x)
minus_plus C x h =
    same_from C (plus (minus C x) x)
    (λ z i. elim (cases_Bool (member_eq x z))
    [ inl e ↦ or_right (minus C x z) (member_eq x z) e | inr e ↦ plus_keeps (minus C x) x z (minus_from C x z i (member_other x z e)) ])
    (plus_within (minus C x) C x (λ z i. (minus_parts C x z i).0) h)

-- put in and taken out
pub plus_minus : (C : Member → Bool) (x : Member) → C x ≡ false → SameSet C (minus (plus C x) x)
plus_minus C x l =
    same_from C (minus (plus C x) x)
    (λ z i. minus_from (plus C x) x z (plus_keeps C x z i) (λ e. both_ways (C x) l (subst (λ (y : Member). C y ≡ true) (sym e) i)))
    (λ z i. let r = minus_parts (plus C x) x z i in elim (plus_cases C x z r.0) [ inl a ↦ a | inr e ↦ absurd (r.1 e) ])

-- sets that agree with one member more, which both lack, agree
pub plus_cancel : (C D : Member → Bool) (x : Member) → C x ≡ false → D x ≡ false → SameSet (plus C x) (plus D x) → SameSet C D
plus_cancel C D x c d h z =
    plus_minus C x c z ∙ (ap (λ b. b && not (member_eq x z)) (h z) ∙ sym (plus_minus D x d z))

-- ---- the members of a list more

pub all_keeps : (xs : List Member) (C : Member → Bool) → IsSubset C (plus_all C xs)
all_keeps [] C z h = h
all_keeps (x ∷ xs) C z h = all_keeps xs (plus C x) z (plus_keeps C x z h)

pub all_in : (xs : List Member) (C : Member → Bool) (z : Member) → IsIn z xs → plus_all C xs z ≡ true
all_in [] C z i = absurd i
all_in (x ∷ xs) C z (inl e) = all_keeps xs (plus C x) z (subst (λ (y : Member). plus C x y ≡ true) (sym e) (plus_here C x))
all_in (x ∷ xs) C z (inr i) = all_in xs (plus C x) z i

pub all_cases : (xs : List Member) (C : Member → Bool) (z : Member) → plus_all C xs z ≡ true → (C z ≡ true) ⊎ IsIn z xs
all_cases [] C z h = inl h
all_cases (x ∷ xs) C z h =
    elim (all_cases xs (plus C x) z h)
    [ inl a ↦ elim (plus_cases C x z a) [ inl b ↦ inl b | inr e ↦ inr (inl (sym e)) ] | inr i ↦ inr (inr i) ]

pub all-append : (C : Member → Bool) (xs ys : List Member) → plus_all C (xs ++ ys) ≡ plus_all (plus_all C xs) ys
all-append C [] ys = refl
all-append C (x ∷ xs) ys = all-append (plus C x) xs ys

-- ---- sums over a set

-- one member more adds its own amount
pub sum_plus : (C : Member → Bool) (x : Member) (f : Member → ℕ) (xs : List Member) → AreApart xs → IsIn x xs → C x ≡ false
    → sum_where (plus C x) f xs ≡ sum_where C f xs + f x
sum_plus C x f [] a i l = absurd i
sum_plus C x f (y ∷ ys) a (inl e) l =
    let rest : sum_where (plus C x) f ys ≡ sum_where C f ys =
    sum_same (plus C x) C f ys (λ z i. plus_other C x z (λ p. a.0 z i (sym e ∙ p))) in
    let here : plus C x y ≡ true = subst (λ (z : Member). plus C x z ≡ true) e (plus_here C x) in
    let out : C y ≡ false = subst (λ (z : Member). C z ≡ false) e l in
    let lhs : sum_where (plus C x) f (y ∷ ys) ≡ f y + sum_where C f ys = ap₂ (λ b n. (if b then f y else 0) + n) here rest in
    let rhs : sum_where C f (y ∷ ys) ≡ 0 + sum_where C f ys = ap (λ b. (if b then f y else 0) + sum_where C f ys) out in
    let same : f x ≡ f y = ap f e in
    lhs ∙ (omega arith ∙ ap (λ n. n + f x) (sym rhs))
sum_plus C x f (y ∷ ys) a (inr i) l =
    let ih = sum_plus C x f ys a.1 i l in
    let here : plus C x y ≡ C y = plus_other C x y (λ e. a.0 x i (sym e)) in
    let lhs : sum_where (plus C x) f (y ∷ ys) ≡ (if C y then f y else 0) + (sum_where C f ys + f x) =
    ap₂ (λ b n. (if b then f y else 0) + n) here ih in
    lhs ∙ omega arith

-- a greater set has a greater sum
pub sum_within : (C D : Member → Bool) (f : Member → ℕ) (xs : List Member) → IsSubset C D → sum_where C f xs ≤ sum_where D f xs
sum_within C D f [] h = omega arith
sum_within C D f (x ∷ xs) h =
    let ih = sum_within C D f xs h in
    elim (cases_Bool (C x)) [ inl c ↦ let d = h x c in rw (c, d) (omega arith) | inr c ↦ rw c (omega arith) ]

pub all_same : (xs : List Member) (C D : Member → Bool) → SameSet C D → SameSet (plus_all C xs) (plus_all D xs)
all_same xs C D h = subst (λ (E : Member → Bool). SameSet (plus_all C xs) (plus_all E xs)) (same_set C D h) (λ z. refl)
