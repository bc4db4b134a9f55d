-- Changes that are told of one element more: none is empty, where they end, and how they stand.
use Rattle.std.proofs.Common.{◌≡◌, ◌≢◌, ℕ, zero, suc, ◌+◌, ◌<◌, ◌≤◌, ◌==◌, Bool, true, false, if◌then◌else◌, List, [], ◌∷◌, ◌++◌, length, get_or, All, refl, sym, ap, subst, ◌∙◌, arith}
use Rattle.std.proofs.lemmas.Bool.Decides.{nat_tests}
use Rattle.std.proofs.lemmas.List.{get_or_default}
use Rattle.std.specs.List.{AllAdjacentBelow}
use Rattle.std.specs.Prelude.{slice_set}
use Rattle.change_list.specs.declared.change.Change.{Change}
use Rattle.change_list.specs.Changes.{end_of}
use Rattle.change_list.specs.Told.{nothing_at, grown, told_at}
use Rattle.change_list.proofs.Patches.{Each, EndBy}

pub each_all : (P : Change → Type 0) (cs : List Change) → Each P cs → All P cs
each_all P [] h k d lt = absurd (omega (arith, lt))
each_all P (c ∷ cs) h zero d lt = h.0
each_all P (c ∷ cs) h (suc k) d lt = each_all P cs h.1 k d (omega (arith, lt))

pub each_more : (P Q : Change → Type 0) (cs : List Change) → ((c : Change) → P c → Q c) → Each P cs → Each Q cs
each_more P Q [] more h = tt
each_more P Q (c ∷ cs) more h = (more c h.0, each_more P Q cs more h.1)

-- what holds of each change that stays, of each that grows, and of a new one, holds of each that is told
pub each_told : (P Q : Change → Type 0) (v : ℕ) (s : Bool) (cs : List Change) → ((c : Change) → P c → Q c)
    → ((c : Change) → P c → Q (grown s c))
    → Q (grown s (nothing_at v)) → Each P cs → Each Q (told_at v s cs)
each_told P Q v s [] stays grows new h = (new, tt)
each_told P Q v s (c ∷ []) stays grows new h = by (end_of c == v)
  where
    by : (b : Bool) → Each Q (if b then grown s c ∷ [] else c ∷ (grown s (nothing_at v) ∷ []))
    by true = (grows c h.0, tt)
    by false = (stays c h.0, (new, tt))
each_told P Q v s (c ∷ (d ∷ cs)) stays grows new h = (stays c h.0, each_told P Q v s (d ∷ cs) stays grows new h.1)

-- the next change is behind n
abbrev pub NextBehind : ℕ → List Change → Type 0
NextBehind n [] = Unit {0}
NextBehind n (c ∷ cs) = n < c.place

-- each change is behind the end of the one before it
abbrev pub AreParted : List Change → Type 0
AreParted [] = Unit {0}
AreParted (c ∷ cs) = NextBehind (end_of c) cs × AreParted cs

grown_place : (s : Bool) (c : Change) → (grown s c).place ≡ c.place
grown_place true c = refl
grown_place false c = refl

next_told : (n v : ℕ) (s : Bool) (c : Change) (cs : List Change) → n < c.place → NextBehind n (told_at v s (c ∷ cs))
next_told n v s c [] lt = by (end_of c == v)
  where
    by : (b : Bool) → NextBehind n (if b then grown s c ∷ [] else c ∷ (grown s (nothing_at v) ∷ []))
    by true = let same = grown_place s c in omega (arith, same, lt)
    by false = lt
next_told n v s c (d ∷ cs) lt = lt

pub parted_told : (v : ℕ) (s : Bool) (cs : List Change) → EndBy v cs → AreParted cs → AreParted (told_at v s cs)
parted_told v s [] w h = (tt, tt)
parted_told v s (c ∷ []) w h = by (end_of c == v) refl
  where
    by : (b : Bool) → (end_of c == v) ≡ b → AreParted (if b then grown s c ∷ [] else c ∷ (grown s (nothing_at v) ∷ []))
    by true e = (tt, tt)
    by false e =
        let other : end_of c ≢ v = λ is. grind (arith, nat_tests, e, is) in
        let same = grown_place s (nothing_at v) in
        let within = w.0 in
        (omega (arith, other, same, within), (tt, tt))
parted_told v s (c ∷ (d ∷ cs)) w h = (next_told (end_of c) v s d cs h.0, parted_told v s (d ∷ cs) w.1 h.1)

pub parted_adjacent : (cs : List Change) → AreParted cs → AllAdjacentBelow (λ c d. end_of c < d.place) cs (length cs)
parted_adjacent [] h k e lt = absurd (omega (arith, lt))
parted_adjacent (c ∷ []) h k e lt = absurd (omega (arith, lt))
parted_adjacent (c ∷ (d ∷ cs)) h zero e lt = h.0
parted_adjacent (c ∷ (d ∷ cs)) h (suc k) e lt =
    let next : suc (k + 1) ≡ suc k + 1 = omega arith in
    subst (λ n. end_of (get_or (d ∷ cs) k e) < (get_or (c ∷ (d ∷ cs)) n e).place) next
    (parted_adjacent (d ∷ cs) h.1 k e (omega (arith, lt)))

-- the last change, where it ends at the place, has one element more
pub last_told : (cs : List Change) (v : ℕ) (s : Bool) (n : ℕ) (e : Change) → length cs ≡ n + 1 → end_of (get_or cs n e) ≡ v
    → slice_set cs n (grown s (get_or cs n e)) ≡ told_at v s cs
last_told [] v s n e long ends = absurd (omega (arith, long))
last_told (c ∷ []) v s zero e long ends = by (end_of c == v) refl
  where
    by : (b : Bool) → (end_of c == v) ≡ b → grown s c ∷ [] ≡ (if b then grown s c ∷ [] else c ∷ (grown s (nothing_at v) ∷ []))
    by true is = refl
    by false is = absurd (grind (arith, nat_tests, is, ends))
last_told (c ∷ []) v s (suc n) e long ends = absurd (omega (arith, long))
last_told (c ∷ (d ∷ cs)) v s zero e long ends = absurd (omega (arith, long))
last_told (c ∷ (d ∷ cs)) v s (suc n) e long ends = ap (λ ds. c ∷ ds) (last_told (d ∷ cs) v s n e (omega (arith, long)) ends)

-- where it ends elsewhere, or there is none, a new one has the element
new_told : (cs : List Change) (v : ℕ) (s : Bool) → ((n : ℕ) (e : Change) → length cs ≡ n + 1 → end_of (get_or cs n e) ≡ v → ⊥)
    → cs ++ (grown s (nothing_at v) ∷ []) ≡ told_at v s cs
new_told [] v s other = refl
new_told (c ∷ []) v s other = by (end_of c == v) refl
  where
    by : (b : Bool) → (end_of c == v) ≡ b
        → c ∷ (grown s (nothing_at v) ∷ []) ≡ (if b then grown s c ∷ [] else c ∷ (grown s (nothing_at v) ∷ []))
    by true is = absurd (other 0 c refl (grind (arith, nat_tests, is)))
    by false is = refl
new_told (c ∷ (d ∷ cs)) v s other =
    ap (λ ds. c ∷ ds) (new_told (d ∷ cs) v s (λ n e long ends. other (suc n) e (omega (arith, long)) ends))

pub first_told : (cs : List Change) (v : ℕ) (s : Bool) → length cs ≤ 0 → cs ++ (grown s (nothing_at v) ∷ []) ≡ told_at v s cs
first_told cs v s none = new_told cs v s (λ n e long ends. omega (arith, none, long))

pub next_one_told : (cs : List Change) (v : ℕ) (s : Bool) (k : ℕ) (last : Change) → k + 1 ≡ length cs → last ≡ get_or cs k last
    → (end_of last ≡ v → ⊥)
    → cs ++ (grown s (nothing_at v) ∷ []) ≡ told_at v s cs
next_one_told cs v s k last whole is other =
    new_told cs v s
    (λ n e long ends.
    let same : n ≡ k = omega (arith, whole, long) in
    let there : n < length cs = omega (arith, long) in
    other (ap end_of (is ∙ ap (λ i. get_or cs i last) (sym same) ∙ get_or_default cs n last e there) ∙ ends))
