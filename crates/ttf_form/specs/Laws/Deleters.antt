-- Deleters: the rows of `raise_in`, and that the raises of two may be made in either order, on any list.
use Rattle.std.proofs.Common.{◌≡◌, ℕ, suc, max, ◌++◌, Bool, true, false, if◌then◌else◌, List, [], ◌∷◌, refl, sym, ap, ◌∙◌, subst, arith}
use Rattle.std.proofs.Math.Nat.{max_comm}
use Rattle.std.proofs.lemmas.Bool.Decides.{nat_tests}
use Rattle.op_name.specs.NameData.{NameData, name_eq, name_lt, IsBefore}
pub use Rattle.op_name.proofs.CallerLemmas.{name_less_other, name_itself as name_self, name_same, name_transitive as name_less_trans, name_irreflexive as name_less_self}
use Rattle.ttf_form.specs.Cells.{raise_in, IsRising}

-- one more than the greatest generation that d has among the deleters, 0 if it is none of them
abbrev pub best : NameData → List (NameData × ℕ) → ℕ
best d [] = 0
best d (e ∷ es) = max (if name_eq d e.0 then suc e.1 else 0) (best d es)

-- all names of the list are less than d
abbrev pub AreBelow : List (NameData × ℕ) → NameData → Type 0
AreBelow [] d = Unit {0}
AreBelow (e ∷ es) d = (name_lt e.0 d ≡ true) × AreBelow es d

pub name_less_asym : (n m : NameData) → name_lt n m ≡ true → name_lt m n ≡ false
name_less_asym n m h = grind (arith, nat_tests)

pub name_more_other : (n m : NameData) → name_lt n m ≡ true → name_eq m n ≡ false
name_more_other n m h = grind (arith, nat_tests)

pub name_total : (n m : NameData) → name_lt n m ≡ false → name_eq n m ≡ false → name_lt m n ≡ true
name_total n m a b = grind (arith, nat_tests)

two_best : (g h b : ℕ) → max (suc (max h g)) b ≡ max (suc g) (max (suc h) b)
two_best g h b = omega arith

past_best : (a g b : ℕ) → max a (max g b) ≡ max g (max a b)
past_best a g b = omega arith

none_best : (b : ℕ) → max 0 b ≡ b
none_best b = omega arith

-- how two names compare
pub data Compared (n m : NameData) : Type 0 where
  less : name_lt n m ≡ true → Compared n m
  same : n ≡ m → Compared n m
  more : name_lt m n ≡ true → Compared n m

pub compared : (n m : NameData) → Compared n m
compared n m = by_less (name_lt n m) refl
  where
    by_equal : (b : Bool) → name_eq n m ≡ b → name_lt n m ≡ false → Compared n m
    by_equal true e l = same (name_same n m e)
    by_equal false e l = more (name_total n m l e)

    by_less : (b : Bool) → name_lt n m ≡ b → Compared n m
    by_less true e = less e
    by_less false e = by_equal (name_eq n m) refl e

-- the rows
pub raise_none : (d : NameData) (g : ℕ) → raise_in d g [] ≡ (d, g) ∷ []
unfolding raise_in
raise_none d g = refl

pub raise_front : (d : NameData) (g : ℕ) (e : NameData) (h : ℕ) (es : List (NameData × ℕ)) → name_lt d e ≡ true
    → raise_in d g ((e, h) ∷ es) ≡ (d, g) ∷ ((e, h) ∷ es)
unfolding raise_in
raise_front d g e h es l =
    ap (λ (t : Bool). if t then (d, g) ∷ ((e, h) ∷ es) else if name_eq d e then (d, max h g) ∷ es else (e, h) ∷ raise_in d g es) l

pub raise_at : (d : NameData) (g h : ℕ) (es : List (NameData × ℕ)) → raise_in d g ((d, h) ∷ es) ≡ (d, max h g) ∷ es
unfolding raise_in
raise_at d g h es =
    ap (λ (t : Bool). if t then (d, g) ∷ ((d, h) ∷ es) else if name_eq d d then (d, max h g) ∷ es else (d, h) ∷ raise_in d g es)
    (name_less_self d)
    ∙ ap (λ (t : Bool). if t then (d, max h g) ∷ es else (d, h) ∷ raise_in d g es) (name_self d)

pub raise_on : (d : NameData) (g : ℕ) (e : NameData) (h : ℕ) (es : List (NameData × ℕ)) → name_lt e d ≡ true
    → raise_in d g ((e, h) ∷ es) ≡ (e, h) ∷ raise_in d g es
unfolding raise_in
raise_on d g e h es l =
    ap (λ (t : Bool). if t then (d, g) ∷ ((e, h) ∷ es) else if name_eq d e then (d, max h g) ∷ es else (e, h) ∷ raise_in d g es)
    (name_less_asym e d l)
    ∙ ap (λ (t : Bool). if t then (d, max h g) ∷ es else (e, h) ∷ raise_in d g es) (name_more_other e d l)

pub max_assoc : (a b c : ℕ) → max (max a b) c ≡ max a (max b c)
max_assoc a b c = omega arith

pub max_right_comm : (a b c : ℕ) → max (max a b) c ≡ max (max a c) b
max_right_comm a b c = max_assoc a b c ∙ ap (λ k. max a k) (max_comm b c) ∙ sym (max_assoc a c b)

-- one name raised twice
pub raise_again : (d : NameData) (g h : ℕ) (es : List (NameData × ℕ)) → raise_in d g (raise_in d h es) ≡ raise_in d (max h g) es
unfolding raise_in
raise_again d g h [] = raise_at d g h []
raise_again d g h ((e, k) ∷ es) = by (raise_again d g h es) (compared d e)
  where
    by : raise_in d g (raise_in d h es) ≡ raise_in d (max h g) es → Compared d e
        → raise_in d g (raise_in d h ((e, k) ∷ es)) ≡ raise_in d (max h g) ((e, k) ∷ es)
    by again (less l) =
        ap (raise_in d g) (raise_front d h e k es l)
        ∙ raise_at d g h ((e, k) ∷ es)
        ∙ sym (raise_front d (max h g) e k es l)
    by again (same s) =
        subst (λ (x : NameData). raise_in d g (raise_in d h ((x, k) ∷ es)) ≡ raise_in d (max h g) ((x, k) ∷ es)) s
        (ap (raise_in d g) (raise_at d h k es)
        ∙ raise_at d g (max k h) es
        ∙ ap (λ (m : ℕ). (d, m) ∷ es) (max_assoc k h g)
        ∙ sym (raise_at d (max h g) k es))
    by again (more l) =
        ap (raise_in d g) (raise_on d h e k es l)
        ∙ raise_on d g e k (raise_in d h es) l
        ∙ ap (λ (xs : List (NameData × ℕ)). (e, k) ∷ xs) again
        ∙ sym (raise_on d (max h g) e k es l)

-- two names, the one less than the other
pub raise_apart : (d c : NameData) (g h : ℕ) (es : List (NameData × ℕ)) → name_lt d c ≡ true
    → raise_in d g (raise_in c h es) ≡ raise_in c h (raise_in d g es)
unfolding raise_in
raise_apart d c g h [] l = raise_front d g c h [] l ∙ sym (raise_on c h d g [] l)
raise_apart d c g h ((e, k) ∷ es) l = by (raise_apart d c g h es l) (compared d e)
  where
    by_other : name_lt d e ≡ true → Compared c e → raise_in d g (raise_in c h ((e, k) ∷ es)) ≡ raise_in c h (raise_in d g ((e, k) ∷ es))
    by_other de (less ce) =
        ap (raise_in d g) (raise_front c h e k es ce)
        ∙ raise_front d g c h ((e, k) ∷ es) l
        ∙ sym (ap (raise_in c h) (raise_front d g e k es de)
        ∙ raise_on c h d g ((e, k) ∷ es) l
        ∙ ap (λ (xs : List (NameData × ℕ)). (d, g) ∷ xs) (raise_front c h e k es ce))
    by_other de (same s) =
        subst (λ (x : NameData). raise_in d g (raise_in c h ((x, k) ∷ es)) ≡ raise_in c h (raise_in d g ((x, k) ∷ es))) s
        (ap (raise_in d g) (raise_at c h k es)
        ∙ raise_front d g c (max k h) es l
        ∙ sym (ap (raise_in c h) (raise_front d g c k es l)
        ∙ raise_on c h d g ((c, k) ∷ es) l
        ∙ ap (λ (xs : List (NameData × ℕ)). (d, g) ∷ xs) (raise_at c h k es)))
    by_other de (more ec) =
        ap (raise_in d g) (raise_on c h e k es ec)
        ∙ raise_front d g e k (raise_in c h es) de
        ∙ sym (ap (raise_in c h) (raise_front d g e k es de)
        ∙ raise_on c h d g ((e, k) ∷ es) l
        ∙ ap (λ (xs : List (NameData × ℕ)). (d, g) ∷ xs) (raise_on c h e k es ec))

    by : raise_in d g (raise_in c h es) ≡ raise_in c h (raise_in d g es) → Compared d e
        → raise_in d g (raise_in c h ((e, k) ∷ es)) ≡ raise_in c h (raise_in d g ((e, k) ∷ es))
    by rest (less de) = by_other de (compared c e)
    by rest (same s) =
        subst (λ (x : NameData). raise_in d g (raise_in c h ((x, k) ∷ es)) ≡ raise_in c h (raise_in d g ((x, k) ∷ es))) s
        (ap (raise_in d g) (raise_on c h d k es l)
        ∙ raise_at d g k (raise_in c h es)
        ∙ sym (ap (raise_in c h) (raise_at d g k es) ∙ raise_on c h d (max k g) es l))
    by rest (more ed) =
        let ec : name_lt e c ≡ true = name_less_trans e d c ed l in
        ap (raise_in d g) (raise_on c h e k es ec)
        ∙ raise_on d g e k (raise_in c h es) ed
        ∙ ap (λ (xs : List (NameData × ℕ)). (e, k) ∷ xs) rest
        ∙ sym (ap (raise_in c h) (raise_on d g e k es ed) ∙ raise_on c h e k (raise_in d g es) ec)

-- two raises, in either order, of any list
pub raise_two : (d c : NameData) (g h : ℕ) (es : List (NameData × ℕ)) → raise_in d g (raise_in c h es) ≡ raise_in c h (raise_in d g es)
raise_two d c g h es = by (compared d c)
  where
    by : Compared d c → raise_in d g (raise_in c h es) ≡ raise_in c h (raise_in d g es)
    by (less l) = raise_apart d c g h es l
    by (same s) =
        subst (λ (x : NameData). raise_in d g (raise_in x h es) ≡ raise_in x h (raise_in d g es)) s
        (raise_again d g h es ∙ ap (λ (m : ℕ). raise_in d m es) (max_comm h g) ∙ sym (raise_again d h g es))
    by (more l) = sym (raise_apart c d h g es l)

-- the best of a name after a raise
pub best_raise : (d : NameData) (g : ℕ) (es : List (NameData × ℕ)) → best d (raise_in d g es) ≡ max (suc g) (best d es)
unfolding raise_in
best_raise d g [] = ap (λ (t : Bool). max (if t then suc g else 0) 0) (name_self d)
best_raise d g ((e, h) ∷ es) = by (best_raise d g es) (compared d e)
  where
    by : best d (raise_in d g es) ≡ max (suc g) (best d es) → Compared d e
        → best d (raise_in d g ((e, h) ∷ es)) ≡ max (suc g) (best d ((e, h) ∷ es))
    by rest (less l) =
        ap (best d) (raise_front d g e h es l)
        ∙ ap (λ (t : Bool). max (if t then suc g else 0) (best d ((e, h) ∷ es))) (name_self d)
    by rest (same s) =
        subst (λ (x : NameData). best d (raise_in d g ((x, h) ∷ es)) ≡ max (suc g) (best d ((x, h) ∷ es))) s
        (ap (best d) (raise_at d g h es)
        ∙ ap (λ (t : Bool). max (if t then suc (max h g) else 0) (best d es)) (name_self d)
        ∙ two_best g h (best d es)
        ∙ sym (ap (λ (t : Bool). max (suc g) (max (if t then suc h else 0) (best d es))) (name_self d)))
    by rest (more l) =
        ap (best d) (raise_on d g e h es l)
        ∙ ap (λ (k : ℕ). max (if name_eq d e then suc h else 0) k) rest
        ∙ past_best (if name_eq d e then suc h else 0) (suc g) (best d es)

pub best_raise_other : (c d : NameData) (g : ℕ) (es : List (NameData × ℕ)) → name_eq c d ≡ false → best c (raise_in d g es) ≡ best c es
unfolding raise_in
best_raise_other c d g [] ne = ap (λ (t : Bool). max (if t then suc g else 0) 0) ne
best_raise_other c d g ((e, h) ∷ es) ne = by (best_raise_other c d g es ne) (compared d e)
  where
    by : best c (raise_in d g es) ≡ best c es → Compared d e → best c (raise_in d g ((e, h) ∷ es)) ≡ best c ((e, h) ∷ es)
    by rest (less l) =
        ap (best c) (raise_front d g e h es l)
        ∙ ap (λ (t : Bool). max (if t then suc g else 0) (best c ((e, h) ∷ es))) ne
        ∙ none_best (best c ((e, h) ∷ es))
    by rest (same s) =
        subst (λ (x : NameData). best c (raise_in d g ((x, h) ∷ es)) ≡ best c ((x, h) ∷ es)) s
        (ap (best c) (raise_at d g h es)
        ∙ ap (λ (t : Bool). max (if t then suc (max h g) else 0) (best c es)) ne
        ∙ sym (ap (λ (t : Bool). max (if t then suc h else 0) (best c es)) ne))
    by rest (more l) =
        ap (best c) (raise_on d g e h es l)
        ∙ ap (λ (k : ℕ). max (if name_eq c e then suc h else 0) k) rest

-- past entries that are all less
pub raise_past : (d : NameData) (g : ℕ) (xs ys : List (NameData × ℕ)) → AreBelow xs d → raise_in d g (xs ++ ys) ≡ xs ++ raise_in d g ys
raise_past d g [] ys h = refl
raise_past d g ((e, k) ∷ xs) ys h =
    raise_on d g e k (xs ++ ys) h.0
    ∙ ap (λ (zs : List (NameData × ℕ)). (e, k) ∷ zs) (raise_past d g xs ys h.1)

raise_before : (n d : NameData) (g : ℕ) (es : List (NameData × ℕ)) → IsBefore n es → name_lt n d ≡ true → IsBefore n (raise_in d g es)
unfolding raise_in
raise_before n d g [] b l = l
raise_before n d g ((e, h) ∷ es) b l = by (compared d e)
  where
    by : Compared d e → IsBefore n (raise_in d g ((e, h) ∷ es))
    by (less k) = subst (λ (xs : List (NameData × ℕ)). IsBefore n xs) (sym (raise_front d g e h es k)) l
    by (same s) =
        subst (λ (x : NameData). IsBefore n (raise_in d g ((x, h) ∷ es))) s
        (subst (λ (xs : List (NameData × ℕ)). IsBefore n xs) (sym (raise_at d g h es)) l)
    by (more k) = subst (λ (xs : List (NameData × ℕ)). IsBefore n xs) (sym (raise_on d g e h es k)) b

-- the deleters stay sorted
pub raise_rising : (d : NameData) (g : ℕ) (es : List (NameData × ℕ)) → IsRising es → IsRising (raise_in d g es)
unfolding raise_in
raise_rising d g [] r = (tt, tt)
raise_rising d g ((e, h) ∷ es) r = by (raise_rising d g es r.1) (compared d e) r
  where
    by : IsRising (raise_in d g es) → Compared d e → IsRising ((e, h) ∷ es) → IsRising (raise_in d g ((e, h) ∷ es))
    by rest (less k) q = subst IsRising (sym (raise_front d g e h es k)) (k, q)
    by rest (same s) q =
        subst (λ (x : NameData). IsRising ((x, h) ∷ es) → IsRising (raise_in d g ((x, h) ∷ es))) s
        (λ p. subst IsRising (sym (raise_at d g h es)) p)
        q
    by rest (more k) q =
        subst IsRising (sym (raise_on d g e h es k)) (raise_before e d g es q.0 k, rest)
