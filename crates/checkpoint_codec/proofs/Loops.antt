-- Elements that are read one after the other: those that were read stand before those that are to come.
use Rattle.std.proofs.Common.{◌≡◌, ℕ, zero, suc, ◌+◌, ◌-◌, ◌<◌, ◌≤◌, List, [], ◌∷◌, ◌++◌, length, Ok, Err, refl, sym, ap, ◌∙◌, append_assoc, append-nil, arith}
use Rattle.wire_codec.specs.declared.fault.Fault.{Fault}
use Rattle.wire_codec.specs.Reading.{LeftData, Found, ◌>>=◌, many}
use Rattle.wire_codec.proofs.CallerLemmas.{ok_is, bind_ok}

-- what was found, behind elements that were read before
abbrev pub behind : {A : Type 0} → List A → Found (List A) → Found (List A)
behind xs (Ok r) = Ok (xs ++ r.0, r.1)
behind xs (Err f) = Err f

behind_none : {A : Type 0} (r : Found (List A)) → behind [] r ≡ r
behind_none (Ok r) = refl
behind_none (Err f) = refl

behind_one : {A : Type 0} (xs : List A) (x : A) (r : Found (List A))
    → behind xs (◌>>=◌ {B = List A × LeftData} r (λ others. Ok (x ∷ others.0, others.1))) ≡ behind (xs ++ x ∷ []) r
behind_one xs x (Ok r) = ap (λ ys. Ok (ys, r.1)) (sym (append_assoc xs (x ∷ []) r.0))
behind_one xs x (Err f) = refl

-- there are as many as were asked for
pub many_length : {S A : Type 0} (step : S → LeftData → Found A) (next : S → A → S) (n : ℕ) (state : S) (l m : LeftData) (xs : List A)
    → many step next n state l ≡ Ok (xs, m) → length xs ≡ n
unfolding many
many_length {A = A} step next zero state l m xs e = ap (λ (y : List A × LeftData). length y.0) (sym (ok_is ([], l) (xs, m) e))
many_length {A = A} step next (suc n) state l m xs e =
    let a = bind_ok (step state l) (λ first. many step next n (next state first.0) first.1 >>= λ others.
    Ok (first.0 ∷ others.0, others.1))
    (xs, m) e in
    let b = bind_ok (many step next n (next state a.0.0) a.0.1) (λ others. Ok (a.0.0 ∷ others.0, others.1)) (xs, m) a.2 in
    let rest = many_length step next n (next state a.0.0) a.0.1 b.0.1 b.0.0 b.1 in
    let made : List A × LeftData = (a.0.0 ∷ b.0.0, b.0.1) in
    ap (λ (y : List A × LeftData). length y.0) (sym (ok_is made (xs, m) b.2)) ∙ ap suc rest

-- the whole list is these elements, of which there are i, and the others, which come from this state and these bytes on
pub record IsUnderWay {S A : Type 0} (step : S → LeftData → Found A) (next : S → A → S) (n : ℕ) (begin : S) (start : LeftData) (i : ℕ)
    (xs : List A) (state : S) (l : LeftData) : Type 0 where
  pub whole : many step next n begin start ≡ behind xs (many step next (n - i) state l)

module _ {S A : Type 0} (step : S → LeftData → Found A) (next : S → A → S) (n : ℕ) (begin : S) (start : LeftData) where
  pub begins : IsUnderWay step next n begin start 0 [] begin start
  begins =
      let all : n - 0 ≡ n = omega arith in
      record { whole = sym (behind_none _) ∙ ap (λ k. behind [] (many step next k begin start)) (sym all) }

  next_one : (k : ℕ) (xs : List A) (state : S) (l m : LeftData) (x : A) → step state l ≡ Ok (x, m)
      → behind xs (many step next (suc k) state l) ≡ behind (xs ++ x ∷ []) (many step next k (next state x) m)
  unfolding many
  next_one k xs state l m x e = rw e (behind_one xs x (many step next k (next state x) m))

  pub goes_on : (i : ℕ) (xs : List A) (state : S) (l m : LeftData) (x : A) → i < n → step state l ≡ Ok (x, m)
      → IsUnderWay step next n begin start i xs state l
      → IsUnderWay step next n begin start (i + 1) (xs ++ x ∷ []) (next state x) m
  goes_on i xs state l m x lt e way =
      let left : n - i ≡ suc (n - (i + 1)) = omega (arith, lt) in
      record {
        whole = way.whole ∙ ap (λ k. behind xs (many step next k state l)) left ∙ next_one (n - (i + 1)) xs state l m x e;
      }

  stops : (k : ℕ) (xs : List A) (state : S) (l : LeftData) (f : Fault) → step state l ≡ Err f
      → behind xs (many step next (suc k) state l) ≡ Err f
  unfolding many
  stops k xs state l f e = rw e refl

  pub ends : (i : ℕ) (xs : List A) (state : S) (l : LeftData) (f : Fault) → i < n → step state l ≡ Err f
      → IsUnderWay step next n begin start i xs state l → many step next n begin start ≡ Err f
  ends i xs state l f lt e way =
      let left : n - i ≡ suc (n - (i + 1)) = omega (arith, lt) in
      way.whole ∙ ap (λ k. behind xs (many step next k state l)) left ∙ stops (n - (i + 1)) xs state l f e

  no_more : (xs : List A) (state : S) (l : LeftData) → behind xs (many step next 0 state l) ≡ Ok (xs, l)
  unfolding many
  no_more xs state l = ap (λ ys. Ok (ys, l)) (append-nil xs)

  pub is_done : (i : ℕ) (xs : List A) (state : S) (l : LeftData) → n ≤ i → IsUnderWay step next n begin start i xs state l
      → many step next n begin start ≡ Ok (xs, l)
  is_done i xs state l le way =
      let left : n - i ≡ 0 = omega (arith, le) in
      way.whole ∙ ap (λ k. behind xs (many step next k state l)) left ∙ no_more xs state l
