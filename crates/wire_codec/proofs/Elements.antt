-- Elements of one size, side by side, and reading them one after the other as a loop does.
use Rattle.std.proofs.Common.{◌≡◌, ℕ, zero, suc, ◌+◌, ◌-◌, ◌*◌, ◌<◌, ◌≤◌, List, [], ◌∷◌, ◌++◌, length, take, drop, Ok, Err, refl, sym, ap, subst, ◌∙◌, append_assoc, arith}
use Rattle.std.proofs.Math.Nat.{mul-suc, mul-zero}
use Rattle.std.proofs.lemmas.List.{append-nil, length-append, length-drop, drop-drop, take_at, drop_at}
use Rattle.wire_codec.specs.declared.fault.Fault.{Fault}
use Rattle.wire_codec.specs.Reading.{LeftData, Found, ◌>>=◌, many}
use Rattle.wire_codec.specs.Code.Elements.{elements}
use Rattle.wire_codec.proofs.Steps.{IsBytes, IsBytes-drop}
use Rattle.wire_codec.proofs.TwoWays.{Reads}

pub elements_none : {A : Type 0} (one : List ℕ → A) (size : ℕ) (bytes : List ℕ) → elements one size 0 bytes ≡ []
unfolding elements
elements_none one size bytes = refl

pub elements_step : {A : Type 0} (one : List ℕ → A) (size n : ℕ) (bytes : List ℕ) → 0 < n
    → elements one size n bytes ≡ one (take size bytes) ∷ elements one size (n - 1) (drop size bytes)
unfolding elements
elements_step one size zero bytes h = absurd (omega arith)
elements_step one size (suc n) bytes h =
    let back : n ≡ suc n - 1 = omega arith in ap (λ (k : ℕ). one (take size bytes) ∷ elements one size k (drop size bytes)) back

pub length_elements : {A : Type 0} (one : List ℕ → A) (size n : ℕ) (bytes : List ℕ) → length (elements one size n bytes) ≡ n
unfolding elements
length_elements one size zero bytes = refl
length_elements one size (suc n) bytes = ap suc (length_elements one size n (drop size bytes))

-- one more
elements_more : {A : Type 0} (one : List ℕ → A) (size n : ℕ) (bytes : List ℕ)
    → elements one size (suc n) bytes ≡ elements one size n bytes ++ one (take size (drop (size * n) bytes)) ∷ []
unfolding elements
elements_more {A = A} one size zero bytes = ap (λ (k : ℕ). one (take size (drop k bytes)) ∷ []) (sym (mul-zero size))
elements_more {A = A} one size (suc n) bytes =
    let further : drop (size * n) (drop size bytes) ≡ drop (size * suc n) bytes =
    drop-drop (size * n) size bytes ∙ ap (λ (k : ℕ). drop k bytes) (let e = mul-suc size n in omega (arith, e)) in
    ap (λ (es : List A). one (take size bytes) ∷ es)
    (elements_more one size n (drop size bytes)
    ∙ ap (λ (t : List ℕ). elements one size n (drop size bytes) ++ one (take size t) ∷ []) further)

-- what was read before, and what is still read
abbrev pub with_front : {A : Type 0} → List A → Found (List A) → Found (List A)
with_front front (Ok x) = Ok (front ++ x.0, x.1)
with_front front (Err e) = Err e

front_none : {A : Type 0} (r : Found (List A)) → with_front [] r ≡ r
front_none (Ok x) = refl
front_none (Err e) = refl

regroup : {A : Type 0} (front : List A) (x : A) (r : Found (List A))
    → with_front front (r >>= λ y. Ok (x ∷ y.0, y.1)) ≡ with_front (front ++ x ∷ []) r
regroup {A = A} front x (Ok y) =
    let joined : front ++ x ∷ y.0 ≡ (front ++ x ∷ []) ++ y.0 = sym (append_assoc front (x ∷ []) y.0) in
    ap (λ (xs : List A). Ok (xs, y.1)) joined
regroup {A = A} front x (Err f) = refl

-- after i of `count` elements from `start`, where `state` says what may come next and `now` is left
pub record IsUnderWay {S A : Type 0} (step : S → LeftData → Found A) (next : S → A → S) (one : List ℕ → A) (size count : ℕ) (first : S)
    (start : LeftData) (i : ℕ) (state : S) (now : LeftData) : Type 0 where
  pub so_far : with_front (elements one size i start.bytes) (many step next (count - i) state now) ≡ many step next count first start
  pub place : drop (size * i) start.bytes ≡ now.bytes
  pub long : size * i ≤ length start.bytes

module _ {S A : Type 0} (step : S → LeftData → Found A) (next : S → A → S) (one : List ℕ → A) (size : ℕ) (spell : A → List ℕ)
    (Is : S → A → Type 0)
    (reads : (s : S) → Reads (step s) spell (Is s)) (sized : (x : A) → length (spell x) ≡ size)
    (back : (s : S) (x : A) → Is s x → one (spell x) ≡ x) (count : ℕ) (first : S) (start : LeftData) where
  pub begins : IsUnderWay step next one size count first start 0 first start
  unfolding elements
  begins =
      let all : count - 0 ≡ count = omega arith in
      record {
        so_far = ap (λ (k : ℕ). with_front [] (many step next k first start)) all ∙ front_none (many step next count first start);
        place = ap (λ (k : ℕ). drop k start.bytes) (mul-zero size);
        long = let none = mul-zero size in omega (arith, none);
      }

  pub goes_on : (i : ℕ) (state : S) (now m : LeftData) (x : A) → IsBytes start.bytes → i < count → step state now ≡ Ok (x, m)
      → IsUnderWay step next one size count first start i state now
      → IsUnderWay step next one size count first start (suc i) (next state x) m
  unfolding many
  goes_on i state now m x fits lt h way =
      let now_fits : IsBytes now.bytes = subst IsBytes way.place (IsBytes-drop (size * i) start.bytes fits) in
      let took = (reads state).takes now m x now_fits h in
      let wide = sized x in
      let parts : now.bytes ≡ spell x ++ m.bytes = took.0.parts in
      let text : take size now.bytes ≡ spell x = ap (take size) parts ∙ take_at (spell x) m.bytes size wide in
      let rest : drop size now.bytes ≡ m.bytes = ap (drop size) parts ∙ drop_at (spell x) m.bytes size wide in
      let element : one (take size (drop (size * i) start.bytes)) ≡ x =
      ap (λ (t : List ℕ). one (take size t)) way.place ∙ ap one text ∙ back state x took.1 in
      let more : elements one size (suc i) start.bytes ≡ elements one size i start.bytes ++ x ∷ [] =
      elements_more one size i start.bytes ∙ ap (λ (y : A). elements one size i start.bytes ++ y ∷ []) element in
      let k : count - i ≡ suc (count - suc i) = omega (arith, lt) in
      let stepped : many step next (count - i) state now ≡ (many step next (count - suc i) (next state x) m >>= λ y. Ok (x ∷ y.0, y.1)) =
      rw (k, h) refl in
      let one_more : size * suc i ≡ size * i + size = mul-suc size i in
      let len : length now.bytes ≡ size + length m.bytes =
      ap length parts ∙ length-append (spell x) m.bytes ∙ ap (λ (n : ℕ). n + length m.bytes) wide in
      let left : length now.bytes ≡ length start.bytes - size * i = ap length (sym way.place) ∙ length-drop (size * i) start.bytes in
      record {
        so_far = ap (λ (es : List A). with_front es (many step next (count - suc i) (next state x) m)) more
            ∙ (sym (regroup (elements one size i start.bytes) x (many step next (count - suc i) (next state x) m))
            ∙ (ap (with_front (elements one size i start.bytes)) (sym stepped) ∙ way.so_far));
        place = ap (λ (n : ℕ). drop n start.bytes) one_more
            ∙ (sym (drop-drop size (size * i) start.bytes) ∙ (ap (drop size) way.place ∙ rest));
        long = let before = way.long in omega (arith, one_more, len, left, before);
      }

  pub ends : (i : ℕ) (state : S) (now : LeftData) (f : Fault) → i < count → step state now ≡ Err f
      → IsUnderWay step next one size count first start i state now → many step next count first start ≡ Err f
  unfolding many
  ends i state now f lt h way =
      let k : count - i ≡ suc (count - suc i) = omega (arith, lt) in
      let stepped : with_front (elements one size i start.bytes) (many step next (count - i) state now) ≡ Err f = rw (k, h) refl in
      sym way.so_far ∙ stepped

  pub is_done : (i : ℕ) (state : S) (now : LeftData) → count ≤ i → IsUnderWay step next one size count first start i state now
      → many step next count first start ≡ Ok (elements one size i start.bytes, now)
  unfolding many
  is_done i state now le way =
      let k : count - i ≡ 0 = omega (arith, le) in
      let all : with_front (elements one size i start.bytes) (many step next (count - i) state now)
      ≡ Ok (elements one size i start.bytes, now) =
      rw k (ap (λ (es : List A). Ok (es, now)) (append-nil (elements one size i start.bytes))) in
      sym way.so_far ∙ all
