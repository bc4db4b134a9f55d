-- What follows from a chain of steps that gave a value, or a fault.
use Rattle.std.proofs.Common.{◌≡◌, ℕ, ◌+◌, ◌<◌, Bool, true, false, cond, List, get_or, take, drop, Result, Ok, Err, refl, sym, ap, arith, inl, inr, ◌⊎◌}
use Rattle.std.proofs.lemmas.Bool.{cases_lt}
use Rattle.std.proofs.lemmas.List.{length-take, get_or-drop, get_or-take, get_or_past}
use Rattle.wire_codec.specs.declared.cause.Cause.{Cause}
use Rattle.wire_codec.specs.declared.fault.Fault.{Fault}
use Rattle.wire_codec.specs.Reading.{fault, ◌>>=◌, want}

-- every element is a byte
abbrev pub IsBytes : List ℕ → Type 0
IsBytes bytes = (i : ℕ) → get_or bytes i 0 < 256

pub IsBytes-drop : (n : ℕ) (bytes : List ℕ) → IsBytes bytes → IsBytes (drop n bytes)
IsBytes-drop n bytes h i = rw get_or-drop (h (n + i))

pub IsBytes-take : (n : ℕ) (bytes : List ℕ) → IsBytes bytes → IsBytes (take n bytes)
IsBytes-take n bytes h i =
    elim (cases_lt i n) [
      | inl lt ↦ rw (get_or-take n bytes i 0 lt) (h i)
      | inr le ↦ rw (get_or_past (take n bytes) i 0 (omega (arith, length-take n bytes))) (omega arith)
    ]

abbrev done : {A E : Type 0} → A → Result A E
done x = Ok x

pub ok_is : {A : Type 0} (x y : A) → done {E = Fault} x ≡ done y → x ≡ y
ok_is x y e = cc

-- a first step that gave a value
pub bind_ok : {A B : Type 0} (r : Result A Fault) (f : A → Result B Fault) (y : B) → (r >>= f) ≡ Ok y → (x : A) × (r ≡ Ok x) × (f x ≡ Ok y)
bind_ok (Ok x) f y e = (x, refl, e)
bind_ok (Err d) f y e = absurd cc

-- the step at which it failed
pub bind_err : {A B : Type 0} (r : Result A Fault) (f : A → Result B Fault) (d : Fault) → (r >>= f) ≡ Err d
    → (r ≡ Err d) ⊎ ((x : A) × (r ≡ Ok x) × (f x ≡ Err d))
bind_err (Ok x) f d e = inr (x, refl, e)
bind_err (Err c) f d e = inl cc

pub want_ok : {B : Type 0} (b : Bool) (cause : Cause) (offset : ℕ) (f : Unit {0} → Result B Fault) (y : B)
    → (want b cause offset >>= f) ≡ Ok y → (b ≡ true) × (f tt ≡ Ok y)
want_ok true cause offset f y e = (refl, e)
want_ok false cause offset f y e = absurd cc

pub want_err : {B : Type 0} (b : Bool) (cause : Cause) (offset : ℕ) (f : Unit {0} → Result B Fault) (d : Fault)
    → (want b cause offset >>= f) ≡ Err d → (d.offset ≡ offset) ⊎ (f tt ≡ Err d)
want_err true cause offset f d e = inr e
want_err false cause offset f d e = let same : fault cause offset ≡ d = cc in inl (ap (λ (x : Fault). x.offset) (sym same))

-- a test that refuses at once, or lets the rest go on
pub cond_ok : {A E : Type 0} (b : Bool) (r : E) (x : Result A E) (y : A) → cond b (Err r) x ≡ Ok y → (b ≡ false) × (x ≡ Ok y)
cond_ok true r x y e = absurd (let no = e in cc)
cond_ok false r x y e = (refl, e)

pub cond_err : {A E : Type 0} (b : Bool) (r q : E) (x : Result A E) → cond b (Err r) x ≡ Err q
    → ((b ≡ true) × (r ≡ q)) ⊎ ((b ≡ false) × (x ≡ Err q))
cond_err true r q x e = let same : r ≡ q = cc in inl (refl, same)
cond_err false r q x e = inr (refl, e)

pub guard_ok : {A : Type 0} (b : Bool) (d : Fault) (x y : A) → cond b (Err d) (Ok x) ≡ Ok y → (b ≡ false) × (x ≡ y)
guard_ok true d x y e = absurd cc
guard_ok false d x y e = (refl, cc)

pub guard_err : {A : Type 0} (b : Bool) (d c : Fault) (x : A) → cond b (Err d) (Ok x) ≡ Err c → d ≡ c
guard_err true d c x e = cc
guard_err false d c x e = absurd cc
