-- How many elements pass a test, and how many of one kind stand before each element of another; lists in rising order.
use Rattle.std.specs.Prelude.{◌≡◌, ℕ, ◌+◌, Bool, true, ◌||◌, List, [], ◌∷◌, if◌then◌else◌}
use Rattle.ttf_form.specs.Families.{IsIn}

-- each element is less than all that stand after it
abbrev pub IsRising : {A : Type 0} → (A → A → Bool) → List A → Type 0
IsRising lt [] = Unit {0}
IsRising {A} lt (x ∷ xs) = ((z : A) → IsIn z xs → lt x z ≡ true) × IsRising lt xs

-- how many elements pass the test
abbrev pub count : {A : Type 0} → (A → Bool) → List A → ℕ
count p [] = 0
count p (c ∷ cs) = (if p c then 1 else 0) + count p cs

-- one or the other test passes
abbrev pub either : {A : Type 0} → (A → Bool) → (A → Bool) → A → Bool
either p q c = p c || q c

-- each element that passes x has q elements that pass p before it, of which k are in front of the list
abbrev pub EachAt : {A : Type 0} → (A → Bool) → (A → Bool) → ℕ → ℕ → List A → Type 0
EachAt p x q k [] = Unit {0}
EachAt p x q k (c ∷ cs) = (x c ≡ true → k ≡ q) × EachAt p x q ((if p c then 1 else 0) + k) cs
