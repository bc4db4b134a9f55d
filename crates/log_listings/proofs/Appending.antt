-- Texts that are appended one after the other, and lists that are gone through element by element.
use Rattle.std.proofs.Common.{◌≡◌, ℕ, ◌+◌, List, [], ◌∷◌, ◌++◌, Some, ap, sym, ◌∙◌, take, append_assoc, append-nil}
use Rattle.std.specs.Prelude.{slice_get, Result, Ok, Err, IfOk, OnOk}
use Rattle.std.proofs.lemmas.List.{take_more}
use Rattle.std.proofs.lemmas.Option.{get_or_from_slice_get, slice_get_within}

-- a text, and then the rest
pub then : {A : Type 0} (start a rest one end : List A) → one ≡ start ++ a → end ≡ one ++ rest → end ≡ start ++ (a ++ rest)
then start a rest one end first more = more ∙ ap (λ t. t ++ rest) first ∙ append_assoc start a rest

-- nothing is appended
pub nothing : {A : Type 0} (start : List A) → start ≡ start ++ []
nothing start = sym (append-nil start)

-- one element more
pub taken_more : {A : Type 0} (xs : List A) (i : ℕ) (x : A) → slice_get xs i ≡ Some x → take (i + 1) xs ≡ take i xs ++ x ∷ []
taken_more {A} xs i x at =
    take_more xs i x (slice_get_within xs i x at) ∙ ap (λ (y : A). take i xs ++ y ∷ []) (get_or_from_slice_get xs i x x at)

-- what follows where a call goes well
pub where_well : {T E P Q : Type 0} (r : Result T E) → (P → Q) → OnOk r P → OnOk r Q
where_well (Ok t) f p = f p
where_well (Err e) f p = tt

-- the same of what holds of the answer
pub where_told : {T E : Type 0} {P Q : T → Type 0} (r : Result T E) → ((t : T) → P t → Q t) → IfOk r P → IfOk r Q
where_told (Ok t) f p = f t p
where_told (Err e) f p = tt
