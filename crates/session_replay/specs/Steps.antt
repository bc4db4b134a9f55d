-- Steps: what happens one after the other, each with what is written for it and the state that it leaves.
use Rattle.std.specs.Prelude.{◌≡◌, ℕ, List, [], ◌∷◌, ◌++◌}

-- one thing that happened: what is written for it, and the state after it
pub record Step (S : Type 0) : Type 0 where
  pub written : List ℕ
  pub after : S

-- the state after the last of these steps, the first state if there are none
unfoldable pub last_of : {S : Type 0} → S → List (Step S) → S
last_of s [] = s
last_of s (e ∷ es) = last_of e.after es

-- all that is written, in order
unfoldable pub written_by : {S : Type 0} → List (Step S) → List ℕ
written_by [] = []
written_by (e ∷ es) = e.written ++ written_by es

-- steps, and after them those that the state then gives
abbrev pub and_then : {S : Type 0} → S → List (Step S) → (S → List (Step S)) → List (Step S)
and_then s es next = es ++ next (last_of s es)

-- the state after the first few of these steps
pub record IsReached {S : Type 0} (s : S) (es : List (Step S)) (reached : S) : Type 0 where
  pub done : List (Step S)
  pub left : List (Step S)
  pub parts : es ≡ done ++ left
  pub state : reached ≡ last_of s done
