-- The law of pieces: what a text is cut into.
use Rattle.std.specs.Prelude.{⊤, ◌≡◌, ℕ, ◌≤◌, List, [], ◌∷◌, ◌++◌, length}
use Rattle.op_name.specs.declared.limits.TheConstants.{LETTERS}
use Rattle.participant.specs.Runs.{pieces}

-- lists one after the other
unfoldable pub joined : List (List ℕ) → List ℕ
joined [] = []
joined (p ∷ ps) = p ++ joined ps

-- each of these but the last has LETTERS elements, and the last 1 to LETTERS
unfoldable pub AreFull : List (List ℕ) → Type 0
AreFull [] = ⊤
AreFull (p ∷ []) = (1 ≤ length p) × (length p ≤ LETTERS)
AreFull (p ∷ (q ∷ ps)) = (length p ≡ LETTERS) × AreFull (q ∷ ps)

-- the pieces of a text, one after the other, are the text, and each but the last is as long as the text of an insert may be
abbrev pub PiecesAreTheText : Type 0
PiecesAreTheText = (text : List ℕ) → (joined (pieces text) ≡ text) × AreFull (pieces text)
