use Rattle.std.proofs.Common.{◌≡◌, ℕ, ◌<◌, ◌≤◌, get_or}
use Rattle.std.specs.Prelude.{IsTrue}
use Rattle.context_vector.proofs.vector.rising.are_enough.Given as goal

-- if the answer is yes so far, none of the counts before this place is short
abbrev pub invariant-loop-i : goal.invariant-loop-i
invariant-loop-i l =
    IsTrue l.enough → (j : ℕ) (d : ℕ × ℕ) → j < l.i
    → ((get_or l.theirs j d).0 ≡ (get_or l.mine j d).0) × ((get_or l.theirs j d).1 ≤ (get_or l.mine j d).1)
