-- Which of the first messages each site is known to have: to deliver them again, among many, would do nothing.
use Rattle.std.specs.Prelude.{◌≡◌, ℕ, ◌≤◌, Bool, true, List, [], ◌∷◌, Contains, length, take, if◌then◌else◌}
use Rattle.context_diff.specs.Operations.{OpData}
use Rattle.cot_site.specs.States.{State, IsSettled}
use Rattle.cot_site.specs.Verdicts.{is_repeat}

-- the site has the operation, and none of those that wait is ready there
abbrev pub Has : State → OpData → Type 0
Has s o = (is_repeat s.history o ≡ true) × IsSettled s

-- the site has each of these operations
abbrev pub HasAll : State → List OpData → Type 0
HasAll s os = (o : OpData) → Contains os o → Has s o

-- each site has so many of the first messages
abbrev pub AreKnown : List State → List ℕ → List OpData → Type 0
AreKnown [] [] ms = Unit {0}
AreKnown [] (n ∷ ns) ms = ⊥
AreKnown (s ∷ ss) [] ms = ⊥
AreKnown (s ∷ ss) (n ∷ ns) ms = (n ≤ length ms) × HasAll s (take n ms) × AreKnown ss ns ms

-- of so many first messages, how many a site is known to have after an event that was done, or not: none of them, out of memory
abbrev pub still_known : Bool → ℕ → ℕ
still_known done known = if done then known else 0
