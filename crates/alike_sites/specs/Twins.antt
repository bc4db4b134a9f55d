-- States of two sites of one number whose histories begin differently, and go on with the same operations.
use Rattle.std.specs.Prelude.{◌≡◌, List, ◌++◌, Option, Some, None}
use Rattle.context_diff.specs.Operations.{OpData}
use Rattle.context_diff.specs.Histories.{IsValid}
use Rattle.flat_history.specs.Alike.{AreAlike, AreMadeAfter}
use Rattle.cot_site.specs.States.{State, Released}
use Rattle.cot_site.specs.Releases.{IsSound}

-- the history of the one state begins with h and that of the other with k; then both have the same operations, and the same wait; all of
-- these are new after h, and originals among them were made after all of h
pub record AreTwins (h k : List OpData) (s t : State) : Type 0 where
  pub later : List OpData
  pub number : s.number ≡ t.number
  pub history : s.history ≡ h ++ later
  pub other : t.history ≡ k ++ later
  pub waiting : s.waiting ≡ t.waiting
  pub made : AreMadeAfter h later
  pub held : AreMadeAfter h s.waiting

-- two sites: their histories begin with valid ones that are alike, the first state is sound, and they are twins
pub record AreAlikeSites (h k : List OpData) (s t : State) : Type 0 where
  pub history : IsValid h
  pub other : IsValid k
  pub alike : AreAlike h k
  pub sound : IsSound s
  pub twins : AreTwins h k s t

-- neither site releases an operation, or both release the same one with the same verdict and are alike after it
abbrev pub IsOneRelease : List OpData → List OpData → Option Released → Option Released → Type 0
IsOneRelease h k None None = Unit {0}
IsOneRelease h k None (Some q) = ⊥
IsOneRelease h k (Some r) None = ⊥
IsOneRelease h k (Some r) (Some q) = (r.op ≡ q.op) × (r.verdict ≡ q.verdict) × AreAlikeSites h k r.after q.after
