-- Releases one after the other, until no waiting operation is ready.
use Rattle.std.specs.Prelude.{◌≡◌, ℕ, zero, suc, ◌<◌, List, [], ◌∷◌, ◌++◌, Option, Some, None, length, map, take}
use Rattle.op_name.specs.declared.name.TheConstants.{SITES}
use Rattle.context_diff.specs.Operations.{member_of}
use Rattle.context_diff.specs.Histories.{IsValid}
use Rattle.site_answers.specs.declared.release.Release.{Release}
use Rattle.cot_site.specs.States.{State, Released, released, IsSettled}
use Rattle.cot_site.specs.Sites.{AllFormed}

-- what sites keep: the number is one of a site, the history is valid, and all that waits is well formed
pub record IsSound (s : State) : Type 0 where
  pub number : s.number < SITES
  pub history : IsValid s.history
  pub waiting : AllFormed s.waiting

-- a release, if there is one, and those that its state then gives
abbrev pub and_more : (State → List Released) → Option Released → List Released
and_more next None = []
and_more next (Some r) = r ∷ next r.after

-- the releases of a state one after the other, at most n of them
unfoldable pub releases : ℕ → State → List Released
releases zero s = []
releases (suc n) s = and_more (releases n) (released s)

-- all releases of a state: a released operation doesn't wait again, so there are no more than operations that wait
abbrev pub all_releases : State → List Released
all_releases s = releases (length s.waiting) s

-- the state after these releases
unfoldable pub state_after : State → List Released → State
state_after s [] = s
state_after s (r ∷ rs) = state_after r.after rs

-- the state after all releases
abbrev pub settled : State → State
settled s = state_after s (all_releases s)

-- the member of the released operation, with its verdict
abbrev pub release_of : Released → Release
release_of r = record { member = member_of r.op; verdict = r.verdict }

-- a later state of the same site: what was integrated stays so, in its order
pub record IsLater (s t : State) : Type 0 where
  pub number : t.number ≡ s.number
  pub history : take (length s.history) t.history ≡ s.history

-- the first of the releases of a state led to this one, which has a ready operation yet, and are listed at the end
pub record IsPartlySettled (s now : State) (old new : List Release) : Type 0 where
  pub done : List Released
  pub left : List Released
  pub parts : all_releases s ≡ done ++ left
  pub state : now ≡ state_after s done
  pub listed : new ≡ old ++ map release_of done
  pub unsettled : ¬ IsSettled now
