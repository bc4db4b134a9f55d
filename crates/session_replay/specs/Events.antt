-- Events: a line of a script as a list of what happens at its sites, each with the releases that follow.
use Rattle.std.specs.Prelude.{ℕ, Bool, List, [], ◌∷◌}
use Rattle.context_diff.specs.Operations.{OpData}
use Rattle.session_replay.specs.Steps.{Step, last_of, and_then}
use Rattle.session_replay.specs.Sessions.{SessionData, opened, made, given}
use Rattle.session_replay.specs.LineSteps.{told}

-- a local operation at a site; a delivery to a site, alone or among many; or what else a line may do at once: it is only
-- told, or the sites are made
pub data Event : Type 0 where
  Making : ℕ → OpData → Event
  Giving : Bool → ℕ → OpData → Event
  Telling : List ℕ → Event
  Opening : ℕ → Event

-- its steps: that of the event, and those of the releases that follow
abbrev pub steps_of : Event → SessionData → List (Step SessionData)
steps_of (Making i o) d = made i o d
steps_of (Giving many i o) d = given many i o d
steps_of (Telling w) d = told w d
steps_of (Opening n) d = told [] (opened n)

-- the session after the event, once its releases are done
abbrev pub after_event : Event → SessionData → SessionData
after_event v d = last_of d (steps_of v d)

-- the steps of events one after the other
unfoldable pub all_steps : List Event → SessionData → List (Step SessionData)
all_steps [] d = []
all_steps (v ∷ vs) d = and_then d (steps_of v d) (all_steps vs)

-- an event, with the session that it meets
pub record Moment : Type 0 where
  pub before : SessionData
  pub event : Event

-- the session that it leaves
abbrev pub after_moment : Moment → SessionData
after_moment m = after_event m.event m.before

-- events one after the other, each with the session that the one before it leaves
unfoldable pub moments : List Event → SessionData → List Moment
moments [] d = []
moments (v ∷ vs) d = record { before = d; event = v } ∷ moments vs (after_event v d)
