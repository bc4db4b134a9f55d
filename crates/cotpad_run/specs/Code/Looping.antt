-- Two exchanges in a row, as they are done.
use Rattle.std.specs.Prelude.{◌⊎◌, ℕ, [], ◌∷◌, Result, Ok, Err}
use Rattle.outside_io.specs.Ends.{End}
use Rattle.cot_site.specs.States.{State}
use Rattle.site_node.specs.declared.node.Node.{Node}
use Rattle.site_node.specs.Pairs.{IsLooped, IsUnlooped}
use Rattle.log_replies.specs.declared.status.Status.{Status}
use Rattle.log_replies.specs.Outside.{Outside}
use Rattle.cotpad_run.specs.Made.{IsMade}
use Rattle.cotpad_run.specs.Generating.{alike}
use Rattle.cotpad_run.specs.Looping.{loop_text}
use Rattle.cotpad_run.specs.Code.Stopping.{IsStopTold}

-- the server, whose state was `s`, and the joiner, whose state was `j`, exchanged twice, and are left as `t` and `k`
pub record AreBothLooped (s t j k : State) (once twice : ℕ × ℕ) (old new : ℕ → End) : Type 0 where
  pub server : State
  pub joiner : State
  pub between : ℕ → End
  pub first : IsLooped s server j joiner once old between
  pub second : IsLooped server t joiner k twice between new

-- the first exchange went to its end, and the second one stopped
pub record IsLeftMidway (s t j k : State) (why : Node) (old new : ℕ → End) : Type 0 where
  pub server : State
  pub joiner : State
  pub once : ℕ × ℕ
  pub between : ℕ → End
  pub first : IsLooped s server j joiner once old between
  pub second : IsUnlooped server t joiner k why between new

-- one of the exchanges stopped for this reason
abbrev pub IsLeftAfter : State → State → State → State → Node → (ℕ → End) → (ℕ → End) → Type 0
IsLeftAfter s t j k why old new = IsUnlooped s t j k why old new ⊎ IsLeftMidway s t j k why old new

-- what is answered after both exchanges: the summary is written, or one of them stopped
abbrev pub IsLoopEnded : State → State → Result ((ℕ × ℕ) × (ℕ × ℕ)) Node → Outside → Outside → Status → Type 0
IsLoopEnded server joiner (Ok counts) old new status =
    IsMade (loop_text counts.0 counts.1 (alike server (server ∷ joiner ∷ []))) old new status
IsLoopEnded server joiner (Err why) old new status = IsStopTold why old new status
