-- Edits, as they are done: some of a refused one may be done.
use Rattle.std.specs.Prelude.{⊤, ◌≡◌, ◌++◌, Bool, List, ℕ, Result, Ok, Err}
use Rattle.cot_site.specs.States.{State}
use Rattle.site_answers.specs.declared.local.Local.{Local}
use Rattle.site_answers.specs.declared.local.Local.TheVariants as local
use Rattle.participant.specs.declared.edits.Stopped.{Stopped}
use Rattle.participant.specs.declared.edits.Stopped.TheVariants as stopped
use Rattle.log_replies.specs.Replies.{edit_reply}

-- the edit was done, or refused for the reason that is defined, or memory ran out
abbrev pub IsDone : Result State Local → Result ⊤ Local → State → Type 0
IsDone edited (Ok u) s = edited ≡ Ok s
IsDone edited (Err local.Memory) s = Unit {0}
IsDone edited (Err why) s = edited ≡ Err why

-- why an edit isn't done, by how it stopped: memory may run out among the releases too
abbrev pub reason_of : Stopped → Local
reason_of (stopped.Refused why) = why
reason_of stopped.Unsettled = local.Memory

-- how a run of edits ended, as it is answered
abbrev pub ended : Result ⊤ Stopped → Result ⊤ Local
ended (Ok u) = Ok u
ended (Err why) = Err (reason_of why)

-- the reply of an edit was appended, which refuses it or not
pub record IsEditReply (edited : Result State Local) (old new : List ℕ) (refused : Bool) : Type 0 where
  pub written : new ≡ old ++ (edit_reply edited).written
  pub told : (edit_reply edited).refused ≡ refused
