use Rattle.std.proofs.Common.{◌≡◌, ℕ, List, length}
use Rattle.cot_site.specs.Sites.{state_of}
use Rattle.session_log.specs.Readers.{HasTaken}
use Rattle.session_log.specs.ReaderData.{IsCounted}
use Rattle.session_log.proofs.next_frame.take_frames.Given as goal

-- the bytes are counted, the version stays, and the frames so far were taken
abbrev pub invariant-loop-placed : goal.invariant-loop-placed
invariant-loop-placed l =
    IsCounted l.fed l.frames
    × (l.frames.version ≡ l.fn.frames.version)
    × ((site : ℕ) (all : List ℕ) → l.fed ≡ length all
    → HasTaken site l.fn.frames.version all l.fn.frames.left (state_of l.fn.intake.site) l.fn.intake.refused
    → HasTaken site l.frames.version all l.frames.left (state_of l.intake.site) l.intake.refused)

abbrev pub decreases-loop-placed : goal.decreases-loop-placed
decreases-loop-placed l = length l.frames.left
