use Rattle.std.proofs.Common.{◌≡◌, ℕ, length}
use Rattle.std.specs.Prelude.{slice_get}
use Rattle.context_vector.specs.Contexts.{AreCounts}
use Rattle.session_replay.specs.Generating.{names_in}
use Rattle.session_replay.proofs.sites.drawing.named_at.Given as goal

-- the name is still to be found among those of the sites that are left
abbrev pub invariant-loop-site : goal.invariant-loop-site
invariant-loop-site l = (low : ℕ) × AreCounts low l.sites × (slice_get (names_in l.fn.counts) l.place ≡ slice_get (names_in l.sites) l.left)

abbrev pub decreases-loop-site : goal.decreases-loop-site
decreases-loop-site l = length l.sites
