use Rattle.std.proofs.Common.{map}
use Rattle.cot_site.specs.Sites.{state_of}
use Rattle.session_replay.specs.Code.Drawing.{counts_in}
use Rattle.session_replay.specs.Code.Messages.{operations_of}
use Rattle.session_replay.proofs.Tallies.{IsTally}
use Rattle.session_replay.proofs.generated.tally_of.Given as goal

abbrev pub invariant-loop-message : goal.invariant-loop-message
invariant-loop-message l = IsTally (operations_of (map state_of l.sites) l.messages) l.message-index (counts_in l.counted)
