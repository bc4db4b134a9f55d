use Rattle.wire_codec.proofs.Growth.{bad_stays}
use Rattle.wire_codec.proofs.Fronts.{never_a_frame}
use Rattle.wire_codec.proofs.laws.a_fault_stays.Goals as goal

pub returns : goal.returns
returns c = record { stays = bad_stays; never = never_a_frame }
