use Rattle.wire_codec.proofs.Judgement.{judge_again}
use Rattle.wire_codec.proofs.laws.judgement_is_the_frames.Goals as goal

pub returns : goal.returns
returns c = record { again = judge_again }
