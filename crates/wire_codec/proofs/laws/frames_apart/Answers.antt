use Rattle.wire_codec.proofs.Judgement.{frame_once, frame_no_prefix}
use Rattle.wire_codec.proofs.laws.frames_apart.Goals as goal

pub returns-clause-same : goal.returns-clause-same
returns-clause-same c = frame_once

pub returns-clause-no_prefix : goal.returns-clause-no_prefix
returns-clause-no_prefix c = frame_no_prefix
