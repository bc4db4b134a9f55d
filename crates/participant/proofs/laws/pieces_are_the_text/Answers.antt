use Rattle.std.proofs.Common.{length, arith}
use Rattle.participant.proofs.Pieces.{pieces_text}
use Rattle.participant.proofs.laws.pieces_are_the_text.Goals as goal

pub returns : goal.returns
returns c = λ text. pieces_text (length text) text (omega arith)
