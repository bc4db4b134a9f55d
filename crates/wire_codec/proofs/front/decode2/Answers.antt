use Rattle.wire_codec.proofs.Sites.{fits_two}
use Rattle.wire_codec.proofs.front.decode2.Goals as goal

pub returns-clause-only : goal.returns-clause-only
returns-clause-only c = λ o rest well e. c.decode_in.ensures.only o rest well (fits_two o well) e
