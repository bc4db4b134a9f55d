use Rattle.wire_codec.proofs.Sites.{fits_two}
use Rattle.wire_codec.proofs.front.scan2.Goals as goal

pub returns-clause-only : goal.returns-clause-only
returns-clause-only c = λ o rest well e. c.scan_in.ensures.only o rest well (fits_two o well) e
