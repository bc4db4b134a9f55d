use Rattle.wire_codec.proofs.Sites.{fits_two}
use Rattle.wire_codec.proofs.laws.all_fit_two.Goals as goal

pub returns : goal.returns
returns c = record { fits = fits_two }
