use Rattle.context_diff.specs.Ops.{data_of}
use Rattle.wire_codec.proofs.Sites.{fits_two}
use Rattle.wire_codec.proofs.writing.encode2.Goals as goal

pub encode_in-requires-clause-fits : goal.encode_in-requires-clause-fits
encode_in-requires-clause-fits c = fits_two (data_of c.args.op.now) c.requires
