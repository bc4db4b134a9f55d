use Rattle.std.proofs.Common.{List, ap, length, arith}
use Rattle.std.proofs.lemmas.Option.{slice_get_within}
use Rattle.context_diff.specs.Operations.{OpData}
use Rattle.context_diff.specs.Ops.{data_of}
use Rattle.session_replay.proofs.sites.Sites.deliver_copy.Goals as goal

pub note-requires-clause-message : goal.note-requires-clause-message
note-requires-clause-message c =
    let within = slice_get_within c.args.self.now.messages c.args.message (data_of c.args.op.now) c.requires.message in
    omega (arith, within, ap (λ (ms : List OpData). length ms) c.deliver.ensures.messages)
