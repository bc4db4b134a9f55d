use Rattle.std.proofs.lemmas.Result.{on_ok_weaker}
use Rattle.context_diff.specs.Ops.{data_of}
use Rattle.cot_site.specs.Sites.{state_of}
use Rattle.session_log.proofs.Steps.{takes_next}
use Rattle.session_log.proofs.intake.Intake.take_next.Goals as goal

pub returns : goal.returns
returns c =
    let s = state_of c.args.self.now.site in
    let t = state_of c.take_in-taken.new.site in
    on_ok_weaker c.keep.result
    (λ kept. takes_next s t c.args.placed.offset (data_of c.args.placed.op) c.take_in-taken.result c.keep.new.refused
    c.take_in-taken.ensures.taken c.take_in-taken.ensures.state c.take_in-taken.ensures.refused kept)
    c.keep.ensures
