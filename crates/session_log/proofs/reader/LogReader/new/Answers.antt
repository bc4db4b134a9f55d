use Rattle.std.proofs.Common.{ap}
use Rattle.wire_codec.specs.StreamData.{StreamData}
use Rattle.cot_site.specs.Sites.{state_of}
use Rattle.session_log.proofs.On.{new_begins}
use Rattle.session_log.proofs.reader.LogReader.new.Goals as goal

pub returns-clause-load_on : goal.returns-clause-load_on
returns-clause-load_on c =
    let t = c.in_ok-new.field-0 in
    new_begins c.args.site c.in_ok-frames.frames.version c.in_ok-frames.frames.stream.left (state_of t.site) t.refused
    (ap (λ (s : StreamData). s.left) c.in_ok-frames.ensures.1) c.in_ok-new.ensures.state c.in_ok-new.ensures.refused
