use Rattle.script_text.proofs.KeptLines.{end_kept}
use Rattle.script_text.proofs.reading.kept.Kept.end_line.Goals as goal

pub invariant_of-self-2 : goal.invariant_of-self-2
invariant_of-self-2 c =
    rw c.in_ok-push_back.ensures.items
    (end_kept (record { bytes = c.self.inside.bytes.items; ended = c.self.inside.ended.items; last = c.self.inside.last })
    c.self.invariant)
