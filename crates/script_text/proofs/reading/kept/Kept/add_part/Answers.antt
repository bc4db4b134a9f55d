use Rattle.script_text.proofs.KeptLines.{part_kept}
use Rattle.script_text.proofs.reading.kept.Kept.add_part.Goals as goal

pub invariant_of-self-2 : goal.invariant_of-self-2
invariant_of-self-2 c =
    rw (c.in_ok-extend_from_slice.ensures.ok, c.first.ensures, c.kept_of-room.ensures)
    (part_kept (record { bytes = c.self.inside.bytes.items; ended = c.self.inside.ended.items; last = c.self.inside.last }) c.args.part.now
    c.self.invariant)
