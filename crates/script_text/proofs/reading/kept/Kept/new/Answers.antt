use Rattle.std.proofs.Common.{refl}
use Rattle.script_text.specs.Code.Keeping.{kept_len}
use Rattle.script_text.proofs.reading.kept.Kept.new.Goals as goal

pub invariant_of-result : goal.invariant_of-result
unfolding kept_len
invariant_of-result c = rw (c.new.ensures.items, c.new-2.ensures.items) refl
