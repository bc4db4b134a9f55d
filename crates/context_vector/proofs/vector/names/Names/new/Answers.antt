use Rattle.std.proofs.Common.{sym, subst}
use Rattle.context_vector.specs.Contexts.{AreEntries}
use Rattle.context_vector.specs.Code.Readers.{left_of}
use Rattle.context_vector.proofs.WordReading.{left_done, is_done}
use Rattle.context_vector.proofs.vector.names.Names.new.Goals as goal

pub invariant_of-result : goal.invariant_of-result
invariant_of-result c =
    let word = c.done.result in
    let whole = left_done c.args.high.now word.key word.place word.digits (left_of c.args.words) c.done.ensures.digits in (
      is_done word.place word.digits c.done.ensures.place c.done.ensures.digits,
      c.requires.words,
      c.requires.high,
      subst AreEntries (sym whole) c.requires.entries,
    )

pub returns : goal.returns
returns c = left_done c.args.high.now _ _ _ (left_of c.args.words) c.done.ensures.digits
