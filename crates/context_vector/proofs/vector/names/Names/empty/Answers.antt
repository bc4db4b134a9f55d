use Rattle.std.proofs.Common.{[], sym, ap, subst, ◌∙◌}
use Rattle.context_vector.specs.Contexts.{AreEntries}
use Rattle.context_vector.specs.Code.Readers.{left_of}
use Rattle.context_vector.specs.Code.Words.{entries_in, AreWords}
use Rattle.context_vector.proofs.WordReading.{left_done, is_done}
use Rattle.context_vector.proofs.vector.names.Names.empty.Goals as goal

pub invariant_of-result : goal.invariant_of-result
invariant_of-result c =
    let word = c.done.result in
    let done = left_done [] word.key word.place word.digits (left_of c.of.result) c.done.ensures.digits in
    let none = done ∙ ap (entries_in []) c.of.ensures in (
      is_done word.place word.digits c.done.ensures.place c.done.ensures.digits,
      subst (AreWords 0) (sym c.of.ensures) tt,
      tt,
      subst AreEntries (sym none) tt,
    )

pub returns : goal.returns
returns c = left_done [] _ _ _ (left_of c.of.result) c.done.ensures.digits ∙ ap (entries_in []) c.of.ensures
