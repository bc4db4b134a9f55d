use Rattle.std.proofs.Common.{Some, sym, ap, subst, ◌∙◌}
use Rattle.std.specs.Prelude.{slice_get}
use Rattle.context_vector.specs.Contexts.{AreEntries}
use Rattle.context_vector.specs.Code.Readers.{left_of}
use Rattle.context_vector.proofs.WordReading.{BeginsAt, begins_at}
use Rattle.context_vector.proofs.vector.names.Names.first.Goals as goal
use Rattle.context_vector.proofs.vector.names.Names.first.Goals.{Else-not-to_first}

-- what is left begins at the place that was found
found : (c : Else-not-to_first) → let word = c.to_first.new.word in
    BeginsAt c.self.inside.high.now word.key word.place word.digits (left_of c.to_first.new.words)
found c =
    let hs = c.self.inside.high.now in
    begins_at hs _ _ _ (left_of c.to_first.new.words) c.to_first.ensures.word (c.to_first.ensures.first c.if-not-to_first.false)
    (subst AreEntries (sym (c.to_first.ensures.same hs)) c.self.invariant.3)

pub first-requires-clause-name : goal.first-requires-clause-name
first-requires-clause-name c = (found (goal.at.first-requires-clause-name c).Else-not-to_first).name

pub first-requires-clause-most : goal.first-requires-clause-most
first-requires-clause-most c = (found (goal.at.first-requires-clause-most c).Else-not-to_first).most

pub returns-clause-first : goal.returns-clause-first
returns-clause-first c =
    let whole = (found (goal.at.returns-clause-first c).Else-not-to_first).whole in
    let was = sym c.self.view_is ∙ (sym (c.to_first.ensures.same c.self.inside.high.now) ∙ whole) in
    (λ j. Some (c.first.ensures.name j, c.first.ensures.generation j)) ∙ ap (λ es. slice_get es 0) (sym was)
