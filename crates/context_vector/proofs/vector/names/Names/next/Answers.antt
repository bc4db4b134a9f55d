use Rattle.std.proofs.Common.{◌≡◌, ◌+◌, ◌/◌, Some, drop, sym, ap, subst, ◌∙◌}
use Rattle.std.specs.Prelude.{slice_get}
use Rattle.context_vector.specs.Contexts.{AreEntries}
use Rattle.context_vector.specs.Code.Readers.{left_of}
use Rattle.context_vector.specs.Code.Words.{left_in, IsLeft}
use Rattle.context_vector.proofs.WordReading.{BeginsAt, begins_at}
use Rattle.context_vector.proofs.vector.names.Names.next.Goals as goal
use Rattle.context_vector.proofs.vector.names.Names.next.Goals.{Else-not-to_first, After-step}

-- what is left begins at the place that was found
found : (c : Else-not-to_first) → let word = c.to_first.new.word in
    BeginsAt c.self.inside.high.now word.key word.place word.digits (left_of c.to_first.new.words)
found c =
    let hs = c.self.inside.high.now in
    begins_at hs _ _ _ (left_of c.to_first.new.words) c.to_first.ensures.word (c.to_first.ensures.first c.if-not-to_first.false)
    (subst AreEntries (sym (c.to_first.ensures.same hs)) c.self.invariant.3)

-- and goes on behind it
behind : (c : After-step) → let word = c.to_first.new.word in let now = c.step.new.self in
    left_in c.self.inside.high.now now.key now.place now.digits (left_of c.to_first.new.words)
    ≡ left_in c.self.inside.high.now word.key (word.place + 1) (word.digits / 16) (left_of c.to_first.new.words)
behind c =
    let ws = left_of c.to_first.new.words in
    λ j. left_in c.self.inside.high.now (c.step.ensures.key j) (c.step.ensures.place j) (c.step.ensures.digits j) ws

pub first-first-requires-clause-name : goal.first-first-requires-clause-name
first-first-requires-clause-name c = (found (goal.at.first-first-requires-clause-name c).Else-not-to_first).name

pub first-first-requires-clause-most : goal.first-first-requires-clause-most
first-first-requires-clause-most c = (found (goal.at.first-first-requires-clause-most c).Else-not-to_first).most

pub invariant_of-self-2 : goal.invariant_of-self-2
invariant_of-self-2 c =
    let at = found (goal.at.invariant_of-self-2 c).Else-not-to_first in
    let now = c.step.new.self in
    let word = c.to_first.new.word in (
      subst (λ i. IsLeft i now.digits) (sym c.step.ensures.place) (subst (IsLeft (word.place + 1)) (sym c.step.ensures.digits) at.next),
      c.to_first.ensures.words,
      c.self.invariant.2,
      subst AreEntries (sym (behind (goal.at.invariant_of-self-2 c).After-step)) at.rest,
    )

pub returns-clause-first : goal.returns-clause-first
returns-clause-first c =
    let whole = (found (goal.at.returns-clause-first c).Else-not-to_first).whole in
    let was = sym c.self.view_is ∙ (sym (c.to_first.ensures.same c.self.inside.high.now) ∙ whole) in
    (λ j. Some (c.first-first.ensures.name j, c.first-first.ensures.generation j)) ∙ ap (λ es. slice_get es 0) (sym was)

pub returns-clause-rest : goal.returns-clause-rest
returns-clause-rest c =
    let whole = (found (goal.at.returns-clause-rest c).Else-not-to_first).whole in
    let was = sym c.self.view_is ∙ (sym (c.to_first.ensures.same c.self.inside.high.now) ∙ whole) in
    behind (goal.at.returns-clause-rest c).After-step ∙ ap (drop 1) (sym was)
