use Rattle.std.proofs.Common.{◌+◌, ap, sym, ◌∙◌}
use Rattle.context_diff.specs.Code.GapEnds.{gap_between}
use Rattle.fixed_replay.specs.Code.PlainCells.{insertion_of}
use Rattle.fixed_replay.proofs.Stepwise.{narrowed_left, narrowed_right, not_narrowed}
use Rattle.fixed_replay.proofs.plain.places.narrowed_by.Goals as goal

pub returns-then-not-has_first-clause-stretch : goal.returns-then-not-has_first-clause-stretch
returns-then-not-has_first-clause-stretch c =
    not_narrowed (insertion_of c.args.inserted.now) (insertion_of c.args.other.now) c.args.cells.now c.args.stretch.left
    c.args.stretch.right
    (sym c.knows.ensures ∙ c.if-knows.false) (sym c.has_first.ensures ∙ c.if-not-has_first.true)

pub returns-then-goes_after-clause-stretch : goal.returns-then-goes_after-clause-stretch
returns-then-goes_after-clause-stretch c =
    let cells = c.args.cells.now in
    narrowed_left (insertion_of c.args.inserted.now) (insertion_of c.args.other.now) cells c.args.stretch.left c.args.stretch.right
    c.requires.rising
    c.requires.within
    (sym c.knows.ensures ∙ c.if-knows.false) (sym c.has_first.ensures ∙ c.if-not-has_first.false)
    (sym c.goes_after.ensures ∙ c.if-goes_after.true)
    ∙ ap (λ n. gap_between cells (c.args.stretch.left + n) c.args.stretch.right) (sym c.past_last.ensures.place)

pub returns-else-goes_after-clause-stretch : goal.returns-else-goes_after-clause-stretch
returns-else-goes_after-clause-stretch c =
    let cells = c.args.cells.now in
    narrowed_right (insertion_of c.args.inserted.now) (insertion_of c.args.other.now) cells c.args.stretch.left c.args.stretch.right
    c.requires.rising
    c.requires.within
    (sym c.knows.ensures ∙ c.if-knows.false) (sym c.has_first.ensures ∙ c.if-not-has_first.false)
    (sym c.goes_after.ensures ∙ c.if-goes_after.false)
    ∙ ap (λ n. gap_between cells c.args.stretch.left (c.args.stretch.left + n)) (sym c.before_first.ensures.place)
