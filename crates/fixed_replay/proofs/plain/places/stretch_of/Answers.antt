use Rattle.std.proofs.Common.{◌+◌, map, drop, ap, ◌∙◌, arith}
use Rattle.context_diff.specs.Code.GapEnds.{gap_between}
use Rattle.context_diff.specs.Replays.{narrowed}
use Rattle.fixed_replay.specs.Code.PlainCells.{insertion_of}
use Rattle.fixed_replay.proofs.Stepwise.{gap_of_starts, start_within, narrowed_more, narrowed_end}
use Rattle.fixed_replay.proofs.plain.places.stretch_of.Goals as goal

pub loop-other-init : goal.loop-other-init
loop-other-init c =
    let l = c.left_neighbour-left.result in
    let f = c.first_known.result in
    record {
      stretch =
          gap_of_starts c.args.inserted.now (map insertion_of c.args.earlier.now) c.args.cells.now l f c.left_neighbour-left.ensures.place
          c.first_known.ensures.place;
      rising = omega arith;
      within = start_within c.args.cells.now l f c.left_neighbour-left.ensures.within c.first_known.ensures.within;
    }

pub loop-other-preserved : goal.loop-other-preserved
loop-other-preserved c =
    let o = insertion_of c.args.inserted.now in
    let earlier = c.args.earlier.now in
    let i = c.loop-other.other-index in
    let g = gap_between c.args.cells.now c.loop-other.stretch.left c.loop-other.stretch.right in
    record {
      stretch = c.loop-other.invariant.stretch
          ∙ (narrowed_more o earlier i c.other-item.result g c.loop-other-test.true c.other-item.is
          ∙ ap (narrowed o (map insertion_of (drop (i + 1) earlier))) c.narrowed_by-stretch.ensures.stretch);
      rising = c.narrowed_by-stretch.ensures.rising;
      within = c.narrowed_by-stretch.ensures.within;
    }

pub returns-clause-stretch : goal.returns-clause-stretch
returns-clause-stretch c =
    let g = gap_between c.args.cells.now c.loop-other.stretch.left c.loop-other.stretch.right in
    c.loop-other.invariant.stretch ∙ narrowed_end (insertion_of c.args.inserted.now) c.args.earlier.now c.loop-other.other-index g
    c.loop-other-test.false
