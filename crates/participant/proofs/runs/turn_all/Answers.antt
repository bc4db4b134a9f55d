use Rattle.std.proofs.Common.{◌≡◌, ℕ, ◌-◌, ◌<◌, ◌≤◌, length, map, reverse, take, ap, arith}
use Rattle.std.specs.Prelude.{Err}
use Rattle.cot_site.specs.Sites.{state_of}
use Rattle.cot_site.proofs.CallerLemmas.{later_on}
use Rattle.participant.specs.Reached.{at}
use Rattle.participant.specs.Runs.{begun, progress, Progress}
use Rattle.participant.specs.Code.Running.{turning}
use Rattle.participant.proofs.EditRuns.{leads_more, leads_stop, leads_end, turns_next}
use Rattle.participant.proofs.runs.turn_all.Goals as goal

pub loop-left-preserved : goal.loop-left-preserved
loop-left-preserved c =
    let f = turning c.args.redo in
    let names = c.args.names.now in
    let left = c.loop-left.left in
    let first : Progress = begun (at c.args.site.now c.args.released.now.items) in
    let now : Progress = progress c.loop-left.site c.loop-left.released.items c.loop-left.made in
    let next : Progress = progress c.step.new.site c.step.new.released.items c.step.new.made in
    let some : 0 < left = omega arith in
    let within : left ≤ length names = omega (arith, c.loop-left.invariant.1) in
    let turns =
    turns_next f names left c.index-names-left.result c.turning.result some
    within c.index-names-left.is c.turning.ensures in (
      leads_more (map f (reverse names)) first c.turning.result (map f (reverse (take left names)))
          (map f (reverse (take (left - 1) names))) now next
          c.loop-left.invariant.0 turns c.in-Ok.ensures.next,
      omega (arith, some, c.loop-left.invariant.1, c.step.ensures.one),
      c.step.ensures.count,
      λ was. c.step.ensures.settled (c.loop-left.invariant.3 was) (λ half. cc),
      later_on (state_of c.args.site.now) (state_of c.loop-left.site) (state_of c.step.new.site)
          c.loop-left.invariant.4 c.step.ensures.later,
    )

pub returns-in-Err-clause-run : goal.returns-in-Err-clause-run
returns-in-Err-clause-run c =
    let f = turning c.args.redo in
    let names = c.args.names.now in
    let left = c.loop-left.left in
    let first : Progress = begun (at c.args.site.now c.args.released.now.items) in
    let now : Progress = progress c.loop-left.site c.loop-left.released.items c.loop-left.made in
    let next : Progress = progress c.step.new.site c.step.new.released.items c.step.new.made in
    let some : 0 < left = omega arith in
    let within : left ≤ length names = omega (arith, c.loop-left.invariant.1) in
    let turns =
    turns_next f names left c.index-names-left.result c.turning.result some
    within c.index-names-left.is c.turning.ensures in
    leads_stop (map f (reverse names)) first c.turning.result (map f (reverse (take left names)))
    (map f (reverse (take (left - 1) names))) now (Err c.in-Err.why) next
    c.loop-left.invariant.0 turns c.in-Err.ensures.stop

pub returns-clause-run : goal.returns-clause-run
returns-clause-run c =
    let f = turning c.args.redo in
    let names = c.args.names.now in
    let none : c.loop-left.left ≡ 0 = omega arith in
    let first : Progress = begun (at c.args.site.now c.args.released.now.items) in
    let now : Progress = progress c.loop-left.site c.loop-left.released.items c.loop-left.made in
    leads_end (map f (reverse names)) first (map f (reverse (take c.loop-left.left names))) now c.loop-left.invariant.0
    (ap (λ (i : ℕ). map f (reverse (take i names))) none)
