use Rattle.std.proofs.Common.{◌≡◌, ◌+◌, ◌-◌, ◌≤◌, sym, subst, ◌∙◌, true≢false, arith}
use Rattle.std.specs.Prelude.{⊤, Ok, Result}
use Rattle.cot_site.specs.Sites.{state_of}
use Rattle.cot_site.proofs.CallerLemmas.{later_on}
use Rattle.participant.specs.declared.edits.Stopped.{Stopped}
use Rattle.participant.specs.Reached.{at}
use Rattle.participant.specs.Runs.{begun, progress, Progress, Runs}
use Rattle.site_ranges.specs.Originals.{originals_at}
use Rattle.site_ranges.specs.Code.Turns.{turns}
use Rattle.site_ranges.proofs.Turning.{turned_one, turned_in_part, turned_none, goes_on, later_same}
use Rattle.site_ranges.proofs.turns.turn_range.Goals as goal

pub loop-left-init : goal.loop-left-init
loop-left-init c = record {
  run =
      turned_none c.args.redo c.args.site.now.history (c.args.from + c.args.count) (c.args.count - c.args.count)
      (begun (at c.args.site.now c.args.released.now.items)) (omega arith);
  few = omega arith;
  settled = λ was. was;
  later = later_same (state_of c.args.site.now);
}

pub loop-left-preserved : goal.loop-left-preserved
loop-left-preserved c =
    let h = c.args.site.now.history in
    let left = c.loop-left.left in
    let inv = c.loop-left.invariant in
    let p : Progress = begun (at c.args.site.now c.args.released.now.items) in
    let q : Progress = progress c.turn_at-run.new.site c.turn_at-run.new.released.items (c.loop-left.made + c.turn_at-run.result.made) in
    let few : left ≤ c.args.count = omega (arith, inv.few) in
    let went = turned_one c.args.redo h c.loop-left.site.history c.args.from left c.args.count c.loop-left.made c.turn_at-run.result.made p
    (at c.loop-left.site c.loop-left.released.items) (at c.turn_at-run.new.site c.turn_at-run.new.released.items) c.turn_at-run.result.end
    inv.later.history c.requires c.loop-left-test.true few inv.run c.turn_at-run.ensures.run in
    let ended : c.turn_at-run.result.end ≡ Ok tt =
    goes_on c.turn_at-run.result.end (λ e. true≢false (sym e ∙ sym c.if-is_err.ensures.value)) in
    record {
      run =
          subst (λ (end : Result ⊤ Stopped).
          Runs (turns c.args.redo (originals_at h (c.args.from + (left - 1)) (c.args.count - (left - 1)))) p end q) ended went;
      few = omega (arith, inv.few, c.turn_at-run.ensures.within, c.loop-left-test.true);
      settled = λ was. c.turn_at-run.ensures.settled (inv.settled was) (λ half. cc);
      later = later_on (state_of c.args.site.now) (state_of c.loop-left.site) (state_of c.turn_at-run.new.site) inv.later
          c.turn_at-run.ensures.later;
    }

pub returns-then-is_err-clause-run : goal.returns-then-is_err-clause-run
returns-then-is_err-clause-run c =
    let h = c.args.site.now.history in
    let left = c.loop-left.left in
    let inv = c.loop-left.invariant in
    let p : Progress = begun (at c.args.site.now c.args.released.now.items) in
    let q : Progress = progress c.turn_at-run.new.site c.turn_at-run.new.released.items (c.loop-left.made + c.turn_at-run.result.made) in
    let few : left ≤ c.args.count = omega (arith, inv.few) in
    let less : left - 1 ≤ c.args.count = omega (arith, few) in
    let went = turned_one c.args.redo h c.loop-left.site.history c.args.from left c.args.count c.loop-left.made c.turn_at-run.result.made p
    (at c.loop-left.site c.loop-left.released.items) (at c.turn_at-run.new.site c.turn_at-run.new.released.items) c.turn_at-run.result.end
    inv.later.history c.requires c.loop-left-test.true few inv.run c.turn_at-run.ensures.run in
    turned_in_part c.args.redo h c.args.from (left - 1) c.args.count p q c.turn_at-run.result.end less (sym c.if-is_err.ensures.value) went
