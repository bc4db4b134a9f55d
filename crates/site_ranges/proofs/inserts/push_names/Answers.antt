use Rattle.std.proofs.Common.{◌≡◌, ◌+◌, ◌-◌, [], ◌∷◌, refl, sym, arith}
use Rattle.std.specs.Prelude.{None}
use Rattle.context_diff.specs.Replays.{shown}
use Rattle.site_ranges.specs.Inserts.{once}
use Rattle.site_ranges.proofs.Appending.{begun, same, more, ended}
use Rattle.site_ranges.proofs.RangeNames.{names_left, names_begin, names_next, names_ended}
use Rattle.site_ranges.proofs.inserts.push_names.Goals as goal

pub loop-step-init : goal.loop-step-init
loop-step-init c =
    let cells = shown c.args.site.now.history in
    let old = c.args.out.now.items in
    let all = names_left cells c.args.place c.args.count None in
    same old all old all old _ (begun old all) (sym (names_begin cells c.args.place c.args.count)) refl

pub loop-step-preserved : goal.loop-step-preserved
loop-step-preserved c =
    let cells = shown c.args.site.now.history in
    let step = c.loop-step.step in
    let last = c.loop-step.last in
    let name = c.in-Some.name in
    more c.args.out.now.items (names_left cells c.args.place c.args.count None) c.loop-step.out.items
    (names_left cells (c.args.place + step) (c.args.count - step) last) c.push_once.new.out.items (once last (name ∷ [])) _
    c.loop-step.invariant (names_next cells c.args.place c.args.count step last name c.loop-step-test.true c.in-Some.ensures.name)
    c.in_ok-push_once-in-Some.ensures.ok

pub returns-clause-ok : goal.returns-clause-ok
returns-clause-ok c =
    let cells = shown c.args.site.now.history in
    let step = c.loop-step.step in
    let none : c.args.count - step ≡ 0 = omega arith in
    ended c.args.out.now.items (names_left cells c.args.place c.args.count None) c.loop-step.out.items _ c.loop-step.invariant
    (names_ended cells (c.args.place + step) (c.args.count - step) c.loop-step.last none)
