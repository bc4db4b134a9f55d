use Rattle.std.proofs.Common.{◌≡◌, ℕ, ◌+◌, ◌-◌, ◌<◌, sym, ap, subst, ◌∙◌, arith}
use Rattle.std.specs.Prelude.{Err}
use Rattle.cot_site.specs.Sites.{state_of}
use Rattle.cot_site.proofs.CallerLemmas.{later_on}
use Rattle.participant.specs.declared.edits.Edit.TheVariants.{Delete}
use Rattle.participant.specs.Reached.{at}
use Rattle.participant.specs.Runs.{deletes, begun, progress, Progress}
use Rattle.participant.proofs.EditRuns.{LeadsTo, leads_more, leads_stop, leads_end, deletes_next, deletes_end, delete_counts}
use Rattle.participant.proofs.runs.delete_all.Goals as goal

pub loop-made-preserved : goal.loop-made-preserved
loop-made-preserved c =
    let v = c.args.place in
    let n = c.args.count in
    let k = c.loop-made.made in
    let within : k < n = omega arith in
    let first : Progress = begun (at c.args.site.now c.args.released.now.items) in
    let now : Progress = progress c.loop-made.site c.loop-made.released.items k in
    let next : Progress = progress c.step.new.site c.step.new.released.items c.step.new.made in
    let counted : c.step.new.made ≡ k + 1 = delete_counts v now next c.in-Ok.ensures.next in
    let more : LeadsTo (deletes v n) first (deletes v (n - (k + 1))) next =
    leads_more (deletes v n) first (Delete v) (deletes v (n - k)) (deletes v (n - (k + 1))) now next
    c.loop-made.invariant.0 (deletes_next v n k within) c.in-Ok.ensures.next in (
      subst (λ (m : ℕ). LeadsTo (deletes v n) first (deletes v (n - m)) next) (sym counted) more,
      omega (arith, counted, within),
      c.step.ensures.count,
      λ was. c.step.ensures.settled (c.loop-made.invariant.3 was) (λ half. cc),
      later_on (state_of c.args.site.now) (state_of c.loop-made.site) (state_of c.step.new.site)
          c.loop-made.invariant.4 c.step.ensures.later,
    )

pub returns-in-Err-clause-run : goal.returns-in-Err-clause-run
returns-in-Err-clause-run c =
    let v = c.args.place in
    let n = c.args.count in
    let k = c.loop-made.made in
    let within : k < n = omega arith in
    let first : Progress = begun (at c.args.site.now c.args.released.now.items) in
    let now : Progress = progress c.loop-made.site c.loop-made.released.items k in
    let next : Progress = progress c.step.new.site c.step.new.released.items c.step.new.made in
    leads_stop (deletes v n) first (Delete v) (deletes v (n - k)) (deletes v (n - (k + 1))) now (Err c.in-Err.why) next
    c.loop-made.invariant.0 (deletes_next v n k within) c.in-Err.ensures.stop

pub returns-clause-run : goal.returns-clause-run
returns-clause-run c =
    let v = c.args.place in
    let n = c.args.count in
    let k = c.loop-made.made in
    let same : k ≡ n = omega arith in
    let first : Progress = begun (at c.args.site.now c.args.released.now.items) in
    let now : Progress = progress c.loop-made.site c.loop-made.released.items k in
    leads_end (deletes v n) first (deletes v (n - k)) now c.loop-made.invariant.0 (ap (λ (m : ℕ). deletes v (n - m)) same ∙ deletes_end v n)
