use Rattle.std.proofs.Common.{◌≡◌, ◌+◌, ◌<◌, ◌∷◌, length, ap, arith}
use Rattle.std.specs.Prelude.{Err}
use Rattle.std.proofs.lemmas.Bool.Decides.{nat_tests}
use Rattle.cot_site.specs.Sites.{state_of}
use Rattle.cot_site.proofs.CallerLemmas.{later_on}
use Rattle.participant.specs.declared.edits.Edit.TheVariants.{Insert}
use Rattle.participant.specs.Reached.{at}
use Rattle.participant.specs.Runs.{pieces, runs, begun, progress, Progress}
use Rattle.participant.proofs.Later.{later_same}
use Rattle.participant.proofs.EditRuns.{leads_first, leads_more, leads_stop, leads_end, cut_off, runs_next, runs_end, pieces_few, pieces_none, insert_counts}
use Rattle.participant.proofs.runs.insert_runs.Goals as goal

pub loop-rest-init : goal.loop-rest-init
loop-rest-init c =
    let first : Progress = begun (at c.args.site.now c.args.released.now.items) in
    (leads_first (runs c.args.place c.args.text.now) first, omega arith, omega arith, λ it. it, later_same (state_of c.args.site.now))

pub loop-rest-preserved : goal.loop-rest-preserved
loop-rest-preserved c =
    let rest = c.loop-rest.rest.now in
    let piece = c.split_at.result.0.now in
    let behind = c.split_at.result.1.now in
    let v = c.loop-rest.next in
    let first : Progress = begun (at c.args.site.now c.args.released.now.items) in
    let now : Progress = progress c.loop-rest.site c.loop-rest.released.items c.loop-rest.made in
    let next : Progress = progress c.put.new.site c.put.new.released.items c.put.new.made in
    let some : 0 < length rest = grind (arith, nat_tests) in
    let cut : pieces rest ≡ piece ∷ pieces behind =
    cut_off rest piece behind c.min.result some c.min.ensures c.split_at.ensures.front c.split_at.ensures.back in
    let counted = insert_counts v piece now next c.in-Ok.ensures.next in (
      leads_more (runs c.args.place c.args.text.now) first (Insert v piece) (runs v rest) (runs (v + length piece) behind) now next
          c.loop-rest.invariant.0 (runs_next v rest piece behind cut) c.in-Ok.ensures.next,
      omega (arith, counted, ap length cut, c.loop-rest.invariant.1),
      c.put.ensures.count,
      λ was. c.put.ensures.settled (c.loop-rest.invariant.3 was) (λ half. cc),
      later_on (state_of c.args.site.now) (state_of c.loop-rest.site) (state_of c.put.new.site)
          c.loop-rest.invariant.4 c.put.ensures.later,
    )

pub returns-in-Err-clause-run : goal.returns-in-Err-clause-run
returns-in-Err-clause-run c =
    let rest = c.loop-rest.rest.now in
    let piece = c.split_at.result.0.now in
    let behind = c.split_at.result.1.now in
    let v = c.loop-rest.next in
    let first : Progress = begun (at c.args.site.now c.args.released.now.items) in
    let now : Progress = progress c.loop-rest.site c.loop-rest.released.items c.loop-rest.made in
    let next : Progress = progress c.put.new.site c.put.new.released.items c.put.new.made in
    let some : 0 < length rest = grind (arith, nat_tests) in
    let cut : pieces rest ≡ piece ∷ pieces behind =
    cut_off rest piece behind c.min.result some c.min.ensures c.split_at.ensures.front c.split_at.ensures.back in
    leads_stop (runs c.args.place c.args.text.now) first (Insert v piece) (runs v rest) (runs (v + length piece) behind) now
    (Err c.in-Err.why) next c.loop-rest.invariant.0 (runs_next v rest piece behind cut) c.in-Err.ensures.stop

pub returns-in-Err-clause-within : goal.returns-in-Err-clause-within
returns-in-Err-clause-within c =
    let rest = c.loop-rest.rest.now in
    let piece = c.split_at.result.0.now in
    let behind = c.split_at.result.1.now in
    let some : 0 < length rest = grind (arith, nat_tests) in
    let cut : pieces rest ≡ piece ∷ pieces behind =
    cut_off rest piece behind c.min.result some c.min.ensures c.split_at.ensures.front c.split_at.ensures.back in
    omega (arith, ap length cut, c.loop-rest.invariant.1, c.put.ensures.one, pieces_few c.args.text.now)

pub returns-clause-run : goal.returns-clause-run
returns-clause-run c =
    let rest = c.loop-rest.rest.now in
    let none : length rest ≡ 0 = grind (arith, nat_tests) in
    let first : Progress = begun (at c.args.site.now c.args.released.now.items) in
    let now : Progress = progress c.loop-rest.site c.loop-rest.released.items c.loop-rest.made in
    leads_end (runs c.args.place c.args.text.now) first (runs c.loop-rest.next rest) now c.loop-rest.invariant.0
    (runs_end c.loop-rest.next rest none)

pub returns-clause-within : goal.returns-clause-within
returns-clause-within c = omega (arith, c.loop-rest.invariant.1, pieces_few c.args.text.now)

pub returns-clause-whole : goal.returns-clause-whole
returns-clause-whole c =
    let none : length c.loop-rest.rest.now ≡ 0 = grind (arith, nat_tests) in
    omega (arith, c.loop-rest.invariant.1, ap length (pieces_none c.loop-rest.rest.now none))
