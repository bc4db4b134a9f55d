use Rattle.std.proofs.Common.{◌≡◌, ℕ, List, ◌∷◌, ◌++◌, sym, ap, subst, ◌∙◌}
use Rattle.std.specs.List.{flat_map}
use Rattle.op_name.specs.NameData.{NameData}
use Rattle.wire_codec.specs.Runs.{RunData, names_in}
use Rattle.wire_codec.specs.Code.RunLists.{AreRuns}
use Rattle.wire_codec.proofs.RunNames.{runs_rise}
use Rattle.wire_codec.proofs.RunPushes.{follows_run}
use Rattle.wire_codec.proofs.runs.with_entries.Goals as goal

pub push_run-requires-clause-below : goal.push_run-requires-clause-below
push_run-requires-clause-below c =
    let r : RunData = c.in-Some.run' in
    let all = flat_map names_in c.args.runs.now in
    let before : List (NameData × ℕ) = c.loop-run.vector.set.entries in
    let are : AreRuns (r ∷ c.next.new.self) = subst AreRuns c.in-Some.ensures.steps c.loop-run.invariant.2 in
    let parts : before ++ flat_map names_in (r ∷ c.next.new.self) ≡ all =
    ap (λ (rs : List RunData). before ++ flat_map names_in rs) (sym c.in-Some.ensures.steps) ∙ c.loop-run.invariant.0 in
    (follows_run all before r c.next.new.self (runs_rise c.args.runs.now c.known.ensures) are.0.some parts).0
