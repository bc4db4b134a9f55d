use Rattle.std.proofs.Common.{ℕ, List, subst}
use Rattle.cot_site.specs.Commands.{local_insert, local_run}
use Rattle.cot_site.specs.Sites.{state_of}
use Rattle.participant.specs.Reached.{from}
use Rattle.cotpad_c.specs.Hosting.{HostedData, reached}
use Rattle.cotpad_c.specs.Statuses.{Did}
use Rattle.cotpad_c.proofs.edits.insert.Goals as goal

pub returns-in-Some-clause-done : goal.returns-in-Some-clause-done
returns-in-Some-clause-done c = λ _.
    let n = c.edit.result in
    let s = state_of c.args.hosted.now.site in
    let place = c.args.place in
    let after = reached c.edit.new.self in
    let run : Did n (local_run s place c.one.result) (from s) after =
    subst (λ (h : HostedData). Did n (local_run (state_of h.site) place c.one.result) (reached h) after) c.forget.ensures
    c.edit.ensures in
    let did : Did n (local_insert s place c.in-Some.ch) (from s) after =
    subst (λ (text : List ℕ). Did n (local_run s place text) (from s) after) c.one.ensures run in
    subst (λ (ch : ℕ). Did n (local_insert s place ch) (from s) after) c.in-Some.ensures.value.1 did
