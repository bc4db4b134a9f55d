use Rattle.std.proofs.lemmas.Result.{on_ok_weaker}
use Rattle.site_answers.specs.Names.{group_text}
use Rattle.script_text.proofs.Listings.{listed_both}
use Rattle.script_text.proofs.report.states.groups_parts.Goals as goal

pub returns-in_ok-put_undone-in-Some-clause-ok : goal.returns-in_ok-put_undone-in-Some-clause-ok
returns-in_ok-put_undone-in-Some-clause-ok c =
    on_ok_weaker c.more_groups.result
    (λ e. listed_both (λ e. group_text e.0 e.1) c.args.groups.now c.in-Some.first.now c.in-Some.others.now _ _ _ c.in-Some.ensures.cases.0
    c.in_ok-put_undone-in-Some.ensures.ok e)
    c.more_groups.ensures.ok
