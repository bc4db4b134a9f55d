use Rattle.std.proofs.lemmas.Result.{on_ok_weaker}
use Rattle.script_text.specs.Report.{count_text}
use Rattle.script_text.proofs.Listings.{listed_both}
use Rattle.script_text.proofs.report.states.counts_parts.Goals as goal

pub returns-in_ok-put_count-in-Some-clause-ok : goal.returns-in_ok-put_count-in-Some-clause-ok
returns-in_ok-put_count-in-Some-clause-ok c =
    on_ok_weaker c.more_counts.result
    (λ e. listed_both count_text c.args.counts.now c.in-Some.first.now c.in-Some.others.now _ _ _ c.in-Some.ensures.cases.0
    c.in_ok-put_count-in-Some.ensures.ok e)
    c.more_counts.ensures.ok
