use Rattle.std.proofs.Common.{ℕ, ap, sym, ◌∙◌, arith}
use Rattle.std.specs.Prelude.{nat_lt}
use Rattle.op_name.proofs.CallerLemmas.{number_order}
use Rattle.context_vector.proofs.Keyed.{value_is, gap_value}
use Rattle.context_vector.proofs.Counts.{same_site, counts_rise, count_is, count_at_most}
use Rattle.context_vector.proofs.vector.rising.count_near.Goals as goal

pub returns-in-Ok-clause-count : goal.returns-in-Ok-clause-count
returns-in-Ok-clause-count c =
    let ps = c.args.counts.now in
    c.number.ensures ∙ (ap (λ (p : ℕ × ℕ). p.1) c.index-counts-at.is
    ∙ sym (count_is ps c.args.site ∙ value_is same_site nat_lt number_order ps (counts_rise 0 ps c.requires) c.args.site c.in-Ok.at
    c.in-Ok.ensures.found c.index-counts-at.result))

pub returns-in-Ok-clause-range : goal.returns-in-Ok-clause-range
returns-in-Ok-clause-range c = omega (arith, returns-in-Ok-clause-count c, count_at_most 0 c.args.counts.now c.args.site c.requires)

pub returns-in-Err-clause-count : goal.returns-in-Err-clause-count
returns-in-Err-clause-count c =
    sym (count_is c.args.counts.now c.args.site
    ∙ gap_value same_site nat_lt number_order c.args.counts.now c.args.site _ c.in-Err.ensures.absent)
