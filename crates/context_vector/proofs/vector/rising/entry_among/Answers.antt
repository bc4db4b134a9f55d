use Rattle.std.proofs.Common.{ℕ, ap, sym, ◌∙◌}
use Rattle.op_name.specs.NameData.{NameData, name_eq, name_lt}
use Rattle.op_name.proofs.CallerLemmas.{name_order}
use Rattle.context_vector.proofs.Keyed.{value_is, gap_value}
use Rattle.context_vector.proofs.Entries.{entries_rise, entry_is}
use Rattle.context_vector.proofs.vector.rising.entry_among.Goals as goal

pub returns-in-Ok : goal.returns-in-Ok
returns-in-Ok c =
    let es = c.args.entries.now in
    c.generation.ensures ∙ (ap (λ (e : NameData × ℕ). e.1) c.index-entries-at.is
    ∙ sym (entry_is es c.args.name.now
    ∙ value_is name_eq name_lt name_order es (entries_rise es c.requires) c.args.name.now c.in-Ok.at c.in-Ok.ensures.found
    c.index-entries-at.result))

pub returns-in-Err : goal.returns-in-Err
returns-in-Err c =
    sym (entry_is c.args.entries.now c.args.name.now
    ∙ gap_value name_eq name_lt name_order c.args.entries.now c.args.name.now c.in-Err.field-0 c.in-Err.ensures.absent)
