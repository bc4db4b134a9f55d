use Rattle.std.proofs.Common.{◌≡◌, ◌-◌, length, subst}
use Rattle.context_vector.specs.Contexts.{ContextData}
use Rattle.context_diff.specs.Histories.{cells_in, members_in}
use Rattle.form_rows.specs.Lacking.{all_but_last}
use Rattle.form_rows.proofs.Counts.{members_end}
use Rattle.form_rows.proofs.Prefixes.{contains_at}
use Rattle.form_rows.proofs.first_members.cells_of_last.Goals as goal

pub returns-in-Some : goal.returns-in-Some
returns-in-Some c =
    let h = c.args.book.now.ops in
    let last = c.requires.last in
    let there = contains_at h (length h - 1) last.op last.at in
    let told = c.in-Some.ensures last.op (members_in (all_but_last h)) there (members_end h last.op last.at) in
    subst (λ (k : ContextData). c.in-Some.cells ≡ cells_in h k) last.context told
