use Rattle.std.proofs.Common.{◌<◌, sym, subst, ◌∙◌}
use Rattle.std.specs.Prelude.{ℕ, length}
use Rattle.std.proofs.lemmas.List.{length-map}
use Rattle.context_diff.specs.Operations.{member_of}
use Rattle.context_diff.specs.Histories.{members_in}
use Rattle.context_diff.proofs.CallerLemmas.{not_past}
use Rattle.transform_rec.proofs.Backwards.{generation_at}
use Rattle.transform_rec.proofs.pending.member_at.Goals as goal

pub unreachable-requires : goal.unreachable-requires
unreachable-requires c =
    let within : c.args.i < length (members_in c.args.book.now.ops) =
    subst (λ (n : ℕ). c.args.i < n) (sym (length-map c.args.book.now.ops member_of)) c.requires in
    not_past (members_in c.args.book.now.ops) c.args.i within (sym c.member.ensures ∙ c.in-None.is)

pub returns-clause-range : goal.returns-clause-range
returns-clause-range c = generation_at c.args.book.now.ops c.known.ensures.valid c.args.i c.in-Some.x (sym c.member.ensures ∙ c.in-Some.is)
