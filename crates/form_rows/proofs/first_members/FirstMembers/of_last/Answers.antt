use Rattle.std.proofs.Common.{◌∙◌, sym, ap, subst}
use Rattle.std.specs.Prelude.{slice_get}
use Rattle.context_vector.specs.Contexts.{ContextData}
use Rattle.form_rows.specs.Firsts.{HasFirst}
use Rattle.form_rows.proofs.first_members.FirstMembers.of_last.Goals as goal

pub returns-in-Some-clause-are : goal.returns-in-Some-clause-are
returns-in-Some-clause-are c =
    let h = c.args.book.now.ops in
    let last = c.requires.last in
    record {
      op = last.op;
      at = ap (slice_get h) c.last_place.ensures ∙ last.at;
      inserts = subst (λ (k : ContextData). HasFirst h k c.in-Some.upto) (sym last.context) c.in-Some.ensures.has;
      within = c.in-Some.ensures.within;
    }
