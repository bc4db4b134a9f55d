use Rattle.std.proofs.Common.{refl, ap, sym, ◌∙◌}
use Rattle.context_vector.specs.Vectors.{VectorData}
use Rattle.context_diff.proofs.CallerLemmas.{covered_ready, lacks_first}
use Rattle.past_view.proofs.PastText.{no_stray}
use Rattle.past_view.proofs.past.refusal.Goals as goal

pub returns-in-Some-clause-refused : goal.returns-in-Some-clause-refused
returns-in-Some-clause-refused c =
    lacks_first c.args.book.now.ops c.have.result.now.set c.args.at.now.set c.known.ensures.valid
    (ap (λ (v : VectorData). v.set) c.have.ensures ∙ c.known.ensures.have) c.in-Some.member c.in-Some.ensures.first

pub returns-in-Some-first_stray-clause-refused : goal.returns-in-Some-first_stray-clause-refused
returns-in-Some-first_stray-clause-refused c = (
  covered_ready c.args.book.now.ops c.have.result.now.set c.args.at.now.set c.known.ensures.valid
      (ap (λ (v : VectorData). v.set) c.have.ensures ∙ c.known.ensures.have) (c.in_default.ensures.none.0 refl),
  sym c.in-Some-first_stray.ensures,
)

pub returns-in-Some-closed-clause-refused : goal.returns-in-Some-closed-clause-refused
returns-in-Some-closed-clause-refused c = (
  covered_ready c.args.book.now.ops c.have.result.now.set c.args.at.now.set c.known.ensures.valid
      (ap (λ (v : VectorData). v.set) c.have.ensures ∙ c.known.ensures.have) (c.in_default.ensures.none.0 refl),
  no_stray c.args.at.now.set (sym c.in_default-first_stray.ensures),
  c.in-Some-closed.ensures.first,
)

pub returns-in-None-clause-closed : goal.returns-in-None-clause-closed
returns-in-None-clause-closed c = record {
  ready =
      covered_ready c.args.book.now.ops c.have.result.now.set c.args.at.now.set c.known.ensures.valid
      (ap (λ (v : VectorData). v.set) c.have.ensures ∙ c.known.ensures.have) (c.in_default.ensures.none.0 refl);
  stray = no_stray c.args.at.now.set (sym c.in_default-first_stray.ensures);
  closed = c.in-None.ensures.none.0 refl;
}
