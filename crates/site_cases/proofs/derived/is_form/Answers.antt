use Rattle.std.proofs.Common.{List, ap}
use Rattle.context_diff.specs.Bases.{base_has}
use Rattle.context_diff.specs.Operations.{OpData}
use Rattle.context_diff.specs.Histories.{members_in}
use Rattle.site_cases.proofs.derived.is_form.Goals as goal

pub transform-requires-clause-bases : goal.transform-requires-clause-bases
transform-requires-clause-bases c = record {
  members = ap members_in c.new.ensures;
  contexts = λ x y known. ap (λ (os : List OpData). base_has os x y) c.new.ensures;
}
