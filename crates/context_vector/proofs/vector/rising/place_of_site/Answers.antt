use Rattle.std.proofs.Common.{rules}
use Rattle.std.specs.Prelude.{nat_lt}
use Rattle.std.specs.Ordering.{nat_cmp}
use Rattle.std.proofs.lemmas.List.Sorted.{answers_always}
use Rattle.op_name.proofs.CallerLemmas.{number_order}
use Rattle.context_vector.proofs.Search.{searched, number_answers}
use Rattle.context_vector.proofs.Counts.{same_site, counts_rise}
use Rattle.context_vector.proofs.vector.rising.place_of_site.Goals as goal

pub returns : goal.returns
returns c =
    let facts = c.binary_search_by_key.ensures in
    let by_key = facts.position (λ pair. pair.0) (answers_always _ _ _ (λ f a r g called. search rules)) in
    let parts =
    searched same_site nat_lt number_order nat_cmp number_answers c.args.counts.now (counts_rise 0 c.args.counts.now c.requires)
    c.args.site c.binary_search_by_key.result facts.bound by_key in
    record { found = parts.0; absent = parts.1 }
