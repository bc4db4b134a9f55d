use Rattle.std.proofs.Common.{rules}
use Rattle.std.proofs.lemmas.List.Sorted.{answers_always}
use Rattle.op_name.specs.NameData.{name_eq, name_lt, name_cmp}
use Rattle.op_name.proofs.CallerLemmas.{name_order}
use Rattle.context_vector.proofs.Search.{searched, name_answers}
use Rattle.context_vector.proofs.Entries.{entries_rise}
use Rattle.context_vector.proofs.vector.rising.place_of_name.Goals as goal

pub returns : goal.returns
returns c =
    let facts = c.binary_search_by_key.ensures in
    let by_key = facts.position (λ pair. pair.0) (answers_always _ _ _ (λ f a r g called. search rules)) in
    let parts =
    searched name_eq name_lt name_order name_cmp name_answers c.args.entries.now (entries_rise c.args.entries.now c.requires)
    c.args.name.now c.binary_search_by_key.result facts.bound by_key in
    record { found = parts.0; absent = parts.1 }
