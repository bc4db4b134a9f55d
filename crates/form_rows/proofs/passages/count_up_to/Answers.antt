use Rattle.std.proofs.Common.{leb, leb-true, leb-false, arith, rules}
use Rattle.std.proofs.lemmas.List.Sorted.{IsPartitionPoint-from_clause, IsPartitionedBy-leb}
use Rattle.form_rows.proofs.Thresholds.{up_to_point}
use Rattle.form_rows.proofs.passages.count_up_to.Goals as goal

pub returns : goal.returns
returns c =
    let ts = c.args.places.now in
    let p = c.args.place in
    let parted = IsPartitionedBy-leb (λ t. t) ts p c.requires in
    let point =
    IsPartitionPoint-from_clause (λ t. leb t p) ts c.partition_point.result c.partition_point.ensures.partitioned parted
    (λ a r q k. search rules) in
    up_to_point p c.partition_point.result ts c.partition_point.ensures.bound (λ i d less. leb-true _ _ (point.0 i d (omega arith) less))
    (λ i d from less. leb-false _ _ (point.1 i d from less))
