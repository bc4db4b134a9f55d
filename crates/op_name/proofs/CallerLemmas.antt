-- What the proofs of other crates cite of this crate's lemmas.
pub use Rattle.op_name.proofs.Errors.{handed_on}
pub use Rattle.op_name.proofs.Orders.{cases_by_order, member_apart, member_cases, member_itself, member_other, member_same, member_total, name_irreflexive, name_itself, name_less_other, name_order, name_same, name_transitive, number_order, same_parts}
