-- Equality of names and members, as their tests decide it.
pub use Rattle.op_name.proofs.CallerLemmas.{name_same, name_itself, member_same, member_itself, member_apart}
