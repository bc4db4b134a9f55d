-- What the proofs of other crates cite of this crate's lemmas.
pub use Rattle.change_list.proofs.Told.{told_nothing, told_same, told_turned, shown_more, room_to_tell}
pub use Rattle.change_list.proofs.Apart.{are_changes}
