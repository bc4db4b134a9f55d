-- What the proofs of other crates cite of this crate's lemmas.
pub use Rattle.past_view.proofs.Addresses.{IsAddress, IsLineFrom, address_from, from_front, place_found, place_missing}
pub use Rattle.past_view.proofs.OneRefusal.{closed_accepted, one_refusal}
pub use Rattle.past_view.proofs.Utf8.{starts_all}
