-- What the proofs of other crates cite of this crate's lemmas.
pub use Rattle.peer_exchange.proofs.Asking.{nothing_past}
pub use Rattle.peer_exchange.proofs.Faults.{IsInside, bad_inside}
pub use Rattle.peer_exchange.proofs.Sent.{answered_whole, closing_whole, offered_whole}
pub use Rattle.peer_exchange.proofs.Stable.{says_still}
