-- What the proofs of other crates cite of this crate's lemmas.
pub use Rattle.participant.proofs.EditRuns.{by_pieces, nothing_cut, nothing_typed}
pub use Rattle.participant.proofs.Later.{cells_later, later_settled}
