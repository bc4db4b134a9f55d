-- What the proofs of other crates cite of this crate's lemmas.
pub use Rattle.flat_history.proofs.Extending.{alike_on, both_valid, judged_on}
pub use Rattle.flat_history.proofs.Flat.{flat_alike, flat_valid}
