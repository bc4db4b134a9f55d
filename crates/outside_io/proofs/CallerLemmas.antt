-- What the proofs of other crates cite of this crate's lemmas.
pub use Rattle.outside_io.proofs.Brought.{Brought-more}
pub use Rattle.outside_io.proofs.Linked.{kept_by, kept_on, kept_other}
pub use Rattle.outside_io.proofs.Written.{Appends-take}
