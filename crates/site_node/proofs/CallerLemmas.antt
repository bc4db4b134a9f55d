-- What the proofs of other crates cite of this crate's lemmas.
pub use Rattle.site_node.proofs.Carriages.{bad_front, front_bytes, whole_front}
