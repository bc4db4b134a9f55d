-- What the proofs of other crates cite of this crate's lemmas.
pub use Rattle.causal_gate.proofs.Apart.{named_once}
