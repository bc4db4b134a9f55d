-- What the proofs of other crates cite of this crate's lemmas.
pub use Rattle.tombstone_text.proofs.Chunked.{sum-shown}
pub use Rattle.tombstone_text.proofs.Flags.{ones-flags}
pub use Rattle.tombstone_text.proofs.Beside.{beside_count, beside_at, beside_taken}
pub use Rattle.tombstone_text.proofs.Encoded.{bytes-encoded}
