-- What the proofs of other crates cite of this crate's lemmas.
pub use Rattle.session_replay.proofs.Reading.{done_is_reported, kept_is_front}
