-- What the proofs of other crates cite of this crate's lemmas.
pub use Rattle.form_cache.proofs.Entries.{asked_entry, found_entry, put_entry, used_entry}
