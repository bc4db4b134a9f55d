-- What the proofs of other crates cite of this crate's lemmas.
pub use Rattle.log_replies.proofs.Logs.{if_none, if_some, loses_input}
pub use Rattle.log_replies.proofs.OneReply.{not_both}
