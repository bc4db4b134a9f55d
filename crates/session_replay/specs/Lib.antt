-- The words of the crate's contracts.
pub mod Steps
pub mod Sessions
pub mod LineSteps
pub mod Events
pub mod Soundness
pub mod Scripts
pub mod ReaderData
pub mod Readers
pub mod Transcripts
pub mod Derivation
pub mod Answers
pub mod Generating
pub mod Laws
pub mod Code
