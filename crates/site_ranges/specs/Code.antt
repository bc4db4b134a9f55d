-- Words that only the contracts of private functions use.
pub mod Chunks
pub mod Turns
