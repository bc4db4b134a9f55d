pub mod Entries
pub mod CallerLemmas
