pub mod Orders
pub mod Errors
pub mod CallerLemmas
