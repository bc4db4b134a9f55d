-- Lemmas on the words of the contracts.
pub mod Counts
pub mod Written
pub mod Read
pub mod Linked
pub mod Brought
pub mod CallerLemmas
