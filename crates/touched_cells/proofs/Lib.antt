pub mod Spots
pub mod Counts
pub mod Inserts
pub mod Bearers
pub mod Lists
pub mod Touching
pub mod Single
