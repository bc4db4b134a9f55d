-- The words of the crate's contracts.
pub mod Stops
pub mod Moves
pub mod Exchanges
pub mod Pairs
pub mod Code
