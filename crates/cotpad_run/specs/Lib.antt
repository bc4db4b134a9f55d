-- The words of the crate's contracts.
pub mod Limits
pub mod Commands
pub mod Words
pub mod Wired
pub mod Made
pub mod Help
pub mod Generating
pub mod Replaying
pub mod Refusals
pub mod Peers
pub mod Meeting
pub mod Looping
pub mod Table
pub mod Code
