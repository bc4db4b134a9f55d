pub mod Reached
pub mod Edits
pub mod Runs
pub mod Taking
pub mod Laws
pub mod Code
