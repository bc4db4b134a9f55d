pub mod Listed
pub mod Tasks
pub mod Checked
