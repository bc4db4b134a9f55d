pub mod Verdicts
pub mod States
pub mod Sites
pub mod Releases
pub mod Views
pub mod Commands
pub mod Laws
pub mod Code
