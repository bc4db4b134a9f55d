pub mod Changes
pub mod Told
pub mod Laws
pub mod Code
