pub mod Offsets
pub mod Laws
pub mod Code
