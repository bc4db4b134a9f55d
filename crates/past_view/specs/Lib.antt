pub mod Pasts
pub mod Playing
pub mod Lines
pub mod Laws
pub mod Code
