pub mod Originals
pub mod Insertions
pub mod Replayed
pub mod Laws
pub mod Code
