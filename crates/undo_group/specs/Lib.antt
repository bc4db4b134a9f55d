pub mod Counts
pub mod BaseForms
pub mod Bounds
pub mod Following
pub mod Laws
