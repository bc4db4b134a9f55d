pub mod Ranges
pub mod Undoers
pub mod Originals
pub mod Frames
pub mod Inserts
pub mod Laws
pub mod Code
