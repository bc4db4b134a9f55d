pub mod Apart
pub mod Chunks
pub mod Marks
pub mod Members
pub mod Places
pub mod Quiet
pub mod ShownBefore
