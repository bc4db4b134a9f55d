pub mod Touched
pub mod Code
