pub mod Waiting
pub mod Hints
pub mod Names
pub mod Undos
