pub mod Checkpoints
pub mod Flat
pub mod Alike
pub mod Laws
