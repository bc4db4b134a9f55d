pub mod Weights
pub mod Chunks
pub mod Places
pub mod Walks
pub mod LineFronts
