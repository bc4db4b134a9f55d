pub mod Sums
pub mod Weights
pub mod Chunks
pub mod Cells
pub mod Spans
pub mod Deleters
pub mod Inserts
