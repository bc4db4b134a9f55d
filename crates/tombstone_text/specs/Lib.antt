pub mod Cells
pub mod Chunks
pub mod Sums
pub mod Measures
pub mod Code
