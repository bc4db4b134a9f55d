pub mod Contexts
pub mod Vectors
pub mod AddBad
pub mod Marks
pub mod Equality
pub mod Shortfalls
pub mod Code
