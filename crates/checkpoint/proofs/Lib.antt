pub mod Sums
pub mod PlacedForms
pub mod Limits
