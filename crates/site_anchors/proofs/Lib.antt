pub mod Fronts
pub mod Cells
pub mod Told
pub mod Listed
