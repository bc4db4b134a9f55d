pub mod Places
pub mod Names
pub mod Families
pub mod Forms
pub mod Cells
pub mod Laws
