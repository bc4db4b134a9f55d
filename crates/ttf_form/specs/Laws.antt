pub mod Lists
pub mod Places
pub mod Deleters
pub mod Forms
pub mod Marks
pub mod Cells
pub mod Texts
