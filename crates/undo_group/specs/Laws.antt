pub mod Members
pub mod Sums
pub mod Forms
pub mod Inserts
pub mod Places
pub mod Texts
pub mod Groups
