pub mod Order
pub mod NameData
pub mod Members
pub mod Lists
pub mod Hashes
