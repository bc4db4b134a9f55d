-- The words of the crate's contracts.
pub mod Quotes
pub mod Originals
pub mod Listings
pub mod Digests
pub mod Laws
pub mod Code
