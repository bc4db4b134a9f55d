pub mod Traces
pub mod Listings
pub mod Laws
pub mod Code
