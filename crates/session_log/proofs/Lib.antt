mod HeaderFronts
pub mod Frames
mod Appending
mod Listings
pub mod TakingIn
mod RoundTrips
pub mod Refusals
mod Fronts
mod Steps
mod Pieces
mod Endings
mod Ones
mod On
