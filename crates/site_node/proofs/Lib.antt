pub mod Moving
pub mod Talking
pub mod Explaining
pub mod Servers
pub mod Joiners
pub mod Loopers
pub mod Carriages
pub mod CallerLemmas
