pub mod CallerLemmas
mod Later
mod EditRuns
mod Pieces
