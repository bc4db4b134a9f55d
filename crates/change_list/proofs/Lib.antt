pub mod Lists
pub mod Patches
pub mod Numbers
pub mod Told
pub mod Apart
pub mod CallerLemmas
pub mod Rows
