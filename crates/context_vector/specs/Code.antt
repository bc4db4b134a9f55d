-- Words of the code: how values are kept, and what private functions promise.
pub mod Places
pub mod Lists
pub mod Pieces
pub mod Readers
pub mod Counting
pub mod Undone
pub mod Sharing
pub mod Packed
pub mod Words
