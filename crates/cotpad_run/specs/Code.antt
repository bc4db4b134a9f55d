-- The words of private functions' contracts; no public contract uses them.
pub mod Reading
pub mod Replaying
pub mod Generated
pub mod Stopping
pub mod Meeting
pub mod Looping
