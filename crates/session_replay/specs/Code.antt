-- The words of private functions' contracts; no public contract uses them.
pub mod Doing
pub mod Typing
pub mod Reading
pub mod Drawing
pub mod Knowing
pub mod Messages
