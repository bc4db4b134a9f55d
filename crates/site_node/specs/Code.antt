-- The words of private functions' contracts; no public contract uses them.
pub mod Reading
pub mod Carrying
