pub mod Spelling
pub mod Spelled
pub mod Reading
pub mod Refusals
pub mod Answers
pub mod Frames
pub mod Code
