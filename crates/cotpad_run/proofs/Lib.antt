pub mod Spelling
pub mod Scripts
pub mod Alike
pub mod Table
pub mod Meetings
pub mod Looping
pub mod Pairs
pub mod Peers
