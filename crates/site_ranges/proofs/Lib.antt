pub mod Ranges
pub mod Appending
pub mod ChunkTexts
pub mod Undoers
pub mod Composing
pub mod Turning
pub mod Outboxes
pub mod RangeNames
