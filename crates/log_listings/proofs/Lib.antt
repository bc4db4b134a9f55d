pub mod Appending
pub mod Originals
pub mod Hitting
pub mod Lines
pub mod Members
pub mod Feeding
pub mod SameBytes
pub mod EachContent
