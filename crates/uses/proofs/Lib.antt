pub mod SameOperations
pub mod Sending
