pub mod Verdicts
pub mod Twins
pub mod Making
pub mod Repeats
