-- The words of the program's contracts.
pub mod Mail
pub mod Report
