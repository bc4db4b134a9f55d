-- The words of the crate's contracts.
pub mod Addressing
pub mod Statuses
pub mod Outside
pub mod Editing
pub mod Replies
pub mod Explaining
pub mod PastTexts
pub mod PlayedTexts
pub mod Answers
pub mod Laws
pub mod Code
