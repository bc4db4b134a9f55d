-- Words that only the contracts of private functions use.
pub mod Passing
pub mod Steps
