-- Words that only the contracts of private functions use: which cells were shown, and what was told of them.
pub mod Marks
