-- Words that only the contracts of private functions use: the blocks in which a row is kept, and where a list of places grows.
pub mod Blocks
pub mod Gaps
