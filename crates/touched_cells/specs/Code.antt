-- Words that only the contracts of private functions use: which places a list has more than before.
pub mod Seeking
