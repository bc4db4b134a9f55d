-- Words that only the contracts of private functions use: originals as the code keeps them, and what readers answer.
pub mod Views
pub mod Reads
