-- Words that only the contracts of private functions use: what is lent, and what is put at the end of bytes.
pub mod Lent
pub mod Elements
pub mod Sections
pub mod RunLists
pub mod Puts
