-- The words of private functions' contracts; no public contract uses them.
pub mod Loading
pub mod Editing
pub mod Playing
