-- Words that only the contracts of private functions use: what passes over a text count, which cells of a site are of a past text, and
-- how far a playback is.
pub mod Counted
pub mod PastCells
pub mod Playing
