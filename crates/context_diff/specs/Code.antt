-- Words of the code: how values are kept, and what private functions promise.
pub mod Letters
pub mod Judged
pub mod Kept
pub mod Places
pub mod Counting
pub mod Tallies
pub mod GapEnds
pub mod ClosedParts
