-- Words that only the contracts of private functions use: what judging finds, parts of local commands, an executed history, one
-- release.
pub mod Judging
pub mod Making
pub mod Replicas
pub mod Notes
pub mod Releasing
