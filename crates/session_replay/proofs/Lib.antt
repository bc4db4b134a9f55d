pub mod Steps
pub mod Releasing
pub mod PiecesLaws
pub mod Reading
pub mod Every
pub mod Sound
pub mod LineLaws
pub mod ScriptLaws
pub mod Transcripts
pub mod Derivation
pub mod Lifting
pub mod Commanding
pub mod Loops
pub mod Lines
pub mod Characters
pub mod Typing
mod Names
mod Room
mod Gathering
mod Alone
mod Making
mod Tallies
mod Rounds
mod Needed
mod Telling
mod NextLine
pub mod Messages
pub mod Knowing
pub mod Keeping
pub mod Noting
pub mod CallerLemmas
