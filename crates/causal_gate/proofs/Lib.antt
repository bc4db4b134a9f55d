pub mod Places
pub mod Apart
pub mod Found
pub mod HintLists
pub mod Turns
pub mod Named
pub mod UndoIndex
pub mod CallerLemmas
