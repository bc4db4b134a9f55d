pub mod Anchors
pub mod Laws
