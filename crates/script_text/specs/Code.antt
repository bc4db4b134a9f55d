-- Words of the contracts of private functions.
pub mod Items
pub mod Keeping
