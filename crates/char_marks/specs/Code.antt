-- Words of the code: what private functions promise.
pub mod Strays
pub mod Kept
pub mod Cells
pub mod Tops
pub mod Spans
pub mod Painting
