pub mod Logs
pub mod Readings
pub mod Loadings
pub mod Words
pub mod Laws
pub mod ReaderData
pub mod Readers
pub mod Code
