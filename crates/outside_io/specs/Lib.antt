-- The words of the crate's contracts.
pub mod Faults
pub mod SourceMem
pub mod SinkMem
pub mod Ends
pub mod NoWire
pub mod WireMem
pub mod TcpWire
pub mod Reading
pub mod Writing
pub mod Code
