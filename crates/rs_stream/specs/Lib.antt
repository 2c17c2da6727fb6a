pub mod MemStreams
pub mod Streams
