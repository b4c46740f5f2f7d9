pub mod Streams
pub mod Words
