pub mod Buffers
pub mod Layouts
pub mod Words
