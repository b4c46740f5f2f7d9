pub mod Keeps
pub mod Numbers
pub mod Plan
pub mod Planned
pub mod Reader
pub mod Record
pub mod Rules
