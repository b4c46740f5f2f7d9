pub mod Answers
pub mod Consequences
pub mod Valid
pub mod Walks
