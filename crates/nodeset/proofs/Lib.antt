pub mod Digits
pub mod Listed
pub mod Lowest
pub mod Marks
pub mod Members
pub mod Walks
