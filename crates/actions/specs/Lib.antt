pub mod Kinds
pub mod Records
pub mod Table
