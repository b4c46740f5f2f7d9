pub mod Rounds
pub mod Rule
pub mod Table
