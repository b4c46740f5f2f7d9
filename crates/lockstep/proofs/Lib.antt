pub mod Rounds
pub mod Rule
pub mod Tables
pub mod Worked
