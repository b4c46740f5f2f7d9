pub mod Below
pub mod Chains
pub mod Choice
pub mod Entries
pub mod Faults
pub mod Mean
pub mod Picked
