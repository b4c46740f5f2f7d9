pub mod Claimed
pub mod Claiming
pub mod Sound
