pub mod After
pub mod Answer
pub mod Entry
pub mod Shown
pub mod Start
pub mod Trials
pub mod Valid
pub mod Wires
