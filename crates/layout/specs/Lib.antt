pub mod Answers
pub mod FirstLinks
pub mod Laid
pub mod LaidOut
pub mod Layout
pub mod Numbers
