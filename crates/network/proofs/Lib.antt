pub mod Faults
pub mod Links
pub mod Sets
pub mod Tables
pub mod Valid
