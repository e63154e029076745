pub mod Numbered
pub mod Faults
pub mod Rows
