pub mod Cases
pub mod Faults
pub mod Words
pub mod Line
