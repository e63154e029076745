pub mod Members
pub mod Faults
pub mod Rows
pub mod Numbered
pub mod Laws
pub mod Inputs
pub mod Cases
