pub mod Keys
pub mod Replaced
