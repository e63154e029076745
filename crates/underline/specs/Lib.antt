pub mod Underline
pub mod Names
