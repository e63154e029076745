pub mod Repeated
pub mod Told
