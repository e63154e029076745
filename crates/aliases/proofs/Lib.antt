pub mod Slots
pub mod Keyed
pub mod Cased
