pub mod Laws
pub mod Lookups
pub mod Delivered
