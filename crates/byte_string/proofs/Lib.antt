pub mod Stores
pub mod Orders
pub mod Ends
