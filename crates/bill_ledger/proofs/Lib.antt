pub mod Adding
pub mod Places
pub mod Moves
pub mod Inserts
pub mod Changes
pub mod Ledgers
pub mod Members
