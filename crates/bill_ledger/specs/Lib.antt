pub mod Entries
pub mod Places
pub mod Up
pub mod Ledger
