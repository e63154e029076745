pub mod Keys
pub mod Sums
pub mod Orders
pub mod Triples
pub mod Refusals
