pub mod Bill
pub mod Order
pub mod Refusals
