pub mod Keys
pub mod First
