pub mod Lists
pub mod Header
