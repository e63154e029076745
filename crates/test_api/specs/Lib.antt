pub mod Codes
pub mod Exported
pub mod Told
