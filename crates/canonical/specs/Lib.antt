pub mod Three
pub mod Tested
pub mod Variants
pub mod Form
