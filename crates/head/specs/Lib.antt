pub mod Meaning
pub mod Making
pub mod Questions
pub mod Pictures
pub mod Filling
pub mod Accesses
pub mod Rejections
