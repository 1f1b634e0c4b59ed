pub mod Addresses
pub mod Dim
pub mod Lists
pub mod CommandWords
pub mod Changes
pub mod Sizes
pub mod Faults
