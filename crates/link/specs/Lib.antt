pub mod Line
pub mod Ends
