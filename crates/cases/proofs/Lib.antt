pub mod Sequences
pub mod Starts
