pub mod Cases
pub mod Sequences
