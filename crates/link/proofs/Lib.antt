pub mod Crossing
pub mod Sizes
