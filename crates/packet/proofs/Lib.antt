pub mod Checksums
pub mod Contents
pub mod Meanings
pub mod Standing
pub mod Laying
