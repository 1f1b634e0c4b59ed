pub mod Tables
pub mod Starting
