pub mod Reaching
pub mod StatusReads
pub mod WordTransfers
