pub mod Registers
pub mod Attributes
pub mod Commands
pub mod State
pub mod Execution
pub mod Banks
pub mod Steps
pub mod Laws
