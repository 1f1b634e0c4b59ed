pub mod Words
pub mod Code
pub mod Order
pub mod Numbers
pub mod Codecs
