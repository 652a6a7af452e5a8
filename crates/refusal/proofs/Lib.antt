pub mod First
pub mod Lines
pub mod Order
pub mod Numbers
pub mod Calls
