pub mod Rules
pub mod Check
pub mod Faultless
