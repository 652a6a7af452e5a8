pub mod Codes
pub mod Lines
pub mod Meanings
