pub mod Capture
pub mod Lines
pub mod inner
