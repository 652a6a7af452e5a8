pub mod Profiles
pub mod Lines
pub mod inner
