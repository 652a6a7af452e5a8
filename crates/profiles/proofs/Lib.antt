-- Laws that this crate's proofs and those above it cite.
pub mod Stopped
pub mod Loops
pub mod Kept
pub mod Again
pub mod Lines
pub mod Promised
