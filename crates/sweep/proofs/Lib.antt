-- Laws that this crate's proofs and those above it cite.
pub mod Numbers
pub mod Cases
pub mod Taken
pub mod Ends
pub mod Profiles
pub mod Promised
