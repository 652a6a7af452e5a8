-- Laws that this crate's proofs and those above it cite.
pub mod Same
pub mod Picked
pub mod Making
pub mod Tried
pub mod RoundTrip
pub mod Cases
pub mod Decides
