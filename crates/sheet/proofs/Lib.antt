-- Laws that this crate's proofs and those above it cite.
pub mod Laws
pub mod Accepted
pub mod Meaning
pub mod Pieces
pub mod Fine
pub mod Longest
pub mod Build
pub mod Same
pub mod Bisection
pub mod Passing
pub mod Lines
pub mod Glance
pub mod Decides
pub mod Promised
