-- Laws of the layouts that this crate's proofs and those above it cite.
pub mod Laws
pub mod Places
pub mod Contents
pub mod Laid
pub mod Heads
pub mod Promised
