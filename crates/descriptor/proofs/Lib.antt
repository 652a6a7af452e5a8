-- Laws that this crate's proofs cite, and those that others cite.
pub mod Laws
pub mod Promised
