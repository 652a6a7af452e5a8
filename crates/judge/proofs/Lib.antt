-- Laws that this crate's proofs cite, and those that the demands do.
pub mod Same
pub mod Boxes
pub mod Search
pub mod Order
pub mod Promised
