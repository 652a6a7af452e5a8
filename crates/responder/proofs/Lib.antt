-- Laws that this crate's proofs and those above it cite.
pub mod Laws
mod Fitting
pub mod Entries
pub mod Zero
pub mod Chosen
pub mod Sizes
pub mod Full
pub mod Trusting
pub mod Sized
