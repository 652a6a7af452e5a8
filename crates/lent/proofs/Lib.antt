-- Laws that this crate's proofs and those above it cite.
pub mod Sets
pub mod Laws
pub mod Decides
pub mod Maker
pub mod Copying
