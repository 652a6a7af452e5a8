-- Laws that this crate's proofs and those above it cite.
pub mod Rows
pub mod Bits
pub mod Words
pub mod Reserved
