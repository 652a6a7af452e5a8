-- Laws that this crate's proofs cite.
mod Asked
mod Longest
