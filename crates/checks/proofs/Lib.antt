-- Laws that this crate's proofs and those above it cite.
pub mod Findings
pub mod Faultless
pub mod Other
pub mod Found
