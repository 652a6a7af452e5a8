-- Laws that this crate's proofs cite.
pub mod Decimal
pub mod Passed
pub mod Outcome
pub mod Numbers
pub mod Longest
pub mod Promised
