-- Laws that this crate's proofs cite, and those that the demands do.
pub mod Changes
pub mod Bits
pub mod Descs
pub mod Again
pub mod Found
pub mod Steps
pub mod Fixing
pub mod Made
pub mod Walking
pub mod Answers
pub mod Kept
pub mod Promised
