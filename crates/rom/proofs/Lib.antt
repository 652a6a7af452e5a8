-- Laws that this crate's proofs cite, and those that the demands do.
pub mod Seek
pub mod Runs
pub mod Parts
pub mod Sending
pub mod Accepted
