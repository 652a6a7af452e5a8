-- Laws that this crate's proofs cite, and those that the demands do.
pub mod Sheet
pub mod Answers
pub mod Beside
pub mod Written
pub mod Numbers
