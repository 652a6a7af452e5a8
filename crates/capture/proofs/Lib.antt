-- Laws that this crate's proofs cite, and those that `import` and the demands do.
pub mod Describes
pub mod Faults
pub mod Checked
pub mod Own
pub mod Numbers
pub mod Lines
pub mod Promised
