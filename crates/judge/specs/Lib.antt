pub mod Boxes
pub mod Verdict
