pub mod Digits
pub mod Listing
