-- How far a list is met on the walk over a sheet's entries, and bytes set at places; contracts inside the crate say them.
pub mod Beside
pub mod Patch
