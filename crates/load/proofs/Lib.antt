-- Laws of loading a medium.
pub mod Patch
pub mod Numbers
pub mod Beside
pub mod With
pub mod Written
pub mod Checked
pub mod Put
pub mod Loaded
pub mod Promised
pub mod Stands
