pub mod Lists
pub mod Pick
