-- What the walk over the records carries along; a contract inside the crate says it.
pub mod Within
