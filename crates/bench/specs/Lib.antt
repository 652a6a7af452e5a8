pub mod Bench
pub mod Swept
pub mod Fewest
pub mod inner
