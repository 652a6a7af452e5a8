pub mod Required
pub mod Judge
pub mod Alone
pub mod inner
