pub mod Scan
pub mod Stop
pub mod Places
pub mod Completed
pub mod Judged
pub mod Held
pub mod inner
