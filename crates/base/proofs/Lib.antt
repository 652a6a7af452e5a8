-- Laws that the crates above cite, and what it is that a contract decides everything, and promises something of every outcome.
pub mod Lists
pub mod Pick
pub mod Decided
pub mod Promise
pub mod Compare
pub mod Bools
pub mod Bits
