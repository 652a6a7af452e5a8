-- The response by index of the entries, in whose words Sized.antt, and Trusting.antt over it, say what comes of a sheet that was not checked: the contracts of `send_sized`, `send` and `respond_accepted` rest on it there. From an accepted sheet `trusting_commanded` ties it to Answer.antt.
pub mod Index
-- How far the entries were written that fit; a contract inside the crate says it.
pub mod Fitted
