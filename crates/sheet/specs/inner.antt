-- The search by bisection; what it finds among ascending numbers is `First`, in proofs/Bisection.antt.
pub mod Search
-- The check of the entries at a glance; what it accepts `entries_verdict` does, in proofs/Glance.antt.
pub mod Glance
