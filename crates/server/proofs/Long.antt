-- What a function that has memory for the longest sheet, and may call itself, asks for: how long that memory is, and that it calls itself fewer times each time. Apart from
-- it, since an array of so many bytes is not to be in reach of a search. Assumes nothing.
use Rattle.std.proofs.Common.{◌≡◌, ℕ, ◌<◌, ◌-◌, length, replicate, sym, arith}
use Rattle.std.proofs.lemmas.List.{length-replicate}

-- An array of n zeros is n long, whatever n is: no look at its elements.
pub lent : (n : ℕ) → n ≡ length {A = ℕ} (replicate n 0)
lent n = sym (length-replicate {A = ℕ} n 0)

pub one_less : (a t : ℕ) → a ≡ t → 0 < a → a - 1 < t
one_less a t e h = omega (arith, e, h)
