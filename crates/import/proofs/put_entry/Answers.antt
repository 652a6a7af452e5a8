-- `import::put_entry` meets its contract: the entry of what stands at the place.
use native.Mathlib.Omega.{arith}
use Rattle.import.proofs.Beside.{entry_head}
use Rattle.import.proofs.put_entry.Goals as goal

pub returns : goal.returns
returns c = rw (entry_head _ _ _ (λ i. omega (arith, c.type_inv.s i)) c.requires.0) c.place_row.ensures
