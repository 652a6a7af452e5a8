-- `import::put_sheet` meets its contract: the counts, the profile list, then contents and bodies.
use native.Mathlib.Omega.{arith}
use Rattle.reading.proofs.At.{body_short}
use Rattle.import.proofs.Beside.{whole_fits, whole_written}
use Rattle.import.proofs.put_sheet.Goals as goal

pub overflow_cast-profiles : goal.overflow_cast-profiles
overflow_cast-profiles c = omega (arith, body_short _ _ _ c.body_at-profiles.ensures.holds (λ i. (c.type_inv.s i).fits))

pub put_features-requires : goal.put_features-requires
put_features-requires c = let k = c in
    whole_fits k.requires k.body_at-profiles.ensures.holds k.put_counts-entries.ensures c.profiles_behind.ensures c.copy-body.ensures c.next_at.ensures

pub returns : goal.returns
returns c = let k = c in
    whole_written k.requires k.body_at-profiles.ensures.holds k.put_counts-entries.ensures c.profiles_behind.ensures c.copy-body.ensures c.next_at.ensures c.put_features.ensures
