-- The sheet of an accepted capture: accepted, made of bytes, and with the capture as its full response; and that of a drive's own response. Assumes nothing.
use mathlib.Core.Path.{◌≡◌, ap, ◌∙◌}
use mathlib.Core.List.{List}
use Prim.Native.Nat.{ℕ, ◌≤◌}
use lib.ListN.{length}
use Rattle.base.specs.Lists.{Bytes}
use Rattle.text.specs.Drive.{Drive}
use Rattle.text.specs.Response.{full}
use Rattle.reading.specs.Places.{descs}
use Rattle.layout.specs.declared.Layout.TheVariants.{Rows}
use Rattle.sheet.specs.Check.{Accepted}
use Rattle.sheet.specs.Meaning.{meaning, Fine, sheet_of}
use Rattle.sheet.proofs.Build.{sheet_accepted, sheet_means, sheet_bytes_law}
use Rattle.capture.specs.Capture.{captured, capture_fault}
use Rattle.capture.proofs.Describes.{captured_fine, captured_full}
use Rattle.capture.proofs.Own.{own_drive}
use Rattle.import.specs.Import.{sheet_from}

module _ (r : List ℕ) (bs : Bytes r) (e : (capture_fault r).number ≡ 0) where
  pub from_accepted : Accepted (sheet_from r)
  unfolding sheet_from
  from_accepted = sheet_accepted Rows (captured (descs r)) (captured_fine r bs e)

  pub from_bytes : Bytes (sheet_from r).bytes
  unfolding sheet_from
  from_bytes = sheet_bytes_law Rows (captured_fine r bs e)

  pub from_means : meaning (sheet_from r) ≡ captured (descs r)
  unfolding sheet_from
  from_means = sheet_means Rows (captured (descs r)) (captured_fine r bs e)

  pub from_full : full 0 0 (meaning (sheet_from r)) ≡ r
  from_full = ap (full 0 0) from_means ∙ captured_full r bs e

pub own_sheet : {m : Drive} → Fine m → length (full 0 0 m) ≤ 65534 → sheet_from (full 0 0 m) ≡ sheet_of Rows m
unfolding sheet_from
own_sheet f small = ap (sheet_of Rows) (own_drive f small)
