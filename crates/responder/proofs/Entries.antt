-- The bytes of a sheet's entries are the bytes of its descriptors. Assumes nothing.
use mathlib.Core.Path.{◌≡◌, ap}
use mathlib.Core.List.{append_assoc}
use Prim.Native.Nat.{ℕ, ◌+◌, ◌<◌}
use native.Mathlib.Omega.{arith}
use lib.ListN.{length, take, drop}
use Rattle.text.specs.Response.{bytes}
use Rattle.text.proofs.Sizes.{length_bytes}
use Rattle.layout.specs.Layout.{Sheet, feature_count, body_length, offset}
use Rattle.sheet.specs.Facts.{Facts}
use Rattle.sheet.specs.Meaning.{desc}
use Rattle.sheet.proofs.Meaning.{body_length_law}
use Rattle.responder.specs.inner.Index.{desc_bytes}

module _ {s : Sheet} (f : Facts s) where
  pub entry_bytes : (i : ℕ) → i < feature_count s → desc_bytes s i ≡ bytes (desc s i)
  unfolding desc_bytes bytes desc
  entry_bytes i l =
      let e : length (take (body_length s i) (drop (offset s i) s.bytes)) ≡ body_length s i = body_length_law f i l in
      rw e (simp append_assoc)

  pub length_entry_bytes : (i : ℕ) → i < feature_count s → length (desc_bytes s i) ≡ 4 + body_length s i
  length_entry_bytes i l = omega (arith, ap length (entry_bytes i l), length_bytes (desc s i), body_length_law f i l)
