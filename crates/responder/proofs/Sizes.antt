-- How many bytes the wanted entries and feature 0 are. Assumes nothing.
use mathlib.Core.Path.{◌≡◌, refl, sym, ap, ◌∙◌}
use mathlib.Core.Bool.{Bool, true, false}
use Prim.Native.Nat.{ℕ, zero, suc, ◌+◌, ◌*◌, ◌-◌, ◌≤◌, ◌<◌}
use native.Mathlib.Nat.{add-zero, add-suc}
use native.Mathlib.Omega.{arith}
use lib.Dec.{eqb}
use lib.ListN.{length, length-append}
use borrow.Author.Tests.{eqb-false}
use Rattle.base.specs.Lists.{Bytes}
use Rattle.layout.specs.Layout.{Sheet, feature_count, flags, body_length}
use Rattle.sheet.specs.Check.{end_before_entry, Accepted}
use Rattle.sheet.specs.Facts.{Facts}
use Rattle.sheet.proofs.Accepted.{end_next, end_rises}
use Rattle.responder.specs.inner.Index.{skips, piece, pieces, piece_size, pieces_size, span, entries_size, zero_part, zero_size}
use Rattle.responder.proofs.Entries.{length_entry_bytes}
use Rattle.responder.proofs.Zero.{length_zero_bytes}
use Rattle.responder.proofs.Chosen.{skips_none}

module _ {s : Sheet} (f : Facts s) (rt : ℕ) where
  piece_size_here : (i : ℕ) → i < feature_count s → piece_size rt s i ≡ length (piece rt s i)
  unfolding piece_size piece
  piece_size_here i l = go (skips rt (flags s i)) refl
    where
      go : (t : Bool) → skips rt (flags s i) ≡ t → piece_size rt s i ≡ length (piece rt s i)
      go true e = rw (e, piece_size, piece)
      go false e = rw (e, piece_size, piece) (sym (length_entry_bytes f i l))

  pieces_size_here : (from k : ℕ) → from + k ≤ feature_count s → pieces_size rt s from k ≡ length (pieces rt s from k)
  unfolding pieces_size pieces
  pieces_size_here from zero l = refl
  pieces_size_here from (suc k) l =
      omega (arith, length-append (pieces rt s from k) (piece rt s (from + k)), pieces_size_here from k (omega arith), piece_size_here (from + k) (omega arith))

  -- where none is passed over, each adds 4 bytes and its body
  piece_whole : (rt ≡ 1 → ⊥) → (i : ℕ) → piece_size rt s i ≡ 4 + body_length s i
  unfolding piece_size
  piece_whole h i = rw (skips_none rt (flags s i) h, piece_size)

  pieces_whole : (rt ≡ 1 → ⊥) → (from k : ℕ) → from + k ≤ feature_count s → pieces_size rt s from k + end_before_entry s from ≡ 4 * k + end_before_entry s (from + k)
  unfolding pieces_size
  pieces_whole h from zero l = rw add-zero (omega arith)
  pieces_whole h from (suc k) l =
      rw add-suc (omega (arith, pieces_whole h from k (omega arith), piece_whole h (from + k), end_next f (from + k) (omega arith)))

  span_whole : (rt ≡ 1 → ⊥) → (from to : ℕ) → from ≤ to → to ≤ feature_count s → span s from to ≡ pieces_size rt s from (to - from)
  unfolding span
  span_whole h from to l m =
      let e : from + (to - from) ≡ to = omega arith in
      omega (arith, pieces_whole h from (to - from) (omega arith), ap (end_before_entry s) e, end_rises f from to l m)

  pub entries_size_here : (from to : ℕ) → from ≤ to → to ≤ feature_count s → entries_size rt s from to ≡ length (pieces rt s from (to - from))
  unfolding entries_size
  entries_size_here from to l m = go (eqb rt 1) refl
    where
      go : (t : Bool) → eqb rt 1 ≡ t → entries_size rt s from to ≡ length (pieces rt s from (to - from))
      go true e = rw (e, entries_size) (pieces_size_here from (to - from) (omega arith))
      go false e = rw (e, entries_size) (span_whole (eqb-false rt 1 e) from to l m ∙ pieces_size_here from (to - from) (omega arith))

pub zero_size_law : (s : Sheet) (sfn : ℕ) → Bytes s.bytes → Accepted s → zero_size s.bytes sfn ≡ length (zero_part s.bytes sfn)
unfolding zero_size zero_part
zero_size_law s sfn b e = go (eqb sfn 0) refl
  where
    go : (t : Bool) → eqb sfn 0 ≡ t → zero_size s.bytes sfn ≡ length (zero_part s.bytes sfn)
    go true c = rw (c, zero_size, zero_part) (sym (length_zero_bytes s b e))
    go false c = rw (c, zero_size, zero_part)
