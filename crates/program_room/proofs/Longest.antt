-- No sheet of a captured response is longer than 131,044 bytes, so memory of that length holds any of them whole. Assumes nothing.
use mathlib.Core.Path.{◌≡◌, refl, sym, ap, ◌∙◌}
use mathlib.Core.List.{List, ◌∷◌}
use Prim.Native.Nat.{ℕ, zero, suc, ◌+◌, ◌*◌, ◌≤◌}
use native.Mathlib.Omega.{arith}
use lib.ListN.{length, drop, length-append}
use Rattle.base.specs.Lists.{flat, Bytes}
use Rattle.text.specs.Drive.{Desc, Drive}
use Rattle.text.specs.Response.{bytes, feature0, selected, full}
use Rattle.reading.specs.Places.{descs}
use Rattle.text.proofs.Profiles.{length_profiles}
use Rattle.text.proofs.Selection.{asc_above, asc_down, from_all, selected_zero}
use Rattle.text.proofs.Sizes.{length_bytes, length_full, full_four}
use Rattle.sheet.specs.Meaning.{Fine}
use Rattle.sheet.proofs.Longest.{length_sheet}
use Rattle.capture.specs.Capture.{captured, capture_fault}
use Rattle.capture.proofs.Describes.{captured_fine, captured_full, captured_short}
use Rattle.capture.proofs.Checked.{length_bodies}
use Rattle.layout.specs.declared.Layout.TheVariants.{Rows}
use Rattle.import.specs.Import.{sheet_from, imported}
use Rattle.refusal.specs.First.{unless}
use Rattle.refusal.proofs.First.{unless_none, unless_fault}
use Rattle.lent.specs.Maker.{refusing, making}
use Rattle.import.proofs.Answers.{imported_fault, imported_written}

-- the full response of a drive: the header, feature 0, the other features
length_all : (m : Drive) → Fine m → length (full 0 0 m) ≡ 8 + (4 + 4 * length m.profiles) + length (flat bytes m.features)
unfolding flat feature0
length_all m f =
    let e : selected 0 0 m ≡ feature0 m.profiles ∷ m.features =
    selected_zero 0 m ∙ ap (λ (ds : List Desc). feature0 m.profiles ∷ ds) (from_all 0 m.features (asc_above 0 m.features (asc_down 0 1 m.features (omega arith) f.sound.ascending))) in
    omega (
      arith,
      length_full 0 0 m,
      ap (λ (ds : List Desc). length (flat bytes ds)) e,
      length-append (bytes (feature0 m.profiles)) (flat bytes m.features),
      length_bytes (feature0 m.profiles),
      length_profiles m.profiles,
    )

-- what import answers with memory of that length: no 42, and a count of bytes that are there
pub record Answered (s d : List ℕ) : Type 0 where
  pub whole : imported s d ≡ unless (capture_fault s) (refusing d) (making (sheet_from s).bytes d)
  pub count : (imported s d).made.count ≤ length (imported s d).buffer

module _ (s : List ℕ) (b : Bytes s) where
  sheet_most : (capture_fault s).number ≡ 0 → length (sheet_from s).bytes ≤ 131044
  unfolding sheet_from
  sheet_most e =
      let m : Drive = captured (descs s) in
      let f : Fine m = captured_fine s b e in
      omega (
        arith,
        length_sheet Rows m,
        length_all m f,
        length_bodies m.features,
        full_four f.sound 0 0,
        ap length (captured_full s b e),
        captured_short s e,
      )

  pub answered : (d : List ℕ) → 131044 ≤ length d → Answered s d
  unfolding refusing making
  answered d h = go (capture_fault s).number refl
    where
      go : (n : ℕ) → (capture_fault s).number ≡ n → Answered s d
      go zero e =
          let x = imported_written s d e (omega (arith, sheet_most e)) in
          record {
            whole = x ∙ sym (unless_none (capture_fault s) (refusing d) (making (sheet_from s).bytes d) e);
            count = rw x (omega (arith, length-append (sheet_from s).bytes (drop (length (sheet_from s).bytes) d)));
          }
      go (suc n) e =
          let x = imported_fault s d (λ z. omega arith) in
          record {
            whole = x ∙ sym (unless_fault (capture_fault s) (refusing d) (making (sheet_from s).bytes d) (λ z. omega arith));
            count = rw x (omega arith);
          }
