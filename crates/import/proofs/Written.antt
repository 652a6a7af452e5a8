-- The sheet of an accepted capture by the places of its descriptors, and the answer of an import. Assumes nothing.
use mathlib.Core.Path.{◌≡◌, refl, sym, ap, subst, ◌∙◌}
use mathlib.Core.List.{List, ◌∷◌}
use Prim.Native.Nat.{ℕ, ◌+◌, ◌-◌, ◌*◌, ◌/◌, ◌%◌, ◌≤◌, ◌<◌}
use native.Mathlib.Nat.{div-add-mod}
use native.Mathlib.Omega.{arith}
use lib.ListN.{length}
use Rattle.base.specs.Lists.{flat, Bytes}
use Rattle.lent.specs.Wrote.{Wrote}
use Rattle.refusal.specs.declared.Refusal.{Refusal}
use Rattle.refusal.specs.First.{refuse}
use Rattle.text.specs.Drive.{Desc, Good, profile_bytes}
use Rattle.text.specs.Reading.{length_at, desc_at}
use Rattle.text.proofs.Received.{Stand, wholes_stand}
use Rattle.reading.specs.Places.{next_at}
use Rattle.reading.proofs.At.{next_is}
use Rattle.layout.specs.declared.Layout.TheVariants.{Rows}
use Rattle.layout.specs.Layout.{sheet_size, profiles_behind}
use Rattle.profiles.specs.Profiles.{profiles_of}
use Rattle.profiles.proofs.Kept.{fault_kept, length_profiles_of}
use Rattle.profiles.proofs.Again.{profiles_back}
use Rattle.sheet.specs.Meaning.{sheet_of}
use Rattle.capture.specs.declared.Capture.{Capture}
use Rattle.capture.specs.Capture.{captured, capture_fault, capture_of}
use Rattle.capture.specs.inner.Behind.{behind}
use Rattle.capture.proofs.Describes.{all_good, captured_short}
use Rattle.capture.proofs.Checked.{length_first, describes, sizes, capture_refusal, capture_behind}
use Rattle.import.specs.Import.{sheet_from, imported}
use Rattle.lent.specs.declared.Made.{Made}
use Rattle.lent.specs.Maker.{outcome, refused, written, refusing}
use Rattle.lent.proofs.Maker.{written_making}
use Rattle.import.specs.inner.Pieces.{Standing, sheet_bytes, Whole}
use Rattle.import.proofs.Answers.{imported_fault, imported_short, imported_written}
use Rattle.import.proofs.Beside.{all_standing, length_sheet_bytes}

-- a sheet whose profile list is b
sheet_parts : (b : List ℕ) (ds : List Desc) → length b % 4 ≡ 0 → flat profile_bytes (profiles_of b) ≡ b
    → (sheet_of Rows record { profiles = profiles_of b; features = ds }).bytes ≡ sheet_bytes b ds
unfolding sheet_of sheet_bytes
sheet_parts b ds four e =
    let n : 4 * (length b / 4) ≡ length b = omega (arith, div-add-mod (length b) 4) in
    rw (e, length_profiles_of b, n)

module _ (s : List ℕ) (k : (capture_fault s).number ≡ 0) (bs : Bytes s) where
  sheet_is : (sheet_from s).bytes ≡ sheet_bytes (desc_at s 8).body (behind s)
  unfolding sheet_from captured
  sheet_is =
      let c = describes s k in
      let g : Good (desc_at s 8) = (all_good bs c).0 in
      rw c.found
      (sheet_parts (desc_at s 8).body (behind s) g.four (profiles_back (desc_at s 8).body g.bytes g.four (fault_kept (desc_at s 8).body c.profiles)))

  -- the descriptors behind the first are whole
  behind_whole : Standing s (next_at s 8) (behind s)
  behind_whole =
      let c = describes s k in
      let t : Stand s 8 (desc_at s 8 ∷ behind s) = rw c.found at (wholes_stand 65534 0 0 s) in
      subst (λ (at : ℕ). Standing s at (behind s)) (sym (next_is s 8 (next_at s 8) (length_first s k) refl)) (all_standing s (8 + 4 + length_at s 8) (behind s) t.2)

  length_sheet : sheet_size (sheet_from s) ≡ length s - 8 + 4 * length (behind s)
  length_sheet = omega (arith, ap length sheet_is, length_sheet_bytes (desc_at s 8).body (behind s), sizes s k)

-- ---- the answer, by what the check answers

module _ (s : List ℕ) (c : Capture) (e : c ≡ capture_of s) where
  number_is : c.refusal.number ≡ (capture_fault s).number
  number_is = ap (λ (y : Refusal). y.number) (capture_refusal s c e)

  pub import_refused : (d : List ℕ) (m : Made) → m ≡ refused c.refusal → (c.refusal.number ≡ 0 → ⊥) → outcome m d ≡ imported s d
  unfolding refusing
  import_refused d m q h = ap (λ (n : Made). outcome n d) (q ∙ ap refused (capture_refusal s c e)) ∙ sym (imported_fault s d (λ z. h (number_is ∙ z)))

  module _ (h : c.refusal.number ≡ 0) where
    none : (capture_fault s).number ≡ 0
    none = sym number_is ∙ h

    count : c.features ≡ length (behind s)
    count = capture_behind s c e none

    pub import_heads : 8 + 4 * (c.features + 1) ≤ length s
    import_heads = omega (arith, sizes s none, count)

    -- with room for the sheet or not, where the profiles start at `at`
    module _ (bs : Bytes s) (d : List ℕ) (at : ℕ) (a : at ≡ profiles_behind c.features) where
      needed : sheet_size (sheet_from s) ≡ at + (length s - (8 + 4 * (c.features + 1)))
      needed = omega (arith, a, length_sheet s none bs, count, import_heads)

      pub import_short : length d < at + (length s - (8 + 4 * (c.features + 1))) → (m : Made) → m ≡ refused (refuse 42) → outcome m d ≡ imported s d
      unfolding refusing
      import_short l m q = ap (λ (n : Made). outcome n d) q ∙ sym (imported_short s d none (omega (arith, needed)))

      module _ (l : at + (length s - (8 + 4 * (c.features + 1))) ≤ length d) where
        pub import_room : Whole s c.features d
        import_room = record {
          some = length_first s none;
          whole = behind_whole s none bs;
          count = count;
          room = omega (arith, needed, ap length (sheet_is s none bs));
          low = omega (arith, ap length (sheet_is s none bs), length_sheet s none bs, sizes s none, captured_short s none);
        }

        pub import_written : {n : ℕ} {f : List ℕ} (m : Made) → m ≡ written n → Wrote d 0 (sheet_bytes (desc_at s 8).body (behind s)) n f → outcome m f ≡ imported s d
        import_written {n} {f} m q w =
            let v : Wrote d 0 (sheet_from s).bytes n f = rw (sheet_is s none bs) w in
            let k : sheet_size (sheet_from s) ≤ length d = omega (arith, needed) in
            ap (λ (n : Made). outcome n f) q ∙ written_making k v ∙ sym (imported_written s d none k)
