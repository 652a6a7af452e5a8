-- What an accepted capture describes: a drive that a sheet can describe, and that gives the capture's own bytes again. Assumes nothing.
use Rattle.refusal.specs.First.{accept, placed}
use mathlib.Core.Path.{◌≡◌, refl, sym, ap, ap₂, ◌∙◌}
use mathlib.Core.List.{List, [], ◌∷◌}
use Prim.Native.Nat.{ℕ, ◌+◌, ◌≤◌}
use native.Mathlib.Omega.{arith}
use lib.ListN.{length, take, drop, length-drop, take-append-drop}
use lib.Seq.{take_all}
use borrow.Author.Tests.{eqb-true, not-false}
use Rattle.base.specs.Lists.{flat, All, Bytes}
use Rattle.base.proofs.Lists.{take_more}
use Rattle.fields.specs.Field.{field, spell}
use Rattle.fields.proofs.Laws.{spell_field}
use Rattle.text.specs.Drive.{Desc, Good, Asc, profile_bytes}
use Rattle.text.specs.Response.{all, bytes, feature0, selected, current_profile, header, data_length, full}
use Rattle.text.specs.Reading.{stated_length, stated_profile, stated_end, walked, read_fault}
use Rattle.refusal.proofs.First.{if_zero, or_else_zero, placed_number, or_else_accepts}
use Rattle.text.proofs.Selection.{asc_above, asc_down, from_all, selected_zero}
use Rattle.text.proofs.Walk.{read_fault_header, wholes_accepted}
use Rattle.text.proofs.Again.{walked_again, walked_good, walked_asc}
use Rattle.reading.specs.Places.{descs}
use Rattle.reading.specs.Completed.{complete_fault}
use Rattle.reading.proofs.Places.{wholes_end}
use Rattle.profiles.specs.Profiles.{profiles_of, records_fault}
use Rattle.profiles.proofs.Kept.{fault_kept, length_profiles_of, low_of, kept_distinct}
use Rattle.profiles.proofs.Again.{profiles_back}
use Rattle.sheet.specs.Check.{flags_rule}
use Rattle.sheet.specs.Meaning.{Fine}
use Rattle.reading.proofs.Completed.{complete_zero}
use Rattle.capture.specs.Capture.{captured, own_rule, flags_faults, sheet_rule, capture_fault}

-- ---- an accepted capture

-- what its acceptance says
pub record Describes (r : List ℕ) (first : Desc) (others : List Desc) : Type 0 where
  pub read : (read_fault 65534 0 0 r).number ≡ 0
  pub complete : length r ≡ stated_end r
  pub found : descs r ≡ first ∷ others
  pub lowest : first.number ≡ 0
  pub flags : first.flags ≡ 3
  pub spare : field 2 r 4 ≡ 0
  pub current : stated_profile r ≡ current_profile (profiles_of first.body)
  pub profiles : (records_fault first.body).number ≡ 0
  pub legal : (flags_faults 1 others).number ≡ 0

pub record Described (r : List ℕ) : Type 0 where
  pub first : Desc
  pub others : List Desc
  pub holds : Describes r first others

pub capture_complete : (r : List ℕ) → (capture_fault r).number ≡ 0 → (complete_fault r).number ≡ 0
unfolding capture_fault
capture_complete r e = (or_else_zero _ _ e).0

pub described : (r : List ℕ) → (capture_fault r).number ≡ 0 → Described r
unfolding capture_fault own_rule sheet_rule
described r e =
    let x = or_else_zero _ _ e in
    let y = complete_zero r (capture_complete r e) in
    let z = or_else_zero _ _ x.1 in
    go (descs r) refl y.read y.ends z.0 z.1
  where
    go : (ws : List Desc) → descs r ≡ ws → (read_fault 65534 0 0 r).number ≡ 0 → length r ≡ stated_end r → (own_rule r ws).number ≡ 0 → (sheet_rule ws).number ≡ 0 → Described r
    go [] e a c own sheet = absurd (omega arith)
    go (z ∷ ds) e a c own sheet =
        let x = if_zero _ _ _ own in
        let y = if_zero _ _ _ x.1 in
        let v = if_zero _ _ _ y.1 in
        let w = if_zero _ _ _ v.1 in
        let u = or_else_zero _ _ sheet in
        record {
          first = z;
          others = ds;
          holds = record {
            read = a;
            complete = c;
            found = e;
            lowest = eqb-true _ _ (not-false _ x.0);
            flags = eqb-true _ _ (not-false _ y.0);
            spare = eqb-true _ _ (not-false _ v.0);
            current = eqb-true _ _ (not-false _ w.0);
            profiles = u.0;
            legal = u.1;
          };
        }

pub spell_nought : 0 ∷ 0 ∷ [] ≡ spell 2 0
unfolding spell
spell_nought = refl

-- a capture that nothing refuses has no refusal at all
flags_accepts : (k : ℕ) (ds : List Desc) → (flags_faults k ds).number ≡ 0 → flags_faults k ds ≡ accept
unfolding flags_faults
flags_accepts k [] e = refl
flags_accepts k (d ∷ ds) e = or_else_accepts _ _ (flags_accepts (k + 1) ds) e

sheet_accepts : (ds : List Desc) → (sheet_rule ds).number ≡ 0 → sheet_rule ds ≡ accept
unfolding sheet_rule
sheet_accepts [] e = refl
sheet_accepts (z ∷ ds) e = or_else_accepts _ _ (flags_accepts 1 ds) e

pub capture_accepts : (r : List ℕ) → (capture_fault r).number ≡ 0 → capture_fault r ≡ accept
unfolding capture_fault
capture_accepts r e = or_else_accepts _ _ (or_else_accepts _ _ (sheet_accepts (descs r))) e

pub flags_legal : (k : ℕ) (ds : List Desc) → (flags_faults k ds).number ≡ 0 → All (λ (d : Desc). (flags_rule d.flags).number ≡ 0) ds
unfolding flags_faults
flags_legal k [] e = tt
flags_legal k (d ∷ ds) e =
    let x = or_else_zero (placed (flags_rule d.flags) k) (flags_faults (k + 1) ds) e in
    (sym (placed_number _ k) ∙ x.0, flags_legal (k + 1) ds x.1)

module _ {r : List ℕ} (bs : Bytes r) {z : Desc} {ds : List Desc} (c : Describes r z ds) where
  all_found : (walked 0 0 r).found ≡ z ∷ ds
  all_found = sym (wholes_accepted 65534 0 0 r c.read) ∙ c.found

  pub all_good : All Good (z ∷ ds)
  all_good = rw all_found at (walked_good 0 0 r bs)

  all_asc : Asc 0 (z ∷ ds)
  all_asc = rw all_found at (walked_asc 0 0 r)

  -- the drive
  drive : captured (descs r) ≡ record { profiles = profiles_of z.body; features = ds }
  unfolding captured
  drive = rw c.found

  drive_fine : Fine record { profiles = profiles_of z.body; features = ds }
  drive_fine =
      let b : List ℕ = z.body in
      let g : Good z = all_good.0 in
      record {
        sound = record {
          few = omega (arith, length_profiles_of b, g.short);
          profiles_low = low_of b g.bytes;
          ascending = asc_down 1 (1 + z.number) ds (omega arith) all_asc.1;
          good = all_good.1;
        };
        distinct = kept_distinct b (fault_kept b c.profiles);
        legal = flags_legal 1 ds c.legal;
      }

  -- feature 0 made from the profiles is the one that was captured
  feature_back : feature0 (profiles_of z.body) ≡ z
  unfolding feature0
  feature_back =
      let e : flat profile_bytes (profiles_of z.body) ≡ z.body = profiles_back z.body all_good.0.bytes all_good.0.four (fault_kept z.body c.profiles) in
      λ k. record { number = sym c.lowest k; flags = sym c.flags k; body = e k }

  selected_back : selected 0 0 record { profiles = profiles_of z.body; features = ds } ≡ z ∷ ds
  selected_back =
      selected_zero 0 record { profiles = profiles_of z.body; features = ds }
      ∙ ap₂ (λ (x : Desc) (xs : List Desc). x ∷ xs) feature_back (from_all 0 ds (asc_above 0 ds (asc_down 0 (1 + z.number) ds (omega arith) all_asc.1)))

  flat_back : flat bytes (z ∷ ds) ≡ drop 8 r
  flat_back =
      let e : 8 + length (flat bytes (z ∷ ds)) ≡ length r = rw c.found at (wholes_end 0 0 r 65534 c.read c.complete) in
      (rw all_found at (walked_again 0 0 r bs))
      ∙ take_all (length (flat bytes (z ∷ ds))) (drop 8 r) (omega (arith, length-drop 8 r))

  header_back : header (stated_length r) (stated_profile r) ≡ take 8 r
  unfolding header stated_length stated_profile
  header_back =
      let h = read_fault_header 65534 0 0 r c.read in
      let x : spell 4 (stated_length r) ≡ take 4 (drop 0 r) = spell_field 4 r 0 bs (omega (arith, h.eight)) in
      let y : 0 ∷ 0 ∷ [] ≡ take 2 (drop 4 r) = spell_nought ∙ ap (spell 2) (sym c.spare) ∙ spell_field 2 r 4 bs (omega (arith, h.eight)) in
      let w : spell 2 (stated_profile r) ≡ take 2 (drop 6 r) = spell_field 2 r 6 bs (omega (arith, h.eight)) in
      rw (x, y, w, take_more r 0 4 2, take_more r 0 6 2)

  full_back : full 0 0 record { profiles = profiles_of z.body; features = ds } ≡ r
  unfolding full data_length
  full_back =
      let e : 4 + length (drop 8 r) ≡ stated_length r = omega (arith, c.complete, length-drop 8 r, (read_fault_header 65534 0 0 r c.read).eight) in
      rw (selected_back, flat_back, e, ← c.current, header_back) (take-append-drop 8 r)

-- the drive that it describes is one that a sheet can describe, and its full response is the capture
pub captured_fine : (r : List ℕ) → Bytes r → (capture_fault r).number ≡ 0 → Fine (captured (descs r))
captured_fine r bs e =
    let c = (described r e).holds in
    rw (drive bs c) (drive_fine bs c)

pub captured_full : (r : List ℕ) → Bytes r → (capture_fault r).number ≡ 0 → full 0 0 (captured (descs r)) ≡ r
captured_full r bs e =
    let c = (described r e).holds in
    rw (drive bs c) (full_back bs c)

-- its features, feature 0 first, are the descriptors that were captured
pub captured_all : (r : List ℕ) → Bytes r → (capture_fault r).number ≡ 0 → all (captured (descs r)) ≡ descs r
unfolding all
captured_all r bs e =
    let d = described r e in
    rw (drive bs d.holds, d.holds.found) (ap (λ (x : Desc). x ∷ d.others) (feature_back bs d.holds))

pub captured_short : (r : List ℕ) → (capture_fault r).number ≡ 0 → length r ≤ 65534
captured_short r e = (read_fault_header 65534 0 0 r (described r e).holds.read).most
