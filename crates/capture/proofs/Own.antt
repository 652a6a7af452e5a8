-- The full response of a drive that a sheet can describe, captured: it is accepted, and the drive comes back. Assumes nothing.
use mathlib.Core.Path.{◌≡◌, refl, sym, ap, ◌∙◌}
use mathlib.Core.List.{List, [], ◌∷◌, ◌++◌, append_assoc}
use Prim.Native.Nat.{ℕ, ◌-◌, ◌≤◌, min, ◌+◌}
use native.Mathlib.Omega.{arith}
use lib.ListN.{length}
use borrow.Author.Tests.{eq-eqb}
use Rattle.base.specs.Lists.{flat, All}
use Rattle.base.proofs.Lists.{drop_behind}
use Rattle.fields.specs.Field.{field, spell}
use Rattle.fields.proofs.Laws.{length_spell, field_here}
use Rattle.refusal.specs.declared.Refusal.{Refusal}
use Rattle.refusal.specs.First.{accept, placed}
use Rattle.text.specs.Drive.{Desc, Listed, Drive}
use Rattle.text.specs.Response.{bytes, feature0, selected, current_profile, header, data_length, full, sent}
use Rattle.text.specs.Reading.{stated_profile, stated_end, read_fault}
use Rattle.reading.specs.Places.{descs}
use Rattle.refusal.proofs.First.{if_false, or_else_none, placed_number}
use Rattle.text.proofs.Selection.{asc_above, asc_down, from_all, selected_zero}
use Rattle.text.proofs.Sizes.{length_full}
use Rattle.text.proofs.Sent.{sent_whole_here}
use Rattle.text.proofs.Packing.{length_flat_bytes, whole_every}
use Rattle.text.proofs.Own.{read_fault_sent, wholes_sent, stated_end_sent, stated_profile_sent}
use Rattle.profiles.specs.Profiles.{profiles_of}
use Rattle.profiles.proofs.Again.{profiles_written, written_accept}
use Rattle.sheet.specs.Check.{flags_rule}
use Rattle.sheet.specs.Meaning.{Fine}
use Rattle.capture.specs.Capture.{captured, own_rule, flags_faults, sheet_rule, capture_fault}
use Rattle.capture.proofs.Describes.{Describes, spell_nought, flags_legal}
use Rattle.reading.proofs.Completed.{complete_accept}

-- ---- what is not refused

flags_accept : (k : ℕ) (ds : List Desc) → All (λ (d : Desc). (flags_rule d.flags).number ≡ 0) ds → flags_faults k ds ≡ accept
unfolding flags_faults
flags_accept k [] a = refl
flags_accept k (d ∷ ds) a = or_else_none (placed (flags_rule d.flags) k) (flags_faults (k + 1) ds) (placed_number _ k ∙ a.0) ∙ flags_accept (k + 1) ds a.1

capture_accept : {r : List ℕ} {z : Desc} {ds : List Desc} → Describes r z ds → capture_fault r ≡ accept
unfolding capture_fault own_rule sheet_rule
capture_accept {r} {z} {ds} c =
    let own : own_rule r (z ∷ ds) ≡ accept =
    rw (eq-eqb z.number 0 c.lowest, if_false, eq-eqb z.flags 3 c.flags, if_false, eq-eqb (field 2 r 4) 0 c.spare, if_false, eq-eqb (stated_profile r) (current_profile (profiles_of z.body)) c.current, if_false) in
    let sheet : sheet_rule (z ∷ ds) ≡ accept = or_else_none _ _ c.profiles ∙ flags_accept 1 ds (flags_legal 1 ds c.legal) in
    rw (complete_accept r record { read = c.read; ends = c.complete }, or_else_none accept _ refl, c.found, own, or_else_none accept _ refl) sheet

-- ---- the full response

full_spare : (m : Drive) → field 2 (full 0 0 m) 4 ≡ 0
unfolding full header
full_spare m =
    let n : ℕ = data_length (selected 0 0 m) in
    let x : List ℕ = spell 2 (current_profile m.profiles) ++ flat bytes (selected 0 0 m) in
    let e : full 0 0 m ≡ spell 4 n ++ (0 ∷ 0 ∷ x) = simp append_assoc in
    field_here (full 0 0 m) 4 2 0 x (drop_behind (full 0 0 m) 0 (spell 4 n) (0 ∷ 0 ∷ x) 4 e (length_spell 4 n) ∙ ap (λ (y : List ℕ). y ++ x) spell_nought) (omega arith)

module _ {m : Drive} (f : Fine m) (small : length (full 0 0 m) ≤ 65534) where
  all_sent : sent 0 0 65534 m ≡ full 0 0 m
  all_sent = sent_whole_here 0 0 65534 m small small

  all_selected : selected 0 0 m ≡ feature0 m.profiles ∷ m.features
  all_selected =
      selected_zero 0 m
      ∙ ap (λ (ds : List Desc). feature0 m.profiles ∷ ds) (from_all 0 m.features (asc_above 0 m.features (asc_down 0 1 m.features (omega arith) f.sound.ascending)))

  all_found : descs (full 0 0 m) ≡ feature0 m.profiles ∷ m.features
  all_found =
      ap (descs) (sym all_sent)
      ∙ wholes_sent f.sound 0 0 65534 (omega arith) 65534 (omega arith) (omega arith)
      ∙ whole_every (min 65534 65534 - 8) (selected 0 0 m) (omega (arith, length_full 0 0 m, length_flat_bytes (selected 0 0 m)))
      ∙ all_selected

  own : Describes (full 0 0 m) (feature0 m.profiles) m.features
  unfolding feature0
  own = record {
    read = ap (λ (s : List ℕ). (read_fault 65534 0 0 s).number) (sym all_sent) ∙ ap (λ (r : Refusal). r.number) (read_fault_sent f.sound 0 0 65534 (omega arith) 65534 (omega arith) (omega arith));
    complete = sym (ap stated_end (sym all_sent) ∙ stated_end_sent f.sound 0 0 65534 (omega arith));
    found = all_found;
    lowest = refl;
    flags = refl;
    spare = full_spare m;
    current = ap stated_profile (sym all_sent) ∙ stated_profile_sent f.sound 0 0 65534 (omega arith) ∙ ap current_profile (sym (profiles_written m.profiles f.sound.profiles_low));
    profiles = ap (λ (r : Refusal). r.number) (written_accept m.profiles f.sound.profiles_low f.distinct);
    legal = ap (λ (r : Refusal). r.number) (flags_accept 1 m.features f.legal);
  }

  pub own_accepted : capture_fault (full 0 0 m) ≡ accept
  own_accepted = capture_accept own

  pub own_drive : captured (descs (full 0 0 m)) ≡ m
  unfolding captured feature0
  own_drive =
      ap captured all_found
      ∙ ap (λ (ps : List Listed). record { profiles = ps; features = m.features }) (profiles_written m.profiles f.sound.profiles_low)
