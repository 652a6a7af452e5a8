-- The sheet as a medium leaves it: accepted, with the drive that it should have, and as if no other medium had been in before. Names no layout. Assumes nothing.
use mathlib.Core.Path.{◌≡◌, refl, sym, ap, ap₂, ◌∙◌}
use mathlib.Core.Bool.{not, ◌||◌}
use mathlib.Core.List.{List, [], ◌∷◌, map}
use Prim.Native.Nat.{ℕ, ◌+◌, ◌*◌, ◌/◌, ◌%◌, ◌<◌}
use native.Mathlib.Nat.{div-add-mod'}
use native.Mathlib.Omega.{arith}
use lib.Dec.{eqb}
use lib.ListN.{length}
use Rattle.base.specs.Lists.{each, Bytes}
use Rattle.base.specs.Pick.{pick}
use Rattle.refusal.specs.declared.Refusal.{Refusal}
use Rattle.refusal.specs.First.{refuse, accept, ◌if◌else◌}
use Rattle.refusal.proofs.First.{or_else_none}
use Rattle.lent.specs.Maker.{makes}
use Rattle.text.specs.Flags.{persistent, current}
use Rattle.text.specs.Drive.{Listed, Drive, bit}
use Rattle.text.specs.Response.{current_profile}
use Rattle.profiles.specs.Profiles.{profile_number, profile_current, listed, profiles_of}
use Rattle.layout.specs.declared.Layout.{Layout}
use Rattle.layout.specs.Layout.{Sheet, feature_count, profile_count, number, flags, profiles_part}
use Rattle.layout.specs.Contents.{laid}
use Rattle.layout.proofs.Laid.{laid_bytes}
use Rattle.sheet.specs.Check.{verdict, Accepted}
use Rattle.sheet.specs.Meaning.{desc, meaning, sheet_of, Fine}
use Rattle.sheet.proofs.Accepted.{facts}
use Rattle.sheet.proofs.Meaning.{meaning_fine}
use Rattle.sheet.proofs.Build.{sheet_accepted, sheet_means, sheet_bytes_law, sheet_back}
use Rattle.sheet.proofs.Same.{accepted_room, laid_meaning, laid_accepted, laid_of}
use Rattle.load.specs.Load.{is_in, ascends, lacks, flags_with, feature_with, profile_with, drive_with, lists_fault, loaded, load_fault, loading}
use Rattle.load.proofs.With.{with_fine, with_features, with_profiles, with_last}
use Rattle.load.proofs.Written.{bit_back, each_map, part_count}

module _ (s : Sheet) (b : Bytes s.bytes) (k : Accepted s) where
  module _ (fs ps : List ℕ) where
    fine : Fine (drive_with fs ps (meaning s))
    fine = with_fine fs ps (meaning s) (meaning_fine s b k)

    -- an accepted sheet stays accepted
    pub loaded_accepted : Accepted (loaded fs ps s)
    unfolding loaded
    loaded_accepted = sheet_accepted s.layout (drive_with fs ps (meaning s)) fine

    pub loaded_bytes : Bytes (loaded fs ps s).bytes
    unfolding loaded
    loaded_bytes = sheet_bytes_law s.layout fine

    -- with the drive that the medium makes of it
    pub loaded_means : meaning (loaded fs ps s) ≡ drive_with fs ps (meaning s)
    unfolding loaded
    loaded_means = sheet_means s.layout (drive_with fs ps (meaning s)) fine

    pub loaded_layout : (loaded fs ps s).layout ≡ s.layout
    unfolding loaded sheet_of
    loaded_layout = refl

    fault_lists : load_fault fs ps s ≡ lists_fault fs ps (meaning s)
    unfolding load_fault
    fault_lists = or_else_none (verdict s) _ k

-- Loading B after A gives what loading B alone gives: the sheet, and the whole answer with the buffer, refusals too.
module _ (s : Sheet) (b : Bytes s.bytes) (k : Accepted s) (fs ps fs' ps' : List ℕ) where
  pub loaded_last : loaded fs' ps' (loaded fs ps s) ≡ loaded fs' ps' s
  unfolding loaded
  loaded_last =
      ap₂ (λ (l : Layout) (m : Drive). sheet_of l (drive_with fs' ps' m)) (loaded_layout s b k fs ps) (loaded_means s b k fs ps)
      ∙ ap (sheet_of s.layout) (with_last fs ps fs' ps' (meaning s))

  fault_last : load_fault fs' ps' (loaded fs ps s) ≡ load_fault fs' ps' s
  unfolding lists_fault
  fault_last =
      fault_lists (loaded fs ps s) (loaded_bytes s b k fs ps) (loaded_accepted s b k fs ps) fs' ps'
      ∙ ap (lists_fault fs' ps') (loaded_means s b k fs ps)
      ∙ ap₂ (λ (u v : List ℕ). refuse 51 if not (ascends fs') || not (ascends ps') else refuse 52 if lacks u fs' || lacks v ps' else accept) (with_features fs ps (meaning s)) (with_profiles fs ps (meaning s))
      ∙ sym (fault_lists s b k fs' ps')

  pub loading_last : (d : List ℕ) → loading fs' ps' (loaded fs ps s) d ≡ loading fs' ps' s d
  unfolding loading
  loading_last d = ap₂ (λ (r : Refusal) (t : Sheet). makes r 53 t.bytes d) fault_last loaded_last

-- ---- both layouts of one sheet load to both layouts of one sheet

module _ (l : Layout) (s : Sheet) (b : Bytes s.bytes) (k : Accepted s) (fs ps : List ℕ) where
  pub loaded_laid : loaded fs ps (laid l s) ≡ laid l (loaded fs ps s)
  unfolding loaded laid
  loaded_laid =
      ap (λ (m : Drive). sheet_of l (drive_with fs ps m)) (laid_meaning l s b k)
      ∙ ap (sheet_of l) (sym (loaded_means s b k fs ps))
      ∙ laid_of l (loaded fs ps s) (loaded_bytes s b k fs ps) (loaded_accepted s b k fs ps)

  pub fault_laid : load_fault fs ps (laid l s) ≡ load_fault fs ps s
  fault_laid =
      fault_lists (laid l s) (laid_bytes l s b (accepted_room s b k)) (laid_accepted l s b k) fs ps
      ∙ ap (lists_fault fs ps) (laid_meaning l s b k)
      ∙ sym (fault_lists s b k fs ps)

-- ---- no medium

-- no list is at fault, and no profile is current
pub fault_none : (s : Sheet) → Accepted s → load_fault [] [] s ≡ accept
unfolding load_fault lists_fault ascends lacks pick ◌if◌else◌
fault_none s k = or_else_none (verdict s) accept k

pub profile_none : (fs : List ℕ) (m : Drive) → current_profile (drive_with fs [] m).profiles ≡ 0
unfolding drive_with current_profile profile_with is_in pick
profile_none fs m = off m.profiles
  where
    off : (ls : List Listed) → current_profile (map (profile_with []) ls) ≡ 0
    off [] = refl
    off (p ∷ ls) = off ls

-- ---- a medium that makes current what is so already: the sheet stays as it is

module _ (s : Sheet) (b : Bytes s.bytes) (k : Accepted s) (fs ps : List ℕ)
    (on : (i : ℕ) → i < feature_count s → current (flags s i) ≡ bit (eqb (persistent (flags s i)) 1 || is_in fs (number s i)))
    (on₂ : (i : ℕ) → i < profile_count s → profile_current (profiles_part s) i ≡ bit (is_in ps (profile_number (profiles_part s) i))) where
  same_desc : (i : ℕ) → i < feature_count s → desc s i ≡ feature_with fs (desc s i)
  unfolding desc feature_with flags_with
  same_desc i h =
      let e : flags s i ≡ flags s i / 2 * 2 + bit (eqb (persistent (flags s i)) 1 || is_in fs (number s i)) = omega (arith, on i h, div-add-mod' (flags s i) 2) in
      λ z. record { number = number s i; flags = e z; body = (desc s i).body }

  same_listed : (i : ℕ) → i < profile_count s → listed (profiles_part s) i ≡ profile_with ps (listed (profiles_part s) i)
  unfolding listed profile_with
  same_listed i h = λ z. record { number = profile_number (profiles_part s) i; on = (ap (λ (n : ℕ). eqb (n % 2) 1) (on₂ i h) ∙ bit_back (is_in ps (profile_number (profiles_part s) i))) z }

  same_drive : drive_with fs ps (meaning s) ≡ meaning s
  unfolding drive_with meaning profiles_of
  same_drive =
      let c = part_count fs ps (facts s b k) in
      let a : each (listed (profiles_part s)) 0 (length (profiles_part s) / 4) ≡ map (profile_with ps) (each (listed (profiles_part s)) 0 (length (profiles_part s) / 4)) =
      each_map (listed (profiles_part s)) (listed (profiles_part s)) (profile_with ps) 0 (length (profiles_part s) / 4) (λ j h m. same_listed j (omega (arith, c))) in
      let d : each (desc s) 0 (feature_count s) ≡ map (feature_with fs) (each (desc s) 0 (feature_count s)) =
      each_map (desc s) (desc s) (feature_with fs) 0 (feature_count s) (λ j h m. same_desc j (omega arith)) in
      let q : meaning s ≡ drive_with fs ps (meaning s) = λ z. record { profiles = a z; features = d z } in
      sym q

  pub loaded_same : loaded fs ps s ≡ s
  unfolding loaded
  loaded_same = ap (sheet_of s.layout) same_drive ∙ sheet_back s b k
