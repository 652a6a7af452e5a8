-- An accepted sheet means a drive that a sheet can describe. Assumes nothing.
use mathlib.Core.Path.{◌≡◌, ap, ◌∙◌}
use Prim.Native.Nat.{ℕ, zero, suc, ◌+◌, ◌%◌, ◌≤◌, ◌<◌}
use native.Mathlib.Omega.{arith}
use lib.ListN.{length, drop, length-drop}
use lib.Seq.{length-take-le}
use Rattle.base.specs.Lists.{each, Bytes}
use Rattle.base.proofs.Lists.{bytes_drop, bytes_take, each_all}
use Rattle.text.specs.Drive.{Desc, Good, Asc}
use Rattle.profiles.proofs.Kept.{length_profiles_of, low_of, kept_distinct}
use Rattle.layout.specs.Layout.{Sheet, feature_count, profile_count, number, body_length, offset, profiles_part}
use Rattle.sheet.specs.Check.{number_before, flags_rule, Accepted}
use Rattle.sheet.specs.Facts.{Facts}
use Rattle.sheet.specs.Meaning.{desc, meaning, Fine}
use Rattle.sheet.proofs.Accepted.{facts, number_lt, flags_lt, length_profiles_part, bytes_profiles_part}

pub profiles_count : (s : Sheet) → Facts s → length (meaning s).profiles ≡ profile_count s
unfolding meaning
profiles_count s f = omega (arith, length_profiles_of (profiles_part s), length_profiles_part s f.room)

module _ {s : Sheet} (f : Facts s) where
  -- a body is as long as its entry says
  pub body_length_law : (i : ℕ) → i < feature_count s → length (desc s i).body ≡ body_length s i
  unfolding desc
  body_length_law i l =
      let r : body_length s i ≤ length (drop (offset s i) s.bytes) = simp length-drop (omega (arith, f.inside i l)) in
      length-take-le (body_length s i) (drop (offset s i) s.bytes) r

  desc_good : Bytes s.bytes → (i : ℕ) → i < feature_count s → Good (desc s i)
  unfolding desc
  desc_good b i l = record {
    number_low = number_lt s i b;
    flags_low = flags_lt s i b;
    four = ap (λ (k : ℕ). k % 4) (body_length_law i l) ∙ f.four i l;
    short = omega (arith, body_length_law i l, f.short i l);
    bytes = bytes_take (body_length s i) (drop (offset s i) s.bytes) (bytes_drop (offset s i) s.bytes b);
  }

  ascend_from : (i k : ℕ) → i + k ≤ feature_count s → Asc (suc (number_before s i)) (each (desc s) i k)
  unfolding each desc number_before
  ascend_from i zero l = tt
  ascend_from i (suc k) l =
      let e : 1 + number s i ≡ suc (number s i) = omega arith in
      (f.above i (omega arith), rw e (ascend_from (suc i) k (omega arith)))

pub fine_of : (s : Sheet) → Bytes s.bytes → Facts s → Fine (meaning s)
unfolding meaning number_before desc
fine_of s b f = record {
  sound = record {
    few = omega (arith, profiles_count s f, f.few);
    profiles_low = low_of (profiles_part s) (bytes_profiles_part s b);
    ascending = ascend_from f 0 (feature_count s) (omega arith);
    good = each_all Good (desc s) 0 (feature_count s) (λ j l m. desc_good f b j (omega arith));
  };
  distinct = kept_distinct (profiles_part s) (λ i h. f.profiles i (omega (arith, length_profiles_part s f.room)));
  legal = each_all (λ (d : Desc). (flags_rule d.flags).number ≡ 0) (desc s) 0 (feature_count s) (λ j l m. f.legal j (omega arith));
}

pub meaning_fine : (s : Sheet) → Bytes s.bytes → Accepted s → Fine (meaning s)
meaning_fine s b e = fine_of s b (facts s b e)
