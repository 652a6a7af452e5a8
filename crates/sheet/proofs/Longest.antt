-- How long a sheet is: 17,039,356 bytes at most, and that length is reached. Assumes nothing.
use mathlib.Core.Path.{◌≡◌, refl, ap, ◌∙◌}
use mathlib.Core.Bool.{false}
use Prim.Native.Nat.{ℕ, zero, suc, ◌+◌, ◌*◌, ◌%◌, ◌≤◌, ◌<◌}
use native.Mathlib.Omega.{arith}
use lib.ListN.{length, length-append, replicate, length-replicate}
use Rattle.base.specs.Lists.{each, flat, Bytes}
use Rattle.base.proofs.Lists.{length_each, each_all}
use Rattle.fields.proofs.Laws.{length_spell}
use Rattle.refusal.specs.First.{◌if◌else◌, pick_zero, ◌or_else◌}
use Rattle.text.specs.Flags as text
use Rattle.text.specs.Drive.{Desc, Listed, Drive, Good, Asc}
use Rattle.layout.specs.declared.Layout.{Layout}
use Rattle.layout.specs.Layout.{Sheet, sheet_size, feature_count, bodies_at}
use Rattle.layout.proofs.Contents.{length_contents}
use Rattle.sheet.specs.Check.{end_before_entry, flags_rule, Accepted}
use Rattle.sheet.specs.Facts.{Facts}
use Rattle.sheet.specs.Meaning.{sheet_of, Fine}
use Rattle.sheet.proofs.Accepted.{facts, feature_count_lt, end_next}
use Rattle.profiles.specs.Profiles.{Distinct}
use Rattle.text.proofs.Profiles.{length_profiles}
use Rattle.sheet.proofs.Pieces.{body, length_entries}
use Rattle.sheet.proofs.Fine.{count_low, bodies_low}

pub length_sheet : (l : Layout) (m : Drive) → sheet_size (sheet_of l m) ≡ 4 + 8 * length m.features + 4 * length m.profiles + length (flat (λ (d : Desc). d.body) m.features)
unfolding sheet_of
length_sheet l m = simp (length-append, length_spell, length_contents, length_entries, length_profiles)

pub length_sheet_le : (l : Layout) (m : Drive) → Fine m → sheet_size (sheet_of l m) ≤ 17039356
length_sheet_le l m f = omega (arith, length_sheet l m, count_low f, bodies_low f, f.sound.few)

-- ---- no accepted sheet is longer

end_le : (s : Sheet) → Facts s → (i : ℕ) → i ≤ feature_count s → end_before_entry s i ≤ bodies_at s + 252 * i
unfolding end_before_entry
end_le s f zero l = omega arith
end_le s f (suc i) l = omega (arith, end_next f i l, f.short i l, end_le s f i (omega arith))

pub longest : (s : Sheet) → Bytes s.bytes → Accepted s → sheet_size s ≤ 17039356
longest s b e =
    let f : Facts s = facts s b e in
    omega (arith, f.ends, f.few, feature_count_lt s b, end_le s f (feature_count s) (omega arith))

-- ---- one is as long

-- n features and p profiles, numbered from 1 on, with bodies of w bytes
unfoldable pub plain_desc : ℕ → ℕ → Desc
plain_desc w i = record { number = i; flags = 0; body = replicate w 0 }

unfoldable pub plain_listed : ℕ → Listed
plain_listed i = record { number = i; on = false }

unfoldable pub plain : ℕ → ℕ → ℕ → Drive
plain n p w = record { profiles = each plain_listed 1 p; features = each (plain_desc w) 1 n }

-- 65,535 features with bodies of 252 bytes, and 63 profiles
unfoldable pub longest_drive : Drive
longest_drive = plain 65535 63 252

plain_asc : (w i k : ℕ) → Asc i (each (plain_desc w) i k)
unfolding each plain_desc
plain_asc w i zero = tt
plain_asc w i (suc k) =
    let e : 1 + i ≡ suc i = omega arith in
    (omega arith, rw e (plain_asc w (suc i) k))

plain_distinct : (i k : ℕ) → 0 < i → Distinct (each plain_listed i k)
unfolding each plain_listed
plain_distinct i zero l = tt
plain_distinct i (suc k) l = (
  l,
  each_all (λ (q : Listed). q.number ≡ i → ⊥) plain_listed (suc i) k (λ j a b e. omega arith),
  plain_distinct (suc i) k (omega arith),
)

bytes_zeros : (w : ℕ) → Bytes (replicate w 0)
bytes_zeros zero i = omega arith
bytes_zeros (suc w) zero = omega arith
bytes_zeros (suc w) (suc i) = bytes_zeros w i

plain_good : (w i : ℕ) → i < 65536 → w % 4 ≡ 0 → w ≤ 252 → Good (plain_desc w i)
unfolding plain_desc
plain_good w i l e h = record {
  number_low = l;
  flags_low = omega arith;
  four = ap (λ (k : ℕ). k % 4) (length-replicate w 0) ∙ e;
  short = omega (arith, length-replicate {A = ℕ} w 0);
  bytes = bytes_zeros w;
}

plain_legal : (w i : ℕ) → (flags_rule (plain_desc w i).flags).number ≡ 0
unfolding plain_desc flags_rule text.flags_giving ◌if◌else◌ pick_zero ◌or_else◌
plain_legal w i = refl

plain_low : (i : ℕ) → i < 65536 → (plain_listed i).number < 65536
unfolding plain_listed
plain_low i l = l

plain_fine : (n p w : ℕ) → n < 65536 → p ≤ 63 → w % 4 ≡ 0 → w ≤ 252 → Fine (plain n p w)
unfolding plain
plain_fine n p w a b e h = record {
  sound = record {
    few = omega (arith, length_each plain_listed 1 p);
    profiles_low = each_all (λ (q : Listed). q.number < 65536) plain_listed 1 p (λ j l k. plain_low j (omega arith));
    ascending = plain_asc w 1 n;
    good = each_all Good (plain_desc w) 1 n (λ j l k. plain_good w j (omega arith) e h);
  };
  distinct = plain_distinct 1 p (omega arith);
  legal = each_all (λ (d : Desc). (flags_rule d.flags).number ≡ 0) (plain_desc w) 1 n (λ j l k. plain_legal w j);
}

plain_bodies : (w i n : ℕ) → length (flat body (each (plain_desc w) i n)) ≡ w * n
unfolding each flat plain_desc
plain_bodies w i zero = omega arith
plain_bodies w i (suc n) = omega (arith, length-append (replicate w 0) (flat body (each (plain_desc w) (suc i) n)), length-replicate {A = ℕ} w 0, plain_bodies w (suc i) n)

plain_length : (l : Layout) (n p w : ℕ) → sheet_size (sheet_of l (plain n p w)) ≡ 4 + 8 * n + 4 * p + w * n
unfolding plain
plain_length l n p w = omega (arith, length_sheet l (plain n p w), length_each (plain_desc w) 1 n, length_each plain_listed 1 p, plain_bodies w 1 n)

pub longest_fine : Fine longest_drive
unfolding longest_drive
longest_fine = plain_fine 65535 63 252 (omega arith) (omega arith) refl (omega arith)

pub longest_reached : (l : Layout) → sheet_size (sheet_of l longest_drive) ≡ 17039356
unfolding longest_drive
longest_reached l = plain_length l 65535 63 252
