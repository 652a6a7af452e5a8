-- What an accepted sheet gives. Assumes nothing: these are definitions.
use Rattle.std.specs.Prelude.{◌≡◌, ℕ, ◌+◌, ◌%◌, ◌≤◌, ◌<◌}
use Rattle.profiles.specs.Profiles.{Kept}
use Rattle.layout.specs.Layout.{Sheet, sheet_size, feature_count, profile_count, bodies_at, number, flags, body_length, offset, profiles_part}
use Rattle.sheet.specs.Check.{number_before, end_before_entry, flags_rule}

pub record Facts (s : Sheet) : Type 0 where
  -- there is room for contents and profiles, and the sheet ends where the last body ends
  pub room : bodies_at s ≤ sheet_size s
  pub ends : sheet_size s ≡ end_before_entry s (feature_count s)
  -- at most 63 profiles, their numbers not 0 and distinct, their third byte 0 or 1 and their last 0
  pub few : profile_count s ≤ 63
  pub profiles : (i : ℕ) → i < profile_count s → Kept (profiles_part s) i
  -- feature numbers not 0 and strictly ascending, flags legal, body lengths multiples of 4 and at most 252
  pub above : (i : ℕ) → i < feature_count s → number_before s i < number s i
  pub legal : (i : ℕ) → i < feature_count s → (flags_rule (flags s i)).number ≡ 0
  pub four : (i : ℕ) → i < feature_count s → body_length s i % 4 ≡ 0
  pub short : (i : ℕ) → i < feature_count s → body_length s i ≤ 252
  -- bodies in order with no gap, each inside the sheet
  pub follows : (i : ℕ) → i < feature_count s → offset s i ≡ end_before_entry s i
  pub inside : (i : ℕ) → i < feature_count s → offset s i + body_length s i ≤ sheet_size s
