-- Two sheets that say the same, each in its layout. Assumes nothing: these are definitions.
use Rattle.std.specs.Prelude.{◌≡◌, ℕ, ◌<◌, drop}
use Rattle.layout.specs.Layout.{Sheet, sheet_size, feature_count, profile_count, profiles_at}
use Rattle.layout.specs.Contents.{entry_of}

pub record SameSheet (s t : Sheet) : Type 0 where
  pub long : sheet_size s ≡ sheet_size t
  pub features : feature_count s ≡ feature_count t
  pub profiles : profile_count s ≡ profile_count t
  pub entries : (i : ℕ) → i < feature_count s → entry_of s i ≡ entry_of t i
  pub behind : drop (profiles_at s) s.bytes ≡ drop (profiles_at t) t.bytes
