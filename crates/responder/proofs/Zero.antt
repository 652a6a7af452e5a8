-- Feature 0 and the current profile, made from a sheet's profiles. Assumes nothing.
use mathlib.Core.Path.{◌≡◌, refl, ap, ◌∙◌}
use mathlib.Core.List.{append_assoc}
use Prim.Native.Nat.{ℕ, ◌+◌, ◌*◌, ◌<◌}
use native.Mathlib.Nat.{mod-eq_of_lt}
use native.Mathlib.Omega.{arith}
use lib.ListN.{length}
use Rattle.base.specs.Lists.{flat, Bytes}
use Rattle.text.specs.Drive.{profile_bytes}
use Rattle.text.specs.Response.{bytes, feature0, current_profile}
use Rattle.text.proofs.Profiles.{length_profiles}
use Rattle.text.proofs.Sizes.{length_bytes}
use Rattle.profiles.specs.Profiles.{profiles_of}
use Rattle.layout.specs.Layout.{Sheet, profile_count, profiles_part}
use Rattle.sheet.specs.Check.{Accepted}
use Rattle.sheet.specs.Meaning.{meaning}
use Rattle.sheet.proofs.Accepted.{facts}
use Rattle.sheet.proofs.Meaning.{profiles_count}
use Rattle.sheet.proofs.Build.{part_back}
use Rattle.responder.specs.inner.Index.{zero_bytes}

pub zero_bytes_law : (s : Sheet) → Bytes s.bytes → Accepted s → zero_bytes s.bytes ≡ bytes (feature0 (meaning s).profiles)
unfolding zero_bytes bytes feature0
zero_bytes_law s b e =
    let l : 4 * profile_count s < 256 = omega (arith, (facts s b e).few) in
    let n : length (flat profile_bytes (meaning s).profiles) ≡ 4 * profile_count s = length_profiles (meaning s).profiles ∙ ap (λ (k : ℕ). 4 * k) (profiles_count s (facts s b e)) in
    rw (mod-eq_of_lt l, ← part_back s b (facts s b e), n) (simp append_assoc)

pub length_zero_bytes : (s : Sheet) → Bytes s.bytes → Accepted s → length (zero_bytes s.bytes) ≡ 4 + 4 * profile_count s
unfolding feature0
length_zero_bytes s b e =
    omega (arith, ap length (zero_bytes_law s b e), length_bytes (feature0 (meaning s).profiles), length_profiles (meaning s).profiles, profiles_count s (facts s b e))

-- ---- the current profile

pub current_from : (s : Sheet) → current_profile (profiles_of (profiles_part s)) ≡ current_profile (meaning s).profiles
unfolding meaning
current_from s = refl
