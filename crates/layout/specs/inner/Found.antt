-- What a writer of descriptors looks at before it writes. Assumes nothing: these are definitions.
use Rattle.std.specs.Prelude.{ℕ}
use Rattle.layout.specs.declared.Found.{Found}
use Rattle.layout.specs.Layout.{Sheet, feature_count, flags, body_length, offset_place}

unfoldable pub found_of : Sheet → ℕ → Found
found_of s i = record { flags = record { 0 = flags s i }; length = body_length s i; place = offset_place s.layout (feature_count s) i }
