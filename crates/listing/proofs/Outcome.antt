-- A listing by the reading at hand: refused or accepted. Assumes nothing.
use mathlib.Core.Path.{◌≡◌, refl}
use mathlib.Core.List.{List, ◌++◌}
use Prim.Native.Nat.{ℕ}
use lib.ListN.{length}
use Rattle.base.specs.Lists.{flat}
use Rattle.refusal.proofs.First.{unless_none, unless_fault}
use Rattle.text.specs.declared.Reading.{Reading}
use Rattle.text.specs.Reading.{read_fault, walked, nothing_read, taken, reading}
use Rattle.reading.specs.Places.{descs}
use Rattle.text.proofs.Received.{reading_cases}
use Rattle.listing.specs.Listing.{first_line, desc_line, ending_line, refused_line, accepted, listing}

module _ (s : List ℕ) where
  pub listing_fault : ((read_fault 65534 0 0 s).number ≡ 0 → ⊥) → listing s ≡ refused_line (read_fault 65534 0 0 s).number
  unfolding listing
  listing_fault k = unless_fault (read_fault 65534 0 0 s) _ _ k

  pub listing_none : (read_fault 65534 0 0 s).number ≡ 0 → listing s ≡ accepted s (walked 0 0 s).found
  unfolding listing
  listing_none e = unless_none (read_fault 65534 0 0 s) _ _ e

  module _ (r : Reading) (q : r ≡ reading 65534 0 0 s) where
    pub listing_refused : (r.refusal.number ≡ 0 → ⊥) → listing s ≡ refused_line r.refusal.number
    unfolding nothing_read taken
    listing_refused =
        rw q
        (reading_cases 65534 0 0 s (λ x ds. (x.refusal.number ≡ 0 → ⊥) → listing s ≡ refused_line x.refusal.number)
        (λ k h. listing_fault k)
        (λ k h. absurd (h refl)))

    pub listing_accepted : r.refusal.number ≡ 0
        → listing s ≡ first_line r.profile.0 (length s) r.count ++ flat desc_line (descs s) ++ ending_line r.complete
    unfolding nothing_read taken accepted
    listing_accepted =
        rw q
        (reading_cases 65534 0 0 s (λ x ds. x.refusal.number ≡ 0 → listing s ≡ first_line x.profile.0 (length s) x.count ++ flat desc_line ds ++ ending_line x.complete)
        (λ k h. absurd (k h))
        (λ k h. listing_none k))
