-- What the listing of a response leaves in lent memory. Assumes nothing.
use mathlib.Core.Path.{◌≡◌, sym, subst}
use mathlib.Core.List.{List, ◌++◌}
use Prim.Native.Nat.{ℕ, ◌≤◌, ◌<◌}
use lib.ListN.{length, take, drop}
use Rattle.base.specs.Lists.{Bytes}
use Rattle.lent.specs.Wrote.{Wrote}
use Rattle.lent.proofs.Laws.{front, kept, room_left}
use Rattle.listing.specs.Listing.{listing}
use Rattle.listing.proofs.Longest.{listing_whole}
use Rattle.listing.proofs.Promised.{Tells, tells}

-- Of the count r and the buffer e afterwards, which was d: the listing of the response s as far as there is room, and nothing else changed. It is
-- whole where the count is below the buffer's length, and in any buffer of 245,736 bytes.
pub record Lists (s d : List ℕ) (r : ℕ) (e : List ℕ) : Type 0 where
  pub wrote : Wrote d 0 (listing s) r e
  pub long : length e ≡ length d
  pub fits : length (listing s) ≤ length d → e ≡ listing s ++ drop (length (listing s)) d
  pub whole : r < length d → (r ≡ length (listing s)) × (take r e ≡ listing s)
  pub enough : Bytes s → 245736 ≤ length d → take r e ≡ listing s
  -- read back word by word, a whole one gives the numbers of the response
  pub reads_back : r < length d → Tells s (take r e)

pub lists : {s d e : List ℕ} {r : ℕ} → Wrote d 0 (listing s) r e → Lists s d r e
lists {s} {d} {e} {r} w = record { wrote = w; long = kept w; fits = front w; whole = room_left w; enough = λ b h. listing_whole s b d e r h w; reads_back = λ h. subst (Tells s) (sym (room_left w h).1) (tells s) }
