-- What the box's answer is where the whole response buffer was set to zero and has room: what a round of the code does. Assumes nothing.
use mathlib.Core.Path.{◌≡◌, refl}
use mathlib.Core.List.{List}
use Prim.Native.Nat.{ℕ, ◌≤◌}
use native.Mathlib.Omega.{arith}
use lib.ListN.{length, take, length-replicate}
use lib.Seq.{take-append_seam}
use Rattle.refusal.specs.First.{accept}
use Rattle.lent.specs.Maker.{outcome, written, making}
use Rattle.lent.proofs.Maker.{makes_made}
use Rattle.text.specs.Drive.{Drive}
use Rattle.text.specs.Response.{sent, most}
use Rattle.text.proofs.Sent.{length_sent}
use Rattle.layout.specs.Layout.{Sheet}
use Rattle.sheet.specs.Meaning.{meaning}
use Rattle.responder.specs.Answer as box
use Rattle.bench.specs.Bench.{zeros, filled}

-- a response has at most C bytes
pub sent_most : (rt f a : ℕ) (m : Drive) → length (sent rt f a m) ≤ most a
sent_most rt f a m = omega (arith, length_sent rt f a m)

-- the bytes sent are the front of the buffer
pub take_filled : (xs d : List ℕ) → take (length xs) (filled xs d) ≡ xs
unfolding filled
take_filled xs d = take-append_seam xs _

-- the box accepts, returns the count of bytes sent, and leaves them with zeros behind
pub asked : (s : Sheet) (rt f a : ℕ) (d : List ℕ) → most a ≤ length d
    → box.requested s rt f a (zeros d) ≡ outcome (written (length (sent rt f a (meaning s)))) (filled (sent rt f a (meaning s)) d)
unfolding box.requested making filled zeros
asked s rt f a d h =
    let l : length (sent rt f a (meaning s)) ≤ length (zeros d) = omega (arith, sent_most rt f a (meaning s), length-replicate {A = ℕ} (length d) 0) in
    makes_made accept 12 (sent rt f a (meaning s)) (zeros d) refl l
