-- A captured response that is checked, with no sheet made of it. `capture_of`, in crates/capture/specs/Capture.antt, is what the contract of `capture::check` says;
-- `captured (descs r)` is the drive that the response r describes. Assumes nothing.
use mathlib.Core.Path.{◌≡◌, refl, sym, ap, ◌∙◌}
use mathlib.Core.List.{List}
use Prim.Native.Nat.{ℕ, zero, suc, ◌≤◌}
use native.Mathlib.Omega.{arith}
use lib.ListN.{length}
use Rattle.base.specs.Lists.{Bytes}
use Rattle.base.proofs.Promise.{by}
use Rattle.refusal.specs.First.{accept}
use Rattle.refusal.specs.Lines.{old}
use Rattle.text.specs.Drive.{Drive}
use Rattle.text.specs.Response.{full}
use Rattle.reading.specs.Places.{descs}
use Rattle.sheet.specs.Meaning.{Fine}
use Rattle.capture.specs.declared.Capture.{Capture}
use Rattle.capture.specs.Capture.{captured, capture_fault, capture_of}
use Rattle.capture.specs.Lines.{LocatedAmong, NoVersionsAmong, old_capture}
use Rattle.capture.proofs.Describes.{captured_fine, captured_full, capture_accepts}
use Rattle.capture.proofs.Checked.{capture_of_fault, capture_of_none}
use Rattle.capture.proofs.Lines.{check_located, check_old}
use Rattle.capture.proofs.Own.{own_accepted, own_drive}
use Rattle.capture.proofs.Promised.{Refused, refused_is}

-- Of an answer o to the response r: the first refusal, in the paper's order, and the count 0; where there is none, how many features the drive has that r
-- describes. It is a drive that a sheet can describe, and r is its full response. The full response of any such drive, of at most 65,534 bytes, is not
-- refused and describes that drive. A refusal's place is that of the first profile of feature 0, or of the first feature behind it, at fault, 0 where its
-- number has none; where no feature behind feature 0 has a Version above 0, the number as it was with one 5 for flags is a function of its number. In plain
-- numbers of the bytes each number has its ground and its turn.
pub record Captures (r : List ℕ) (o : Capture) : Type 0 where
  pub refuses : ((capture_fault r).number ≡ 0 → ⊥) → o ≡ record { refusal = capture_fault r; features = 0 }
  pub counts : (capture_fault r).number ≡ 0 → o ≡ record { refusal = accept; features = length (captured (descs r)).features }
  pub fine : Bytes r → (capture_fault r).number ≡ 0 → Fine (captured (descs r))
  pub back : Bytes r → (capture_fault r).number ≡ 0 → full 0 0 (captured (descs r)) ≡ r
  pub own : (m : Drive) → Fine m → length (full 0 0 m) ≤ 65534 → r ≡ full 0 0 m → o ≡ record { refusal = accept; features = length m.features }
  pub located : LocatedAmong (descs r) o.refusal
  pub old_number : NoVersionsAmong (descs r) → (old_capture r).number ≡ old o.refusal.number
  pub plain : Refused r o.refusal

capture_refusal : (r : List ℕ) → (capture_of r).refusal ≡ capture_fault r
capture_refusal r = go (capture_fault r).number refl
  where
    go : (n : ℕ) → (capture_fault r).number ≡ n → (capture_of r).refusal ≡ capture_fault r
    go zero e = ap (λ (o : Capture). o.refusal) (capture_of_none r e) ∙ sym (capture_accepts r e)
    go (suc n) e = ap (λ (o : Capture). o.refusal) (capture_of_fault r (λ z. omega arith))

pub captures : (r : List ℕ) → Captures r (capture_of r)
captures r = record {
  refuses = capture_of_fault r;
  counts = capture_of_none r;
  fine = captured_fine r;
  back = captured_full r;
  own = λ m f l e.
      let none : (capture_fault r).number ≡ 0 = rw e (ap (λ x. x.number) (own_accepted f l)) in
      let drive : captured (descs r) ≡ m = rw e (own_drive f l) in
      capture_of_none r none ∙ ap (λ (d : Drive). record { refusal = accept; features = length d.features }) drive;
  located = check_located r;
  old_number = check_old r;
  plain = by (Refused r) (refused_is r) (capture_refusal r);
}
