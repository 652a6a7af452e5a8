-- Odd flags: one descriptor's, and those of a response's descriptors. Assumes nothing.
use mathlib.Core.Path.{◌≡◌, refl, sym, ap, ◌∙◌}
use mathlib.Core.Bool.{Bool, true, false, not}
use mathlib.Core.List.{List}
use Prim.Native.Nat.{ℕ}
use native.Mathlib.Omega.{arith}
use Rattle.refusal.specs.declared.Refusal.{Refusal}
use Rattle.refusal.specs.First.{refuse, accept}
use Rattle.text.specs.Drive.{bit}
use Rattle.text.specs.Flags.{odd, flags_giving}
use Rattle.text.proofs.FlagsRule.{flags_even}
use Rattle.text.specs.declared.Reading.{Reading}
use Rattle.text.specs.Reading.{reading}
use Rattle.reading.specs.declared.Scanned.{Scanned}
use Rattle.reading.specs.declared.ScanJudged.{ScanJudged}
use Rattle.reading.specs.Scan.{scanned}
use Rattle.reading.specs.Completed.{completed}
use Rattle.reading.specs.Judged.{odd_flags, judged}
use Rattle.reading.specs.inner.Tally.{refusal, scan_judged}
use Rattle.reading.proofs.Completed.{complete_refused, complete_cut, complete_whole}

-- by whether flags f are odd
module _ (f : ℕ) (t : Bool) (q : t ≡ odd f) where
  pub odd_yes : t ≡ true → 1 ≡ odd_flags f
  unfolding odd_flags
  odd_yes e = ap bit (sym e ∙ q)

  pub odd_no : t ≡ false → 0 ≡ odd_flags f
  unfolding odd_flags
  odd_no e = ap bit (sym e ∙ q)

-- and back: no rule for flags refuses flags that are not odd
pub odd_zero : (a b : Refusal) (f : ℕ) → odd_flags f ≡ 0 → flags_giving a b f ≡ accept
unfolding odd_flags
odd_zero a b f e = flags_even a b f (go (odd f) e)
  where
    go : (t : Bool) → bit t ≡ 0 → t ≡ false
    go true k = absurd (omega (arith, k))
    go false k = refl

-- ---- the answer, by the scan j at hand: refused, cut, complete

module _ (s : List ℕ) (j : ScanJudged) (e : j ≡ scan_judged s) where
  reading_is : j.scan.reading ≡ reading 65534 0 0 s
  unfolding scanned
  reading_is = ap (λ (x : ScanJudged). x.scan.reading) e

  judged_as_here : (x : Reading) → x ≡ completed s → record { reading = x; odd = j.odd } ≡ judged s
  unfolding judged
  judged_as_here x p = λ i. record { reading = p i; odd = ap (λ (x : ScanJudged). x.odd) e i }

  pub judge_refused : (j.scan.reading.refusal.number ≡ 0 → ⊥) → record { reading = j.scan.reading; odd = j.odd } ≡ judged s
  judge_refused k = judged_as_here j.scan.reading (complete_refused s j.scan.reading reading_is k)

  module _ (k : j.scan.reading.refusal.number ≡ 0) where
    pub judge_cut : (c : Scanned) → not j.scan.reading.complete ≡ true → c ≡ refusal (refuse 29) → record { reading = c.reading; odd = j.odd } ≡ judged s
    judge_cut c h q = judged_as_here c.reading (complete_cut s j.scan.reading reading_is k c h q)

    pub judge_whole : not j.scan.reading.complete ≡ false → record { reading = j.scan.reading; odd = j.odd } ≡ judged s
    judge_whole h = judged_as_here j.scan.reading (complete_whole s j.scan.reading reading_is k h)
