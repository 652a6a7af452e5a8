-- The order in which the mistakes are tried, as the promise has it. Assumes nothing.
use Prim.Native.Nat.{ℕ, ◌≤◌, ◌<◌}
use native.Mathlib.Omega.{arith}
use Rattle.base.specs.Lists.{All}
use Rattle.judge.specs.Boxes.{mistakes}
use Rattle.judge.specs.declared.Mistake.{Mistake}
use Rattle.judge.specs.declared.Mistake.TheVariants.{OnlyAbove, LengthCut, LengthOfAll, HighestCurrent, HighestListed, NotOnlyCurrent, NotOnlyOne, Unexplained}

-- the order of the mistakes; none comes behind them all
unfoldable pub rank : Mistake → ℕ
rank OnlyAbove = 1
rank LengthCut = 2
rank LengthOfAll = 3
rank HighestCurrent = 4
rank HighestListed = 5
rank NotOnlyCurrent = 6
rank NotOnlyOne = 7
rank Unexplained = 8

rank_most : (w : Mistake) → rank w ≤ 8
unfolding rank
rank_most OnlyAbove = omega arith
rank_most LengthCut = omega arith
rank_most LengthOfAll = omega arith
rank_most HighestCurrent = omega arith
rank_most HighestListed = omega arith
rank_most NotOnlyCurrent = omega arith
rank_most NotOnlyOne = omega arith
rank_most Unexplained = omega arith

-- all of them but none
pub each_mistake : (P : Mistake → Type 0) → All P mistakes → (v w : Mistake) → rank v < rank w → P v
unfolding mistakes rank
each_mistake P a OnlyAbove w h = a.0
each_mistake P a LengthCut w h = a.1.0
each_mistake P a LengthOfAll w h = a.1.1.0
each_mistake P a HighestCurrent w h = a.1.1.1.0
each_mistake P a HighestListed w h = a.1.1.1.1.0
each_mistake P a NotOnlyCurrent w h = a.1.1.1.1.1.0
each_mistake P a NotOnlyOne w h = a.1.1.1.1.1.1.0
each_mistake P a Unexplained w h = absurd (omega (arith, h, rank_most w))
