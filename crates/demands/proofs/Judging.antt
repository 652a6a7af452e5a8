-- What the judge of other people's boxes promises, over its own contract: it decides the verdict and every byte of the scratch buffer; each verdict means what it says, exact is said
-- exactly of the bytes due, and the mistake that is named is the first whose box sends these bytes. Assumes nothing.
use mathlib.Core.Path.{◌≡◌, refl, ap}
use mathlib.Core.Logic.{◌⊎◌, inl, inr}
use mathlib.Core.List.{[], ◌∷◌, map}
use Rattle.base.proofs.Decided.{Decided, decides, joined, ◌&◌}
use Rattle.base.proofs.Promise.{Promised, promises, by}
use Rattle.layout.specs.Layout.{stored}
use Rattle.judge.specs.Verdict.{Judgement, judgement}
use Rattle.judge.specs.Boxes.{mistakes, mistake_number}
use Rattle.judge.specs.declared.Mistake.{Mistake}
use Rattle.judge.specs.declared.Mistake.TheVariants.{OnlyAbove, LengthCut, LengthOfAll, HighestCurrent, HighestListed, NotOnlyCurrent, NotOnlyOne, Unexplained}
use Rattle.judge.proofs.Order.{rank}
use Rattle.judge.proofs.Promised.{Judges, judges}
use Rattle.judge.specs.contracts.judge as judge
use Rattle.demands.proofs.Named.{named}

pub judge_decided : Decided judge.ended (λ M 𝓤 𝓛. judge.clauses 𝓛) (λ M 𝓤 𝓛. judge.spec 𝓛)
judge_decided x = decides x.𝓤 (λ o o' p q. (ap (λ (z : Judgement). z.said) (joined p q), refl & refl & refl & refl & ap (λ (z : Judgement). z.scratch) (joined p q) & refl))

pub judge_tied : Promised judge.ended (λ M 𝓤 𝓛. judge.clauses 𝓛) (λ M 𝓤 𝓛. judge.spec 𝓛)
    (named (λ _ lay s command response scratch r _ _ _ _ scratch'. Judges (stored lay s.now) command.now response.now scratch.now (judgement r scratch')))
judge_tied x = promises x.𝓤 (λ o. by (Judges _ _ _ _) (judges _ _ _ _))

-- to C each mistake is told by its place in the order in which they are tried, from 1 on, and none by 0
pub mistake_told : (map mistake_number mistakes ≡ 1 ∷ 2 ∷ 3 ∷ 4 ∷ 5 ∷ 6 ∷ 7 ∷ []) × (mistake_number Unexplained ≡ 0)
unfolding mistakes mistake_number
mistake_told = (refl, refl)

-- that place is the mistake's rank, the promise's own table
pub mistake_ranked : (w : Mistake) → ((w ≡ Unexplained) × (mistake_number w ≡ 0)) ⊎ (mistake_number w ≡ rank w)
unfolding mistake_number rank
mistake_ranked OnlyAbove = inr refl
mistake_ranked LengthCut = inr refl
mistake_ranked LengthOfAll = inr refl
mistake_ranked HighestCurrent = inr refl
mistake_ranked HighestListed = inr refl
mistake_ranked NotOnlyCurrent = inr refl
mistake_ranked NotOnlyOne = inr refl
mistake_ranked Unexplained = inl (refl, refl)
