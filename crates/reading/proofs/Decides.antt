-- The own contracts of `judge` and `held` ask nothing and decide all: the day one says less, this is refused. Assumes nothing.
use mathlib.Core.Path.{refl}
use Rattle.base.proofs.Decided.{Decided, DecidedAs, seen, decides, joined}
use Rattle.fields.proofs.Parts.{same_part}
use Rattle.reading.specs.contracts.judge as judge
use Rattle.reading.specs.contracts.held as held

pub judge_decided : Decided judge.ended (λ M 𝓤 𝓛. judge.clauses 𝓛) (λ M 𝓤 𝓛. judge.spec 𝓛)
judge_decided x = decides x.𝓤 (λ o o' p q. (joined p q, refl))

pub held_decided : DecidedAs held.ended (λ M 𝓤 𝓛. held.clauses 𝓛) (λ M 𝓤 𝓛. held.spec 𝓛) (λ κs r. seen r)
held_decided x = decides x.𝓤 (λ o o' p q. (same_part p q, refl))
