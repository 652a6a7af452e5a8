-- The contract of `make` itself asks nothing and decides what it answers and every byte of the buffer: the day it says less, this is refused. Assumes nothing.
use mathlib.Core.Path.{refl, ap}
use Rattle.base.proofs.Decided.{Decided, decides, joined, ◌&◌}
use Rattle.lent.specs.Maker.{Outcome}
use Rattle.sense.specs.contracts.make as make

pub make_decided : Decided make.ended (λ M 𝓤 𝓛. make.clauses 𝓛) (λ M 𝓤 𝓛. make.spec 𝓛)
make_decided x = decides x.𝓤 (λ o o' p q. (ap (λ (z : Outcome). z.made) (joined p q), refl & ap (λ (z : Outcome). z.buffer) (joined p q) & refl))
