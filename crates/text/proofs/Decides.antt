-- A header's own contract asks nothing and decides both of its fields: the day it says less, this is refused. Assumes nothing.
use mathlib.Core.Path.{refl}
use Rattle.base.proofs.Decided.{Decided, decides, joined}
use Rattle.text.specs.contracts.Header.new as new

pub new_decided : Decided new.ended (λ M 𝓤 𝓛. new.clauses 𝓛) (λ M 𝓤 𝓛. new.spec 𝓛)
new_decided x = decides x.𝓤 (λ o o' p q. (joined p q, refl))
