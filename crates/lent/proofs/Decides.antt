-- The contract of `note` itself asks nothing and decides the index and every number of the list: the day it says less, this is refused. Assumes nothing.
use mathlib.Core.Path.{refl}
use Rattle.base.proofs.Decided.{Decided, decides, ◌&◌}
use Rattle.lent.proofs.Laws.{same}
use Rattle.lent.specs.contracts.note as note

pub note_decided : Decided note.ended (λ M 𝓤 𝓛. note.clauses 𝓛) (λ M 𝓤 𝓛. note.spec 𝓛)
note_decided x = decides x.𝓤 (λ o o' p q. ((same p q).0, (same p q).1 & refl))
