-- What `held` promises of every outcome that its own contract allows: it stands in this crate so that an edit of contract and code together is refused by it. Assumes nothing.
use mathlib.Core.Path.{◌≡◌, refl, sym}
use mathlib.Core.List.{List}
use Prim.Native.Nat.{ℕ}
use lib.ListN.{length}
use Rattle.base.proofs.Promise.{Promised, promises}
use Rattle.reading.specs.Held.{held_in, held_of}
use Rattle.reading.proofs.Fresh.{held_fresh, held_kept}
use Rattle.reading.proofs.Lies.{Lies, held_lies}
use Rattle.reading.specs.contracts.held as held

-- Of the part h that is given for the feature f: its descriptor in the fresh response if it is whole there, else that of the kept one.
pub record Holds (f : ℕ) (fresh kept h : List ℕ) : Type 0 where
  pub first : (length (held_in f fresh) ≡ 0 → ⊥) → h ≡ held_in f fresh
  pub else : length (held_in f fresh) ≡ 0 → h ≡ held_in f kept

pub holds : (f : ℕ) (fresh kept : List ℕ) → Holds f fresh kept (held_of f fresh kept)
holds f fresh kept = record {
  first = λ n. sym (held_fresh f fresh kept (held_in f fresh) refl n);
  else = λ z. sym (held_kept f fresh kept (held_in f fresh) refl z);
}

-- the part itself lies in the response that it is taken from
pub held_tied : Promised held.ended (λ M 𝓤 𝓛. held.clauses 𝓛) (λ M 𝓤 𝓛. held.spec 𝓛) (λ x o. Lies x.args.0.0 x.args.1.0 x.args.1.1.0 o.0)
held_tied x = promises x.𝓤 (λ o. held_lies _ _ _ _)
