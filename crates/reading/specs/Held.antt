-- The descriptor of a feature, of the fresh response or of the kept one. Assumes nothing: these are definitions.
use Rattle.std.specs.Prelude.{Bool, true, false, List, ℕ, ◌+◌, ltb, eqb, length}
use Rattle.std.specs.Borrow.{Bor}
use Rattle.base.specs.Lists.{flat, keep}
use Rattle.fields.specs.Part.{PartOf}
use Rattle.text.specs.Drive.{Desc}
use Rattle.text.specs.Response.{bytes, header_length}
use Rattle.reading.specs.Places.{descs}

-- a descriptor of feature f
abbrev pub is_of : ℕ → Desc → Bool
is_of f d = eqb d.number f

-- a descriptor of a lower feature
abbrev pub is_below : ℕ → Desc → Bool
is_below f d = ltb d.number f

-- the bytes of feature f's descriptor in a response to RT 0 from 0: none where the response is refused or does not have it whole
unfoldable pub held_in : (f : ℕ) (s : List ℕ) → List ℕ
held_in f s = flat bytes (keep (is_of f) (descs s))

-- where it stands: behind the header and the whole descriptors of lower features. Where the response does not have it, it would stand there
unfoldable pub place_in : (f : ℕ) (s : List ℕ) → ℕ
place_in f s = header_length + length (flat bytes (keep (is_below f) (descs s)))

-- r is that descriptor as a part of the response s
abbrev pub HeldIn : (f : ℕ) (s r : Bor (List ℕ)) → Type 0
HeldIn f s r = PartOf s (place_in f s.now) (held_in f s.now) r

-- the fresh response has it whole
unfoldable pub from_fresh : (f : ℕ) (fresh : List ℕ) → Bool
from_fresh f fresh = ltb 0 (length (keep (is_of f) (descs fresh)))

-- that of the fresh response if whole there, else that of the kept one
unfoldable pub held_of : (f : ℕ) (fresh kept : List ℕ) → List ℕ
held_of f fresh kept = elim (from_fresh f fresh) [ true ↦ held_in f fresh | false ↦ held_in f kept ]

-- the response that it is taken from, and r as a part of that one
unfoldable pub source : (f : ℕ) (fresh kept : Bor (List ℕ)) → Bor (List ℕ)
source f fresh kept = elim (from_fresh f fresh.now) [ true ↦ fresh | false ↦ kept ]

abbrev pub HeldOf : (f : ℕ) (fresh kept r : Bor (List ℕ)) → Type 0
HeldOf f fresh kept r = PartOf (source f fresh kept) (place_in f (source f fresh kept).now) (held_of f fresh.now kept.now) r
