-- Sense data in fixed format: what is made for a number that a command gives, and what received bytes mean. Assumes nothing: these are definitions.
use Rattle.std.specs.Prelude.{Bool, true, false, not, ◌&&◌, List, [], ◌∷◌, ℕ, ◌%◌, eqb, length, get_or}
use Rattle.base.specs.Pick.{pick}
use Rattle.refusal.specs.declared.Refusal.{Refusal}
use Rattle.refusal.specs.First.{refuse, accept, ◌if◌else◌, unless}
use Rattle.lent.specs.Maker.{Outcome, makes}
use Rattle.sense.specs.declared.Kind.{Kind}
use Rattle.sense.specs.declared.Kind.TheVariants.{Nothing, Operation, Field, Trouble}
use Rattle.sense.specs.declared.Sense.{Sense}
use Rattle.sense.specs.declared.Sense.TheVariants.{Means, Refused}
use Rattle.sense.specs.declared.Line.{Line}

-- what an answer says: the refusal or none, and the kind where nothing is refused
pub record Heard : Type 0 where
  pub refusal : Refusal
  pub kind : List Kind

abbrev pub hearing : Refusal → List Kind → Heard
hearing r k = record { refusal = r; kind = k }

-- each case of the answer
abbrev pub heard : Sense → Heard
heard (Means k) = hearing accept (k ∷ [])
heard (Refused r) = hearing r []

-- ---- the table

-- a number that a command gives, and its kind
abbrev pub given_as : ℕ → Kind → Line
given_as n k = record { 0 = n; 1 = k }

abbrev pub no_sense : Line
no_sense = given_as 0 Nothing

-- every number that a command gives: none; the sheet's; the command's; a response buffer that is too short; those of an image that is no complete response of
-- ours; the sheet's and the image's for Persistent
unfoldable pub given : List Line
given =
    given_as 0 Nothing ∷
    given_as 1 Trouble ∷
    given_as 2 Trouble ∷
    given_as 3 Trouble ∷
    given_as 4 Trouble ∷
    given_as 5 Trouble ∷
    given_as 6 Trouble ∷
    given_as 7 Trouble ∷
    given_as 8 Trouble ∷
    given_as 9 Operation ∷
    given_as 10 Operation ∷
    given_as 11 Field ∷
    given_as 12 Trouble ∷
    given_as 14 Trouble ∷
    given_as 15 Trouble ∷
    given_as 16 Trouble ∷
    given_as 17 Trouble ∷
    given_as 18 Trouble ∷
    given_as 20 Trouble ∷
    given_as 29 Trouble ∷
    given_as 41 Trouble ∷
    given_as 44 Trouble ∷ []

-- the kind of a number; 54: no command gives it
unfoldable pub kind_of : ℕ → Heard
kind_of n = pick (λ l. eqb l.0 n) (λ l. heard (Means l.1)) (heard (Refused (refuse 54))) given

-- ---- the bytes

-- the sense key: NO SENSE, ILLEGAL REQUEST, HARDWARE ERROR
unfoldable pub key : Kind → ℕ
key Nothing = 0
key Operation = 5
key Field = 5
key Trouble = 4

-- the additional sense code: none, invalid command operation code, invalid field in CDB, internal target failure
unfoldable pub code : Kind → ℕ
code Nothing = 0
code Operation = 0x20
code Field = 0x24
code Trouble = 0x44

-- bytes 15-17: of an invalid field its place, bit 1 of byte 1 of the command
unfoldable pub pointer : Kind → List ℕ
pointer Field = 0xC9 ∷ 0 ∷ 1 ∷ []
pointer Nothing = 0 ∷ 0 ∷ 0 ∷ []
pointer Operation = 0 ∷ 0 ∷ 0 ∷ []
pointer Trouble = 0 ∷ 0 ∷ 0 ∷ []

-- 18 bytes in fixed format: the response code 70h, the additional length 0Ah; every field that is not named is 0
unfoldable pub fixed : (key code : ℕ) (pointer : List ℕ) → List ℕ
fixed key code pointer = 0x70 ∷ 0 ∷ key ∷ 0 ∷ 0 ∷ 0 ∷ 0 ∷ 0x0A ∷ 0 ∷ 0 ∷ 0 ∷ 0 ∷ code ∷ 0 ∷ 0 ∷ pointer

-- the bytes of a kind
unfoldable pub sense_of : Kind → List ℕ
sense_of k = fixed (key k) (code k) (pointer k)

-- the bytes of the kind that is there, if one is
unfoldable pub bytes_of : List Kind → List ℕ
bytes_of [] = []
bytes_of (k ∷ ks) = sense_of k

-- the maker: 54 for a number that no command gives, then 55 for a buffer that is too short
unfoldable pub made : ℕ → List ℕ → Outcome
made n d = makes (kind_of n).refusal 55 (bytes_of (kind_of n).kind) d

-- ---- the reader

-- two byte strings are the same
unfoldable pub same : List ℕ → List ℕ → Bool
same [] [] = true
same [] (y ∷ ys) = false
same (x ∷ xs) [] = false
same (x ∷ xs) (y ∷ ys) = eqb x y && same xs ys

-- every kind
unfoldable pub kinds : List Kind
kinds = Nothing ∷ Operation ∷ Field ∷ Trouble ∷ []

-- 46: not 18 bytes. 47: a response code, bits 6-0 of byte 0, other than 70h
unfoldable pub form_fault : List ℕ → Refusal
form_fault s =
    refuse 46 if not (eqb (length s) 18) else
    refuse 47 if not (eqb (get_or s 0 0 % 128) 0x70) else
    accept

-- the kind whose bytes they are; 48: bytes that the box cannot write
unfoldable pub meant : List ℕ → Heard
meant s = pick (λ k. same (sense_of k) s) (λ k. heard (Means k)) (heard (Refused (refuse 48))) kinds

-- the reader: 46, 47, 48, or the kind
unfoldable pub sensed : List ℕ → Heard
sensed s = unless (form_fault s) (λ r. heard (Refused r)) (meant s)
