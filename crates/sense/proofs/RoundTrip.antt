-- Reading what was made gives the kind back, and the reader accepts exactly what the maker writes. Assumes nothing.
use mathlib.Core.Path.{◌≡◌, refl, sym, ap, subst, ◌∙◌}
use mathlib.Core.List.{List, [], ◌∷◌}
use Prim.Native.Nat.{ℕ, zero, suc}
use native.Mathlib.Omega.{arith}
use lib.Dec.{eqb}
use lib.ListN.{length, take, drop, replicate}
use lib.Seq.{take-append_seam}
use borrow.Author.Tests.{eqb-true}
use Rattle.refusal.specs.First.{◌if◌else◌, ◌or_else◌, pick_zero, unless}
use Rattle.refusal.proofs.First.{unless_none, unless_fault}
use Rattle.base.specs.Lists.{All}
use Rattle.base.specs.Pick.{pick}
use Rattle.lent.specs.Maker.{making, makes}
use Rattle.lent.proofs.Maker.{makes_made, makes_zero}
use Rattle.sense.specs.declared.Kind.{Kind}
use Rattle.sense.specs.declared.Kind.TheVariants.{Nothing, Operation, Field, Trouble}
use Rattle.sense.specs.declared.Sense.TheVariants.{Means, Refused}
use Rattle.sense.specs.Sense.{Heard, heard, given, kind_of, key, code, pointer, fixed, sense_of, bytes_of, made, same, kinds, form_fault, meant, sensed}
use Rattle.sense.proofs.Same.{same_equal}
use Rattle.sense.proofs.Picked.{anything, picked_found}

-- the bytes of each kind are read as that kind
pub sense_read : (k : Kind) → sensed (sense_of k) ≡ heard (Means k)
unfolding key code pointer fixed sense_of same kinds form_fault meant sensed pick ◌if◌else◌ unless
sense_read Nothing = refl
sense_read Operation = refl
sense_read Field = refl
sense_read Trouble = refl

-- bytes that are accepted are those of a kind
pub record OneOf (s : List ℕ) : Type 0 where
  pub kind : Kind
  pub bytes : s ≡ sense_of kind

pub meant_one : (s : List ℕ) → (meant s).refusal.number ≡ 0 → OneOf s
unfolding meant
meant_one s e =
    let f = picked_found (λ k. same (sense_of k) s) (λ k. k) 48 (λ k. Unit {0}) (λ z. absurd (omega arith)) kinds (anything kinds) e in
    record { kind = f.which; bytes = sym (same_equal (sense_of f.which) s f.passes) }

pub sense_only : (s : List ℕ) → (sensed s).refusal.number ≡ 0 → OneOf s
unfolding sensed
sense_only s e = go (form_fault s).number refl
  where
    go : (n : ℕ) → (form_fault s).number ≡ n → OneOf s
    go zero h = meant_one s (ap (λ (x : Heard). x.refusal.number) (sym (unless_none (form_fault s) (λ r. heard (Refused r)) (meant s) h)) ∙ e)
    go (suc n) h =
        let k : (form_fault s).number ≡ 0 → ⊥ = λ z. omega arith in
        absurd (k (ap (λ (x : Heard). x.refusal.number) (sym (unless_fault (form_fault s) (λ r. heard (Refused r)) (meant s) k)) ∙ e))

-- a number that is not refused has a kind
pub record Known (n : ℕ) : Type 0 where
  pub kind : Kind
  pub is : kind_of n ≡ heard (Means kind)

pub known : (n : ℕ) → (kind_of n).refusal.number ≡ 0 → Known n
unfolding kind_of
known n e =
    let f = picked_found (λ l. eqb l.0 n) (λ l. l.1) 54 (λ l. Unit {0}) (λ z. absurd (omega arith)) given (anything given) e in
    record { kind = f.which.1; is = f.is }

-- the numbers of the table
abbrev pub taken : List ℕ
taken = 0 ∷ 1 ∷ 2 ∷ 3 ∷ 4 ∷ 5 ∷ 6 ∷ 7 ∷ 8 ∷ 9 ∷ 10 ∷ 11 ∷ 12 ∷ 14 ∷ 15 ∷ 16 ∷ 17 ∷ 18 ∷ 20 ∷ 29 ∷ 41 ∷ 44 ∷ []

-- what holds of each of them holds of every number that is not refused
pub each_taken : (P : ℕ → Type 0) → All P taken → (n : ℕ) → (kind_of n).refusal.number ≡ 0 → P n
unfolding given kind_of
each_taken P p n e =
    let f = picked_found (λ l. eqb l.0 n) (λ l. l.1) 54 (λ l. P l.0) (λ z. absurd (omega arith)) given p e in
    subst P (eqb-true f.which.0 n f.passes) f.holds

-- what was made, read again
pub read_made : (n : ℕ) (d : List ℕ) → (made n d).made.refusal.number ≡ 0 → sensed (take (made n d).made.count (made n d).buffer) ≡ kind_of n
unfolding made making bytes_of
read_made n d e =
    let z = makes_zero (kind_of n).refusal 54 (bytes_of (kind_of n).kind) d e in
    let k = known n z.0 in
    let m = makes_made (kind_of n).refusal 55 (bytes_of (kind_of n).kind) d z.0 z.1 in
    let t : take (made n d).made.count (made n d).buffer ≡ bytes_of (kind_of n).kind =
    rw m (take-append_seam (bytes_of (kind_of n).kind) (drop (length (bytes_of (kind_of n).kind)) d)) in
    let b : bytes_of (kind_of n).kind ≡ sense_of k.kind = ap (λ (x : Heard). bytes_of x.kind) k.is in
    ap sensed (t ∙ b) ∙ sense_read k.kind ∙ sym k.is

-- the bytes s stand at the front of a buffer after the maker took a number
pub record Written (s : List ℕ) : Type 0 where
  pub number : ℕ
  pub buffer : List ℕ
  pub taken : (made number buffer).made.refusal.number ≡ 0
  pub bytes : s ≡ take (made number buffer).made.count (made number buffer).buffer

each_written : (k : Kind) → Written (sense_of k)
unfolding key code pointer fixed sense_of bytes_of given kind_of made makes making pick unless ◌if◌else◌ ◌or_else◌ pick_zero
each_written Nothing = record { number = 0; buffer = replicate 18 0; taken = refl; bytes = refl }
each_written Operation = record { number = 9; buffer = replicate 18 0; taken = refl; bytes = refl }
each_written Field = record { number = 11; buffer = replicate 18 0; taken = refl; bytes = refl }
each_written Trouble = record { number = 1; buffer = replicate 18 0; taken = refl; bytes = refl }

-- the reader accepts exactly what the maker writes
pub accepted_written : (s : List ℕ) → (sensed s).refusal.number ≡ 0 → Written s
accepted_written s e = let o = sense_only s e in rw o.bytes (each_written o.kind)

pub written_accepted : (s : List ℕ) → Written s → (sensed s).refusal.number ≡ 0
unfolding made
written_accepted s w =
    ap (λ (x : Heard). x.refusal.number) (ap sensed w.bytes ∙ read_made w.number w.buffer w.taken)
    ∙ (makes_zero (kind_of w.number).refusal 54 (bytes_of (kind_of w.number).kind) w.buffer w.taken).0
