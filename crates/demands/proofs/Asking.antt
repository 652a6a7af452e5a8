-- The accessors below the box that ask something of their caller: no more than this is asked, and the contract decides the whole outcome, as it does where
-- nothing is asked. Nothing that a program or an outsider can call is among them. Assumes nothing.
use mathlib.Core.Path.{◌≡◌, refl, ap, ◌∙◌}
use mathlib.Core.List.{List, ◌++◌}
use Prim.Native.Nat.{ℕ, ◌+◌, ◌≤◌, ◌<◌}
use seplogic.Ra.Ura.{Ura}
use base.Logic.{ent, id⊢}
use contract.Monad.{conj, fact}
use contract.Lifetimes.{Lfts}
use denote.Triple.Entry.{Res}
use denote.Triple.Clauses.{Ended, closing}
use lib.ListN.{length, get_or, set, take, drop, length-set}
use lib.Seq.{get_or-set_same, get_or-set_other}
use Rattle.base.proofs.Decided.{Contract, Stated, Call, Outcome, asked, allowed, decides, joined, ◌&◌}
use Rattle.base.proofs.Promise.{promises}
use Rattle.base.specs.Lists.{each}
use Rattle.fields.specs.Field.{field, spell}
use Rattle.lent.specs.Wrote.{Wrote}
use Rattle.lent.proofs.Laws.{same}
use Rattle.layout.specs.Layout.{stored, profiles_behind, flags_place}
use Rattle.layout.specs.Contents.{entry_of, head_bytes, contents}
use Rattle.layout.specs.inner.Room.{Room}
use Rattle.layout.specs.inner.Found.{found_of}
use Rattle.fields.specs.contracts.inside as inside
use Rattle.fields.specs.contracts.inside2 as inside2
use Rattle.fields.specs.contracts.inside4 as inside4
use Rattle.lent.specs.contracts.place as place
use Rattle.lent.specs.contracts.place4 as place4
use Rattle.lent.specs.contracts.set4 as set4
use Rattle.layout.specs.contracts.entry_in as entry_in
use Rattle.layout.specs.contracts.find as find
use Rattle.layout.specs.contracts.put_head as put_head
use Rattle.layout.specs.contracts.place_row as place_row
use Rattle.layout.specs.contracts.put_contents as put_contents
use Rattle.layout.specs.contracts.set_flags as set_flags
use Rattle.text.specs.Reading.{number_at, flags_at, length_at}
use Rattle.reading.specs.Places.{descs, reported}
use Rattle.reading.specs.Completed.{complete_fault}
use Rattle.reading.specs.contracts.number_in as number_in
use Rattle.reading.specs.contracts.flags_in as flags_in
use Rattle.reading.specs.contracts.length_in as length_in
use Rattle.reading.specs.contracts.reports as reports
use Rattle.demands.proofs.Named.{named, met}

-- The contract s of the function's theorem is made of the clauses c, no more than q is asked of the caller, and two outcomes that are allowed are the same
-- to whoever has `see` of the result
abbrev pub DecidedAsking : (T : Ended) (c : Contract T) → Stated T → ((x : Call T c) → Type 0) → {S : Lfts T.signature.lifetimes → Type 0} → ((κs : Lfts T.signature.lifetimes) → Res T.signature κs → S κs) → Type 2
DecidedAsking T c s q see =
    (x : Call T c) →
    (closing x.𝓛 T (c x.M x.𝓤 x.𝓛 x.mem x.run) ≡ s x.M x.𝓤 x.𝓛 x.mem x.run)
    × ent x.𝓤 (fact x.𝓤 (q x)) (asked T c x)
    × ((o o' : Outcome T c x) → ent x.𝓤 (conj x.𝓤 (allowed T c x o) (allowed T c x o')) (fact x.𝓤 ((see x.κs o.0 ≡ see x.κs o'.0) × (o.1 ≡ o'.1))))

-- and φ holds of every outcome that is allowed
abbrev pub PromisedAsking : (T : Ended) (c : Contract T) → Stated T → ((x : Call T c) → Type 0) → ((x : Call T c) → Outcome T c x → Type 0) → Type 2
PromisedAsking T c s q φ =
    (x : Call T c) →
    (closing x.𝓛 T (c x.M x.𝓤 x.𝓛 x.mem x.run) ≡ s x.M x.𝓤 x.𝓛 x.mem x.run)
    × ent x.𝓤 (fact x.𝓤 (q x)) (asked T c x)
    × ((o : Outcome T c x) → ent x.𝓤 (allowed T c x o) (fact x.𝓤 (φ x o)))

-- ---- how it is shown: the `requires` is the fact q, and the rest is as where nothing is asked

decides_asking : {M : Type 1} (𝓤 : Ura M) {q O : Type 0} {φ : O → Type 0} {χ : O → O → Type 0} {C : Type 2} {s : C} → ((o o' : O) → φ o → φ o' → χ o o') → (s ≡ s) × ent 𝓤 (fact 𝓤 q) (fact 𝓤 q) × ((o o' : O) → ent 𝓤 (conj 𝓤 (fact 𝓤 (φ o)) (fact 𝓤 (φ o'))) (fact 𝓤 (χ o o')))
decides_asking 𝓤 {q} {O} {φ} {χ} {C} {s} f = (refl, id⊢ 𝓤 (fact 𝓤 q), (decides 𝓤 {O = O} {φ = φ} {χ = χ} {C = C} {s = s} f).2)

promises_asking : {M : Type 1} (𝓤 : Ura M) {q O : Type 0} {φ χ : O → Type 0} {C : Type 2} {s : C} → ((o : O) → φ o → χ o) → (s ≡ s) × ent 𝓤 (fact 𝓤 q) (fact 𝓤 q) × ((o : O) → ent 𝓤 (fact 𝓤 (φ o)) (fact 𝓤 (χ o)))
promises_asking 𝓤 {q} {O} {φ} {χ} {C} {s} f = (refl, id⊢ 𝓤 (fact 𝓤 q), (promises 𝓤 {O = O} {φ = φ} {χ = χ} {C = C} {s = s} f).2)

-- ---- fields

pub inside_decided : DecidedAsking inside.ended (λ M 𝓤 𝓛. inside.clauses 𝓛) (λ M 𝓤 𝓛. inside.spec 𝓛) (met (λ _ s at. at < length s.now)) (λ κs r. r)
inside_decided x = decides_asking x.𝓤 (λ o o' p q. (joined p q, refl))

pub inside_tied : PromisedAsking inside.ended (λ M 𝓤 𝓛. inside.clauses 𝓛) (λ M 𝓤 𝓛. inside.spec 𝓛) (met (λ _ s at. at < length s.now)) (named (λ _ s at r _ _. r ≡ get_or s.now at 0))
inside_tied x = promises_asking x.𝓤 (λ o e. e)

pub inside2_decided : DecidedAsking inside2.ended (λ M 𝓤 𝓛. inside2.clauses 𝓛) (λ M 𝓤 𝓛. inside2.spec 𝓛) (met (λ _ s at. at + 2 ≤ length s.now)) (λ κs r. r)
inside2_decided x = decides_asking x.𝓤 (λ o o' p q. (joined p q, refl))

pub inside2_tied : PromisedAsking inside2.ended (λ M 𝓤 𝓛. inside2.clauses 𝓛) (λ M 𝓤 𝓛. inside2.spec 𝓛) (met (λ _ s at. at + 2 ≤ length s.now)) (named (λ _ s at r _ _. r ≡ field 2 s.now at))
inside2_tied x = promises_asking x.𝓤 (λ o e. e)

pub inside4_decided : DecidedAsking inside4.ended (λ M 𝓤 𝓛. inside4.clauses 𝓛) (λ M 𝓤 𝓛. inside4.spec 𝓛) (met (λ _ s at. at + 4 ≤ length s.now)) (λ κs r. r)
inside4_decided x = decides_asking x.𝓤 (λ o o' p q. (joined p q, refl))

pub inside4_tied : PromisedAsking inside4.ended (λ M 𝓤 𝓛. inside4.clauses 𝓛) (λ M 𝓤 𝓛. inside4.spec 𝓛) (met (λ _ s at. at + 4 ≤ length s.now)) (named (λ _ s at r _ _. r ≡ field 4 s.now at))
inside4_tied x = promises_asking x.𝓤 (λ o e. e)

-- ---- lent

pub place_decided : DecidedAsking place.ended (λ M 𝓤 𝓛. place.clauses 𝓛) (λ M 𝓤 𝓛. place.spec 𝓛)
    (met (λ _ out at s from count. (at + count ≤ length out.now) × (from + count ≤ length s.now))) (λ κs r. r)
place_decided x = decides_asking x.𝓤 (λ o o' p q. ((same p q).0, (same p q).1 & refl))

pub place_tied : PromisedAsking place.ended (λ M 𝓤 𝓛. place.clauses 𝓛) (λ M 𝓤 𝓛. place.spec 𝓛)
    (met (λ _ out at s from count. (at + count ≤ length out.now) × (from + count ≤ length s.now)))
    (named (λ _ out at s from count r out' _ _ _ _. Wrote out.now at (take count (drop from s.now)) r out'))
place_tied x = promises_asking x.𝓤 (λ o e. e)

pub place4_decided : DecidedAsking place4.ended (λ M 𝓤 𝓛. place4.clauses 𝓛) (λ M 𝓤 𝓛. place4.spec 𝓛) (met (λ _ out at part. (length part.now ≡ 4) × (at + 4 ≤ length out.now))) (λ κs r. r)
place4_decided x = decides_asking x.𝓤 (λ o o' p q. ((same p q).0, (same p q).1 & refl))

pub place4_tied : PromisedAsking place4.ended (λ M 𝓤 𝓛. place4.clauses 𝓛) (λ M 𝓤 𝓛. place4.spec 𝓛) (met (λ _ out at part. (length part.now ≡ 4) × (at + 4 ≤ length out.now)))
    (named (λ _ out at part r out' _ _. Wrote out.now at part.now r out'))
place4_tied x = promises_asking x.𝓤 (λ o e. e)

pub set4_decided : DecidedAsking set4.ended (λ M 𝓤 𝓛. set4.clauses 𝓛) (λ M 𝓤 𝓛. set4.spec 𝓛) (met (λ _ out at v. at + 4 ≤ length out.now)) (λ κs r. r)
set4_decided x = decides_asking x.𝓤 (λ o o' p q. ((same p q).0, (same p q).1 & refl))

pub set4_tied : PromisedAsking set4.ended (λ M 𝓤 𝓛. set4.clauses 𝓛) (λ M 𝓤 𝓛. set4.spec 𝓛) (met (λ _ out at v. at + 4 ≤ length out.now))
    (named (λ _ out at v r out' _ _. Wrote out.now at (spell 4 v) r out'))
set4_tied x = promises_asking x.𝓤 (λ o e. e)

-- ---- layout

-- of the list b, in which one byte was set: e is as long, has the value there, and is b elsewhere
pub record Sets (b : List ℕ) (at value : ℕ) (e : List ℕ) : Type 0 where
  pub long : length e ≡ length b
  pub there : at < length b → get_or e at 0 ≡ value
  pub elsewhere : (x : ℕ) → (x ≡ at → ⊥) → get_or e x 0 ≡ get_or b x 0

sets_so : (b : List ℕ) (at value : ℕ) (e : List ℕ) → e ≡ set b at value → Sets b at value e
sets_so b at value e q = record {
  long = ap length q ∙ length-set b at value;
  there = λ h. ap (λ (l : List ℕ). get_or l at 0) q ∙ get_or-set_same b at value 0 h;
  elsewhere = λ x h. ap (λ (l : List ℕ). get_or l x 0) q ∙ get_or-set_other b at x value 0 h;
}

pub set_flags_decided : DecidedAsking set_flags.ended (λ M 𝓤 𝓛. set_flags.clauses 𝓛) (λ M 𝓤 𝓛. set_flags.spec 𝓛) (met (λ _ out nth flags. (nth.i < nth.n) × (profiles_behind nth.n ≤ length out.now))) (λ κs r. r)
set_flags_decided x = decides_asking x.𝓤 (λ o o' p q. (refl, joined p q & refl))

pub set_flags_tied : PromisedAsking set_flags.ended (λ M 𝓤 𝓛. set_flags.clauses 𝓛) (λ M 𝓤 𝓛. set_flags.spec 𝓛) (met (λ _ out nth flags. (nth.i < nth.n) × (profiles_behind nth.n ≤ length out.now)))
    (named (λ _ out nth flags _ out' _ _. Sets out.now (flags_place nth.lay nth.n nth.i) flags.0 out'))
set_flags_tied x = promises_asking x.𝓤 (λ o. sets_so _ _ _ _)

pub entry_in_decided : DecidedAsking entry_in.ended (λ M 𝓤 𝓛. entry_in.clauses 𝓛) (λ M 𝓤 𝓛. entry_in.spec 𝓛) (met (λ _ s nth. Room s.now nth.n × (nth.i < nth.n))) (λ κs r. r)
entry_in_decided x = decides_asking x.𝓤 (λ o o' p q. (joined p q, refl))

pub entry_in_tied : PromisedAsking entry_in.ended (λ M 𝓤 𝓛. entry_in.clauses 𝓛) (λ M 𝓤 𝓛. entry_in.spec 𝓛) (met (λ _ s nth. Room s.now nth.n × (nth.i < nth.n)))
    (named (λ _ s nth r _ _. r ≡ entry_of (stored nth.lay s.now) nth.i))
entry_in_tied x = promises_asking x.𝓤 (λ o e. e)

pub find_decided : DecidedAsking find.ended (λ M 𝓤 𝓛. find.clauses 𝓛) (λ M 𝓤 𝓛. find.spec 𝓛) (met (λ _ s nth. Room s.now nth.n × (nth.i < nth.n))) (λ κs r. r)
find_decided x = decides_asking x.𝓤 (λ o o' p q. (joined p q, refl))

pub find_tied : PromisedAsking find.ended (λ M 𝓤 𝓛. find.clauses 𝓛) (λ M 𝓤 𝓛. find.spec 𝓛) (met (λ _ s nth. Room s.now nth.n × (nth.i < nth.n)))
    (named (λ _ s nth r _ _. r ≡ found_of (stored nth.lay s.now) nth.i))
find_tied x = promises_asking x.𝓤 (λ o e. e)

pub put_head_decided : DecidedAsking put_head.ended (λ M 𝓤 𝓛. put_head.clauses 𝓛) (λ M 𝓤 𝓛. put_head.spec 𝓛)
    (met (λ _ out at s nth. Room s.now nth.n × (nth.i < nth.n) × (at + 4 ≤ length out.now))) (λ κs r. r)
put_head_decided x = decides_asking x.𝓤 (λ o o' p q. ((same p q).0, (same p q).1 & refl))

pub put_head_tied : PromisedAsking put_head.ended (λ M 𝓤 𝓛. put_head.clauses 𝓛) (λ M 𝓤 𝓛. put_head.spec 𝓛)
    (met (λ _ out at s nth. Room s.now nth.n × (nth.i < nth.n) × (at + 4 ≤ length out.now)))
    (named (λ _ out at s nth r out' _ _ _. Wrote out.now at (head_bytes (entry_of (stored nth.lay s.now) nth.i)) r out'))
put_head_tied x = promises_asking x.𝓤 (λ o e. e)

pub place_row_decided : DecidedAsking place_row.ended (λ M 𝓤 𝓛. place_row.clauses 𝓛) (λ M 𝓤 𝓛. place_row.spec 𝓛) (met (λ _ out at head offset. (length head.now ≡ 4) × (at + 8 ≤ length out.now))) (λ κs r. r)
place_row_decided x = decides_asking x.𝓤 (λ o o' p q. ((same p q).0, (same p q).1 & refl))

pub place_row_tied : PromisedAsking place_row.ended (λ M 𝓤 𝓛. place_row.clauses 𝓛) (λ M 𝓤 𝓛. place_row.spec 𝓛) (met (λ _ out at head offset. (length head.now ≡ 4) × (at + 8 ≤ length out.now)))
    (named (λ _ out at head offset r out' _ _ _. Wrote out.now at (head.now ++ spell 4 offset) r out'))
place_row_tied x = promises_asking x.𝓤 (λ o e. e)

pub put_contents_decided : DecidedAsking put_contents.ended (λ M 𝓤 𝓛. put_contents.clauses 𝓛) (λ M 𝓤 𝓛. put_contents.spec 𝓛) (met (λ _ out at to lay s n. Room s.now n)) (λ κs r. r)
put_contents_decided x = decides_asking x.𝓤 (λ o o' p q. ((same p q).0, (same p q).1 & refl))

pub put_contents_tied : PromisedAsking put_contents.ended (λ M 𝓤 𝓛. put_contents.clauses 𝓛) (λ M 𝓤 𝓛. put_contents.spec 𝓛) (met (λ _ out at to lay s n. Room s.now n))
    (named (λ _ out at to lay s n r out' _ _ _ _ _. Wrote out.now at (contents to (each (entry_of (stored lay s.now)) 0 n)) r out'))
put_contents_tied x = promises_asking x.𝓤 (λ o e. e)

-- ---- reading

pub number_in_decided : DecidedAsking number_in.ended (λ M 𝓤 𝓛. number_in.clauses 𝓛) (λ M 𝓤 𝓛. number_in.spec 𝓛) (met (λ _ s at. at + 4 ≤ length s.now)) (λ κs r. r)
number_in_decided x = decides_asking x.𝓤 (λ o o' p q. ((λ i. record { 0 = joined p q i }), refl))

pub number_in_tied : PromisedAsking number_in.ended (λ M 𝓤 𝓛. number_in.clauses 𝓛) (λ M 𝓤 𝓛. number_in.spec 𝓛) (met (λ _ s at. at + 4 ≤ length s.now)) (named (λ _ s at r _ _. r.0 ≡ number_at s.now at))
number_in_tied x = promises_asking x.𝓤 (λ o e. e)

pub flags_in_decided : DecidedAsking flags_in.ended (λ M 𝓤 𝓛. flags_in.clauses 𝓛) (λ M 𝓤 𝓛. flags_in.spec 𝓛) (met (λ _ s at. at + 4 ≤ length s.now)) (λ κs r. r)
flags_in_decided x = decides_asking x.𝓤 (λ o o' p q. ((λ i. record { 0 = joined p q i }), refl))

pub flags_in_tied : PromisedAsking flags_in.ended (λ M 𝓤 𝓛. flags_in.clauses 𝓛) (λ M 𝓤 𝓛. flags_in.spec 𝓛) (met (λ _ s at. at + 4 ≤ length s.now)) (named (λ _ s at r _ _. r.0 ≡ flags_at s.now at))
flags_in_tied x = promises_asking x.𝓤 (λ o e. e)

pub length_in_decided : DecidedAsking length_in.ended (λ M 𝓤 𝓛. length_in.clauses 𝓛) (λ M 𝓤 𝓛. length_in.spec 𝓛) (met (λ _ s at. at + 4 ≤ length s.now)) (λ κs r. r)
length_in_decided x = decides_asking x.𝓤 (λ o o' p q. (joined p q, refl))

pub length_in_tied : PromisedAsking length_in.ended (λ M 𝓤 𝓛. length_in.clauses 𝓛) (λ M 𝓤 𝓛. length_in.spec 𝓛) (met (λ _ s at. at + 4 ≤ length s.now)) (named (λ _ s at r _ _. r ≡ length_at s.now at))
length_in_tied x = promises_asking x.𝓤 (λ o e. e)

pub reports_decided : DecidedAsking reports.ended (λ M 𝓤 𝓛. reports.clauses 𝓛) (λ M 𝓤 𝓛. reports.spec 𝓛) (met (λ _ f s. (complete_fault s.now).number ≡ 0)) (λ κs r. r)
reports_decided x = decides_asking x.𝓤 (λ o o' p q. (joined p q, refl))

pub reports_tied : PromisedAsking reports.ended (λ M 𝓤 𝓛. reports.clauses 𝓛) (λ M 𝓤 𝓛. reports.spec 𝓛) (met (λ _ f s. (complete_fault s.now).number ≡ 0))
    (named (λ _ f s r _ _. r ≡ reported f.0 (descs s.now)))
reports_tied x = promises_asking x.𝓤 (λ o e. e)
