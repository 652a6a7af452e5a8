-- Demand 3: "A sweep of one unchanging sheet collects each wanted descriptor once, ascending, byte for byte, and with D bytes in k commands
-- (k - 1)(C - 8) < 2D." What it asks for, with the room for each buffer, is `Premises`, and what it promises `Swept`, both in
-- crates/bench/specs/Swept.antt; `benched` is the contract of `bench::bench`. Assumes nothing.
use mathlib.Core.Path.{◌≡◌, refl, sym, ap, ◌∙◌}
use mathlib.Core.Bool.{Bool, true, false, ◌&&◌, false≢true}
use mathlib.Core.List.{List, [], ◌∷◌}
use Prim.Native.Nat.{ℕ, zero, suc, ◌≤◌, ◌<◌}
use native.Mathlib.Omega.{arith}
use lib.Dec.{ltb}
use lib.ListN.{length, replicate}
use borrow.Author.Tests.{ltb-true, ltb-false}
use Rattle.base.specs.Lists.{each, flat, keep, All, Bytes}
use Rattle.fields.specs.Field.{field, spell}
use Rattle.refusal.specs.declared.Refusal.{Refusal}
use Rattle.refusal.specs.First.{refuse, accept, ◌if◌else◌, pick_zero, ◌or_else◌, first_of, unless, placed}
use Rattle.refusal.proofs.First.{if_zero, or_else_none, or_else_fault, unless_fault}
use Rattle.text.specs.Flags as flags
use Rattle.text.specs.Drive.{Drive, profile_bytes}
use Rattle.text.specs.Response.{header_length, most, feature0, all, wants, selected}
use Rattle.text.specs.Packing.{total, whole, rest, groups}
use Rattle.layout.specs.Layout as layout
use Rattle.profiles.specs.Profiles as profiles
use Rattle.layout.specs.Layout.{Sheet}
use Rattle.sheet.specs.Check.{Accepted, number_before, end_before_entry, flags_rule, entry_rule, entry_fault, counted, verdict}
use Rattle.sheet.specs.Meaning.{desc, meaning}
use Rattle.sweep.specs.Sweep.{start_rule, fresh}
use Rattle.bench.specs.Bench.{Buffers, buffers, state, Ending, failing, rounds, first_fault, benched}
use Rattle.bench.specs.Swept.{room, HasRoom, Premises, Swept, Ended, swept, short, long, narrow, many}
use Rattle.bench.proofs.Demand as bench
use Rattle.bench.proofs.Promised.{Outright, outright}
use Rattle.demands.specs.Recorder.{sheet_e, sheet_e'}

pub demand3 : (s : Sheet) (rt a : ℕ) (b : Buffers) → Bytes s.bytes → Accepted s → Premises (meaning s) rt a b
    → Swept (meaning s) rt a b (benched s rt a b)
demand3 = bench.demand3

-- Without the premises on size and room, the sweep of an accepted sheet with RT 0 or 1 and an allocation length of 8 or more ends with success
-- or with 12, 23, 24 or 25, each with its ground: with 23, the first wanted descriptor not collected yet is too long.
pub ends : (s : Sheet) (rt a : ℕ) (b : Buffers) → Bytes s.bytes → Accepted s → rt < 2 → 8 ≤ a
    → Ended (meaning s) rt a b (benched s rt a b)
ends = bench.ended

-- A sheet that is refused: its number and its place, both counts 0, all three buffers zero throughout.
pub refuses_sheet : (s : Sheet) (rt a : ℕ) (b : Buffers) → ((verdict s).number ≡ 0 → ⊥) → benched s rt a b ≡ failing b (verdict s)
unfolding benched first_fault
refuses_sheet s rt a b h =
    let rest : Ending = rounds 65537 (meaning s) b (state (fresh rt a) b) in
    ap (λ (r : Refusal). unless r (failing b) rest) (or_else_fault (verdict s) _ h) ∙ unless_fault (verdict s) (failing b) rest h

-- ---- one sheet has one profile: its bench sweep never gives 45

ended_same : {m : Drive} {rt a : ℕ} {b : Buffers} {o : Ending} → Ended m rt a b o → o.reply.refusal.number ≡ 45 → ⊥
unfolding failing
ended_same (swept x) e = omega (arith, ap (λ (r : Refusal). r.number) x.fine)
ended_same (short q x) e = omega (arith, ap (λ (o : Ending). o.reply.refusal.number) q)
ended_same (long q xs d ys x y z u) e = omega (arith, ap (λ (o : Ending). o.reply.refusal.number) q)
ended_same (narrow q x) e = omega (arith, ap (λ (o : Ending). o.reply.refusal.number) q)
ended_same (many q x) e = omega (arith, ap (λ (o : Ending). o.reply.refusal.number) q)

start_same : (rt a : ℕ) → (start_rule rt a).number ≡ 45 → ⊥
unfolding start_rule ◌if◌else◌
start_same rt a = go (ltb 1 rt) (ltb a header_length)
  where
    go : (b c : Bool) → (refuse 21 if b else refuse 22 if c else accept).number ≡ 45 → ⊥
    go true c e = omega arith
    go false true e = omega arith
    go false false e = omega arith

pub never_changed : (s : Sheet) (rt a : ℕ) (b : Buffers) → Bytes s.bytes → Accepted s → (benched s rt a b).reply.refusal.number ≡ 45 → ⊥
unfolding start_rule benched first_fault failing
never_changed s rt a b y accepted = go (start_rule rt a).number refl
  where
    run : Ending
    run = rounds 65537 (meaning s) b (state (fresh rt a) b)

    go : (n : ℕ) → (start_rule rt a).number ≡ n → (benched s rt a b).reply.refusal.number ≡ 45 → ⊥
    go zero e h =
        let r = if_zero _ _ _ e in
        ended_same (ends s rt a b y accepted (omega (arith, ltb-false 1 rt r.0)) (ltb-false a header_length (if_zero _ _ _ r.1).0)) h
    go (suc n) e h =
        let q : benched s rt a b ≡ failing b (start_rule rt a) =
        ap (λ (r : Refusal). unless r (failing b) run) (or_else_none (verdict s) _ accepted ∙ or_else_fault (start_rule rt a) _ (λ z. omega arith))
        ∙ unless_fault (start_rule rt a) (failing b) run (λ z. omega arith) in
        start_same rt a (sym (ap (λ (o : Ending). o.reply.refusal.number) q) ∙ h)

-- All of it, of an outcome o.
pub record Benches (s : Sheet) (rt a : ℕ) (b : Buffers) (o : Ending) : Type 0 where
  pub exact : o ≡ benched s rt a b
  pub sweeps : Bytes s.bytes → Accepted s → Premises (meaning s) rt a b → Swept (meaning s) rt a b o
  pub finishes : Bytes s.bytes → Accepted s → rt < 2 → 8 ≤ a → Ended (meaning s) rt a b o
  pub refuses_sheet : ((verdict s).number ≡ 0 → ⊥) → o ≡ failing b (verdict s)
  -- in the paper's numbers: which refusal comes first, 25 before 24, and what a refusal leaves
  pub outright : Outright s rt a b o
  pub one_disc : Bytes s.bytes → Accepted s → o.reply.refusal.number ≡ 45 → ⊥

pub benches : (s : Sheet) (rt a : ℕ) (b : Buffers) → Benches s rt a b (benched s rt a b)
benches s rt a b =
    record { exact = refl; sweeps = demand3 s rt a b; finishes = ends s rt a b; refuses_sheet = refuses_sheet s rt a b; outright = outright s rt a b; one_disc = never_changed s rt a b }

-- ---- the premises can be met: sheet E, allocation length 20

low : List ℕ → Bool
low [] = true
low (b ∷ s) = ltb b 256 && low s

both : (a b : Bool) → (a && b) ≡ true → (a ≡ true) × (b ≡ true)
both true b e = (refl, e)
both false b e = absurd (false≢true e)

bytes_low : (s : List ℕ) → low s ≡ true → Bytes s
unfolding low
bytes_low [] e i = omega arith
bytes_low (b ∷ s) e zero = ltb-true b 256 (both (ltb b 256) (low s) e).0
bytes_low (b ∷ s) e (suc i) = bytes_low s (both (ltb b 256) (low s) e).1 i

pub bytes_e : Bytes sheet_e.bytes
unfolding sheet_e low
bytes_e = bytes_low sheet_e.bytes refl

pub accepted_e : Accepted sheet_e
unfolding each field ◌if◌else◌ pick_zero ◌or_else◌ first_of placed layout.features layout.profiles layout.number_place layout.flags_place layout.length_place layout.offset_place layout.number layout.flags layout.body_length layout.offset layout.profiles_in profiles.profile_number profiles.profile_current profiles.profile_last profiles.lists profiles.record_rule profiles.record_fault profiles.records_fault number_before end_before_entry flags_rule flags.flags_giving entry_rule entry_fault counted verdict sheet_e
accepted_e = refl

abbrev buffers_e : Buffers
buffers_e = buffers (replicate 20 0) (replicate 36 0) (replicate 4 0)

premises_of : {m : Drive} {rt a : ℕ} {b : Buffers} → rt < 2 → header_length ≤ a → All (HasRoom a) (selected rt 0 m) → most a ≤ length b.response
    → total (selected rt 0 m) ≤ length b.collected → length (groups (room a) 65536 (selected rt 0 m)) ≤ length b.starts → Premises m rt a b
premises_of k e s r c t = record { kind = k; eight = e; small = s; response_room = r; collected_room = c; starts_room = t }

premises_e : Premises (meaning sheet_e) 0 20 buffers_e
unfolding each flat keep field spell profile_bytes feature0 all wants selected total whole rest groups layout.features layout.profiles layout.number_place layout.flags_place layout.length_place layout.offset_place layout.number layout.flags layout.body_length layout.offset layout.profiles_in profiles.profile_number profiles.profile_current profiles.listed profiles.profiles_of desc meaning sheet_e
premises_e = premises_of (omega arith) (omega arith) (omega arith) (omega arith) (omega arith) (omega arith)

pub swept_e : Swept (meaning sheet_e) 0 20 buffers_e (benched sheet_e 0 20 buffers_e)
swept_e = demand3 sheet_e 0 20 buffers_e bytes_e accepted_e premises_e

-- ---- and with RT 1: of sheet E with the flags of 001Fh made 00h, all descriptors but that one

bytes_e' : Bytes sheet_e'.bytes
unfolding sheet_e sheet_e' low
bytes_e' = bytes_low sheet_e'.bytes refl

accepted_e' : Accepted sheet_e'
unfolding each field ◌if◌else◌ pick_zero ◌or_else◌ first_of placed layout.features layout.profiles layout.number_place layout.flags_place layout.length_place layout.offset_place layout.number layout.flags layout.body_length layout.offset layout.profiles_in profiles.profile_number profiles.profile_current profiles.profile_last profiles.lists profiles.record_rule profiles.record_fault profiles.records_fault number_before end_before_entry flags_rule flags.flags_giving entry_rule entry_fault counted verdict sheet_e sheet_e'
accepted_e' = refl

abbrev buffers_e' : Buffers
buffers_e' = buffers (replicate 20 0) (replicate 32 0) (replicate 3 0)

premises_e' : Premises (meaning sheet_e') 1 20 buffers_e'
unfolding each flat keep field spell profile_bytes feature0 all wants selected total whole rest groups layout.features layout.profiles layout.number_place layout.flags_place layout.length_place layout.offset_place layout.number layout.flags layout.body_length layout.offset layout.profiles_in profiles.profile_number profiles.profile_current profiles.listed profiles.profiles_of desc meaning sheet_e sheet_e'
premises_e' = premises_of (omega arith) (omega arith) (omega arith) (omega arith) (omega arith) (omega arith)

pub swept_e' : Swept (meaning sheet_e') 1 20 buffers_e' (benched sheet_e' 1 20 buffers_e')
swept_e' = demand3 sheet_e' 1 20 buffers_e' bytes_e' accepted_e' premises_e'
