-- Captured responses: "Turn a complete response to RT 0 from 0 into a drive sheet. Asked RT 0 from 0 with a sufficient allocation, the box must
-- give back the captured bytes exactly; a sheet whose full response fits 65,532 bytes must come back from its own response unchanged. Demands 2
-- and 3 hold for imported sheets as for any." `imported`, in crates/import/specs/Import.antt, is what the contract of `import::import` says;
-- `sheet_from r` is the sheet that it makes of the response r. Assumes nothing.
use mathlib.Core.Path.{◌≡◌, refl, sym, ap, ◌∙◌}
use mathlib.Core.Logic.{◌⊎◌, inl, inr, ⊎_elim}
use mathlib.Core.Bool.{true, false, false≢true}
use mathlib.Core.List.{List, [], ◌∷◌}
use Prim.Native.Nat.{ℕ, zero, suc, ◌≤◌, ◌<◌}
use native.Mathlib.Omega.{arith}
use lib.Dec.{eqb}
use lib.ListN.{length, take, drop, replicate}
use lib.Seq.{take-append_seam}
use Rattle.base.specs.Lists.{each, flat, keep, Bytes}
use Rattle.base.proofs.Compare.{le_or_lt}
use Rattle.base.proofs.Promise.{by}
use Rattle.fields.specs.Field.{field, spell}
use Rattle.refusal.specs.declared.Refusal.{Refusal}
use Rattle.refusal.specs.First.{refuse, accept, ◌if◌else◌, pick_zero, ◌or_else◌, first_of, unless, placed}
use Rattle.text.specs.Flags as flags
use Rattle.command.specs.Command.{opcode_of, rt_of, sfn_of, allocation_of, command_fault, command_length, command_bytes, packet}
use Rattle.text.specs.Drive.{profile_bytes}
use Rattle.text.specs.Response.{bytes, feature0, all, wants, selected, current_profile, header, data_length, full, sent}
use Rattle.text.specs.Reading as text
use Rattle.text.proofs.Sent.{sent_whole_here}
use Rattle.layout.specs.Layout as layout
use Rattle.profiles.specs.Profiles as profiles
use Rattle.layout.specs.declared.Layout.TheVariants.{Rows}
use Rattle.layout.specs.Layout.{Sheet, sheet_size}
use Rattle.layout.specs.Contents.{row_bytes, contents, laid}
use Rattle.layout.proofs.Laid.{laid_own, laid_length}
use Rattle.sheet.proofs.Same.{accepted_room, laid_of}
use Rattle.sheet.specs.Check.{flags_rule, Accepted}
use Rattle.sheet.specs.Meaning.{desc, meaning, entries_of, sheet_of}
use Rattle.sheet.proofs.Meaning.{meaning_fine}
use Rattle.responder.specs.Answer as box
use Rattle.bench.specs.Bench.{Buffers, benched}
use Rattle.bench.specs.Swept.{Premises, Swept, Ended}
use Rattle.reading.specs.Completed as completed
use Rattle.capture.specs.Capture as capture
use Rattle.capture.specs.Capture.{captured, capture_fault}
use Rattle.reading.specs.Places.{descs}
use Rattle.import.specs.Import as import
use Rattle.import.specs.Import.{sheet_from, imported}
use Rattle.lent.specs.Maker.{Outcome, outcome, written, refusing, making, makes}
use Rattle.capture.proofs.Describes.{captured_short, capture_accepts}
use Rattle.capture.proofs.Numbers.{capture_is}
use Rattle.capture.proofs.Promised.{Refused, refused_is}
use Rattle.capture.proofs.Own.{own_accepted}
use Rattle.import.proofs.Sheet.{from_accepted, from_bytes, from_means, from_full, own_sheet}
use Rattle.import.proofs.Answers.{imported_fault, imported_short, imported_written, imported_zero}
use Rattle.import.proofs.Numbers.{imported_is}
use Rattle.demands.specs.Recorder.{sheet_e, command}
use Rattle.responder.specs.Answer.{due}
use Rattle.demands.proofs.Sheets.{one_of}
use Rattle.demands.proofs.Sending.{demand2, Leaves, leaves}
use Rattle.demands.proofs.Readings.{ReadBack, demand2_own}
use Rattle.demands.proofs.Sweeping.{demand3, ends, bytes_e, accepted_e}

-- the sheet in rows that stands at the front of the buffer, of an outcome o
abbrev pub left_in : Outcome → Sheet
left_in o = layout.stored Rows (take o.made.count o.buffer)

-- The sheet that stands in the buffer where import answers 0, of an outcome o: it is the one made of the response r, it means the drive that r
-- describes, Versions and all, it is accepted, and the box gives back the captured bytes from it.
pub record Stored (r : List ℕ) (o : Outcome) : Type 0 where
  pub sheet : left_in o ≡ sheet_from r
  pub means : meaning (left_in o) ≡ captured (descs r)
  pub accepted : Accepted (left_in o)
  pub back : (a : ℕ) → length r ≤ a → sent 0 0 a (meaning (left_in o)) ≡ r

-- Of an outcome o of the response r and the buffer d: for a response that is not refused and a buffer with room for its sheet, exactly the sheet, and
-- nothing behind it changes; for anything else the first refusal, in the paper's order, the count 0, "the buffer is unchanged". A sheet whose full
-- response fits 65,532 bytes comes back from it unchanged, in rows. In plain numbers of the bytes each number but 42 has its ground and its turn, and 42 comes
-- last of all.
pub record Imports (r d : List ℕ) (o : Outcome) : Type 0 where
  pub writes : (capture_fault r).number ≡ 0 → sheet_size (sheet_from r) ≤ length d
      → o ≡ making (sheet_from r).bytes d
  pub refuses_capture : ((capture_fault r).number ≡ 0 → ⊥) → o ≡ refusing d (capture_fault r)
  pub refuses_room : (capture_fault r).number ≡ 0 → length d < sheet_size (sheet_from r) → o ≡ refusing d (refuse 42)
  pub stores : Bytes r → o.made.refusal.number ≡ 0 → Stored r o
  pub unchanged : (s : Sheet) → Bytes s.bytes → Accepted s → length (full 0 0 (meaning s)) ≤ 65532 → sheet_size s ≤ length d → r ≡ full 0 0 (meaning s)
      → o ≡ making (laid Rows s).bytes d
  pub plain : (o.made.refusal.number ≡ 42 → ⊥) → Refused r o.made.refusal
  pub room_last : o.made.refusal.number ≡ 42 → (capture_fault r).number ≡ 0
  pub left : Leaves (sheet_from r).bytes d o

-- ---- an imported sheet is a sheet

-- A response that is not refused gives an accepted sheet.
pub imported_accepted : (r : List ℕ) → Bytes r → (capture_fault r).number ≡ 0 → Accepted (sheet_from r)
imported_accepted = from_accepted

-- It means the drive that the response describes: each feature has its number, its flags, the Version among them, and its body.
pub imported_means : (r : List ℕ) → Bytes r → (capture_fault r).number ≡ 0 → meaning (sheet_from r) ≡ captured (descs r)
imported_means = from_means

-- ---- "Asked RT 0 from 0 with a sufficient allocation, the box must give back the captured bytes exactly"

-- For RT 0 from 0 with an allocation length of at least its bytes, the bytes sent are the captured ones.
pub replayed : (r : List ℕ) → Bytes r → (capture_fault r).number ≡ 0 → (a : ℕ) → length r ≤ a → sent 0 0 a (meaning (sheet_from r)) ≡ r
replayed r b e a l =
    let f : full 0 0 (meaning (sheet_from r)) ≡ r = from_full r b e in
    sent_whole_here 0 0 a (meaning (sheet_from r)) (rw f (captured_short r e)) (rw f l) ∙ f

in_rows : (r : List ℕ) {b : List ℕ} → b ≡ (sheet_from r).bytes → layout.stored Rows b ≡ sheet_from r
unfolding sheet_from sheet_of
in_rows r e = ap (layout.stored Rows) e

-- Such a sheet is what stands in the buffer when import answers 0.
pub stored : (r d : List ℕ) → Bytes r → (imported r d).made.refusal.number ≡ 0 → Stored r (imported r d)
unfolding making
stored r d b e =
    let z = imported_zero r d e in
    let t : take (imported r d).made.count (imported r d).buffer ≡ (sheet_from r).bytes =
    rw (imported_written r d z.0 z.1) (take-append_seam (sheet_from r).bytes (drop (sheet_size (sheet_from r)) d)) in
    let x : left_in (imported r d) ≡ sheet_from r = in_rows r t in
    record { sheet = x; means = rw x (imported_means r b z.0); accepted = rw x (imported_accepted r b z.0); back = rw x (replayed r b z.0) }

-- So the box's answer to any such command, into a buffer with room for them, is no refusal, their count, and these bytes.
pub replayed_answer : (r c d : List ℕ) → Bytes r → (capture_fault r).number ≡ 0
    → (command_fault c).number ≡ 0 → rt_of c ≡ 0 → sfn_of c ≡ 0 → length r ≤ allocation_of c → length r ≤ length d
    → box.answered (sheet_from r) c d ≡ making r d
replayed_answer r c d b e ok rt sfn l room =
    let x : due (sheet_from r) c ≡ r = rw (rt, sfn) (replayed r b e (allocation_of c) l) in
    (demand2 (sheet_from r) c d).sends (imported_accepted r b e) ok (rw x room)
    ∙ ap (λ (xs : List ℕ). making xs d) x

command_plain : (a : ℕ) → (command_fault (command 0 0 a)).number ≡ 0
unfolding command command_bytes packet spell command_fault command_length opcode_of rt_of ◌if◌else◌
command_plain a = refl

command_rt : (a : ℕ) → rt_of (command 0 0 a) ≡ 0
unfolding command command_bytes packet spell rt_of
command_rt a = refl

command_sfn : (a : ℕ) → sfn_of (command 0 0 a) ≡ 0
unfolding command command_bytes packet spell field sfn_of
command_sfn a = refl

command_allocation : (a : ℕ) → a ≤ 65535 → allocation_of (command 0 0 a) ≡ a
unfolding command command_bytes packet spell field allocation_of
command_allocation a l = omega arith

-- Such a command is 46h 00h 00h 00h 00h 00h 00h, the allocation length in two bytes, 00h.
pub replayed_command : (r d : List ℕ) → Bytes r → (capture_fault r).number ≡ 0 → (a : ℕ) → length r ≤ a → a ≤ 65535 → length r ≤ length d
    → box.answered (sheet_from r) (command 0 0 a) d ≡ making r d
replayed_command r d b e a l m room =
    replayed_answer r (command 0 0 a) d b e (command_plain a) (command_rt a) (command_sfn a) (rw (command_allocation a m) l) room

-- And so it does from the sheet that stands in the buffer when import answers 0.
pub replayed_stored : (r d c e : List ℕ) → Bytes r → (imported r d).made.refusal.number ≡ 0
    → (command_fault c).number ≡ 0 → rt_of c ≡ 0 → sfn_of c ≡ 0 → length r ≤ allocation_of c → length r ≤ length e
    → box.answered (left_in (imported r d)) c e ≡ making r e
replayed_stored r d c e b z = rw (stored r d b z).sheet (replayed_answer r c e b (imported_zero r d z).0)

-- ---- "a sheet whose full response fits 65,532 bytes must come back from its own response unchanged"

-- Its full response to RT 0 from 0 is not refused, and the sheet made of it is the sheet itself, in rows.
pub unchanged : (s : Sheet) → Bytes s.bytes → Accepted s → length (full 0 0 (meaning s)) ≤ 65532
    → (capture_fault (full 0 0 (meaning s)) ≡ accept) × (sheet_from (full 0 0 (meaning s)) ≡ laid Rows s)
unchanged s b ok l =
    let f = meaning_fine s b ok in
    (own_accepted f (omega arith), own_sheet f (omega arith) ∙ laid_of Rows s b ok)

-- So import answers with no refusal and the sheet's length, and the sheet stands at the front of a buffer with room for it.
pub unchanged_import : (s : Sheet) (d : List ℕ) → Bytes s.bytes → Accepted s → length (full 0 0 (meaning s)) ≤ 65532 → sheet_size s ≤ length d
    → imported (full 0 0 (meaning s)) d ≡ making (laid Rows s).bytes d
unchanged_import s d b ok l room =
    let u = unchanged s b ok l in
    imported_written (full 0 0 (meaning s)) d (ap (λ r. r.number) u.0) (rw u.1 (omega (arith, laid_length Rows s b (accepted_room s b ok))))
    ∙ ap (λ (x : Sheet). making x.bytes d) u.1

-- ---- all of it

-- the refusal is the capture's, or 42 where that has none
refused_by : (r d : List ℕ) → ((imported r d).made.refusal ≡ capture_fault r) ⊎ (((capture_fault r).number ≡ 0) × ((imported r d).made.refusal ≡ refuse 42))
unfolding refusing making
refused_by r d = go (capture_fault r).number refl (le_or_lt (sheet_size (sheet_from r)) (length d))
  where
    go : (n : ℕ) → (capture_fault r).number ≡ n → (sheet_size (sheet_from r) ≤ length d) ⊎ (length d < sheet_size (sheet_from r))
        → ((imported r d).made.refusal ≡ capture_fault r) ⊎ (((capture_fault r).number ≡ 0) × ((imported r d).made.refusal ≡ refuse 42))
    go zero e (inl l) = inl (ap (λ (o : Outcome). o.made.refusal) (imported_written r d e l) ∙ sym (capture_accepts r e))
    go zero e (inr l) = inr (e, ap (λ (o : Outcome). o.made.refusal) (imported_short r d e l))
    go (suc n) e l = inl (ap (λ (o : Outcome). o.made.refusal) (imported_fault r d (λ z. omega arith)))

never_42 : (r : List ℕ) → (capture_fault r).number ≡ 42 → ⊥
never_42 r e = false≢true (sym (capture_is (λ n. eqb n 42 ≡ false) refl refl refl refl refl refl refl refl refl refl refl refl r) ∙ ap (λ (n : ℕ). eqb n 42) e)

pub imports : (r d : List ℕ) → Imports r d (imported r d)
unfolding imported
imports r d = record {
  writes = imported_written r d;
  refuses_capture = imported_fault r d;
  refuses_room = imported_short r d;
  stores = stored r d;
  unchanged = λ s b ok l h e. rw e (unchanged_import s d b ok l h);
  plain = λ h. ⊎_elim (λ e. by (Refused r) (refused_is r) e) (λ e. absurd (h (ap (λ (x : Refusal). x.number) e.1))) (refused_by r d);
  room_last = λ z. ⊎_elim (λ e. absurd (never_42 r (ap (λ (x : Refusal). x.number) (sym e) ∙ z))) (λ e. e.0) (refused_by r d);
  left = leaves (capture_fault r) 41 (sheet_from r).bytes d;
}

-- ---- "Demands 2 and 3 hold for imported sheets as for any."

module _ (r : List ℕ) (b : Bytes r) (e : (capture_fault r).number ≡ 0) where
  -- Demand 2, first half: for each accepted command the bytes sent are those the text defines for the imported sheet.
  pub demand2_imported : (c d : List ℕ) → (command_fault c).number ≡ 0 → length (due (sheet_from r) c) ≤ length d
      → box.answered (sheet_from r) c d ≡ making (due (sheet_from r) c) d
  demand2_imported c d = (demand2 (sheet_from r) c d).sends (imported_accepted r b e)

  -- Demand 2, second half: what is sent of it, read, gives back the profile and each whole descriptor.
  pub demand2_own_imported : (rt sfn a : ℕ) → rt ≤ 2 → 8 ≤ a
      → ReadBack (meaning (sheet_from r)) 65534 rt sfn a (sent rt sfn a (meaning (sheet_from r))) (text.reading 65534 rt sfn (sent rt sfn a (meaning (sheet_from r))))
  demand2_own_imported = demand2_own (sheet_from r) (from_bytes r b e) (imported_accepted r b e)

  -- Demand 3: a sweep of it collects each wanted descriptor once, ascending, byte for byte, in few commands.
  pub demand3_imported : (rt a : ℕ) (bs : Buffers) → Premises (meaning (sheet_from r)) rt a bs
      → Swept (meaning (sheet_from r)) rt a bs (benched (sheet_from r) rt a bs)
  demand3_imported rt a bs = demand3 (sheet_from r) rt a bs (from_bytes r b e) (imported_accepted r b e)

  -- Whatever the room, it ends with success or with 12, 23, 24 or 25.
  pub ends_imported : (rt a : ℕ) (bs : Buffers) → rt < 2 → 8 ≤ a
      → Ended (meaning (sheet_from r)) rt a bs (benched (sheet_from r) rt a bs)
  ends_imported rt a bs = ends (sheet_from r) rt a bs (from_bytes r b e) (imported_accepted r b e)

-- ---- which numbers import can give

-- For every response and every buffer: no refusal, "the reading's 14 to 18 and 20, 29, then 41, then the sheet's own 3 and 5", which is 5 or 44, "then 42", and no
-- other number. The sheet's other numbers cannot occur: an accepted reading ascends (4) and has lengths that are multiples of 4 (6), so that
-- feature 0's body has at most 252 bytes, 63 profiles (2), and the sheet is written with the counts, offsets and end that it must have (1, 7, 8).
pub numbers : (r d : List ℕ) → one_of (0 ∷ 14 ∷ 15 ∷ 16 ∷ 17 ∷ 18 ∷ 20 ∷ 29 ∷ 41 ∷ 3 ∷ 5 ∷ 44 ∷ 42 ∷ []) (imported r d).made.refusal.number ≡ true
unfolding one_of
numbers = imported_is (λ n. one_of (0 ∷ 14 ∷ 15 ∷ 16 ∷ 17 ∷ 18 ∷ 20 ∷ 29 ∷ 41 ∷ 3 ∷ 5 ∷ 44 ∷ 42 ∷ []) n ≡ true) refl refl refl refl refl refl refl refl refl refl refl refl refl

-- It gives each of them.
abbrev number : (r d : List ℕ) → ℕ
number r d = (imported r d).made.refusal.number

pub each_number :
    (number [] [] ≡ 14)
    × (number (0 ∷ 0 ∷ 0 ∷ 0 ∷ 0 ∷ 0 ∷ 0 ∷ 0 ∷ []) [] ≡ 15)
    × (number (0 ∷ 0 ∷ 0 ∷ 4 ∷ 0 ∷ 0 ∷ 0 ∷ 0 ∷ 0 ∷ []) [] ≡ 16)
    × (number (0 ∷ 0 ∷ 0 ∷ 8 ∷ 0 ∷ 0 ∷ 0 ∷ 0 ∷ 0 ∷ 0 ∷ 3 ∷ 1 ∷ []) [] ≡ 17)
    × (number (0 ∷ 0 ∷ 0 ∷ 12 ∷ 0 ∷ 0 ∷ 0 ∷ 0 ∷ 0 ∷ 0 ∷ 3 ∷ 0 ∷ 0 ∷ 0 ∷ 3 ∷ 0 ∷ []) [] ≡ 18)
    × (number (0 ∷ 0 ∷ 0 ∷ 8 ∷ 0 ∷ 0 ∷ 0 ∷ 0 ∷ 0 ∷ 0 ∷ 3 ∷ 4 ∷ []) [] ≡ 20)
    × (number (0 ∷ 0 ∷ 0 ∷ 8 ∷ 0 ∷ 0 ∷ 0 ∷ 0 ∷ []) [] ≡ 29)
    × (number (0 ∷ 0 ∷ 0 ∷ 4 ∷ 0 ∷ 0 ∷ 0 ∷ 0 ∷ []) [] ≡ 41)
    × (number (0 ∷ 0 ∷ 0 ∷ 12 ∷ 0 ∷ 0 ∷ 0 ∷ 0 ∷ 0 ∷ 0 ∷ 3 ∷ 4 ∷ 0 ∷ 0 ∷ 0 ∷ 0 ∷ []) [] ≡ 3)
    × (number (0 ∷ 0 ∷ 0 ∷ 12 ∷ 0 ∷ 0 ∷ 0 ∷ 0 ∷ 0 ∷ 0 ∷ 3 ∷ 0 ∷ 0 ∷ 1 ∷ 64 ∷ 0 ∷ []) [] ≡ 5)
    × (number (0 ∷ 0 ∷ 0 ∷ 12 ∷ 0 ∷ 0 ∷ 0 ∷ 0 ∷ 0 ∷ 0 ∷ 3 ∷ 0 ∷ 0 ∷ 1 ∷ 2 ∷ 0 ∷ []) [] ≡ 44)
    × (number (0 ∷ 0 ∷ 0 ∷ 8 ∷ 0 ∷ 0 ∷ 0 ∷ 0 ∷ 0 ∷ 0 ∷ 3 ∷ 0 ∷ []) (0 ∷ 0 ∷ 0 ∷ []) ≡ 42)
    × (number (0 ∷ 0 ∷ 0 ∷ 8 ∷ 0 ∷ 0 ∷ 0 ∷ 0 ∷ 0 ∷ 0 ∷ 3 ∷ 0 ∷ []) (0 ∷ 0 ∷ 0 ∷ 0 ∷ []) ≡ 0)
unfolding each flat field spell ◌if◌else◌ pick_zero ◌or_else◌ first_of placed profile_bytes current_profile text.stated_length text.stated_profile text.header_rule text.head_rule text.number_at text.flags_at text.length_at text.desc_at text.head_fault text.walk text.walked text.read_fault text.wholes profiles.profile_number profiles.profile_current profiles.profile_last profiles.listed profiles.profiles_of profiles.lists profiles.record_rule profiles.record_fault profiles.records_fault flags_rule flags.flags_giving row_bytes contents entries_of sheet_of capture.captured capture.own_rule capture.flags_faults capture.sheet_rule completed.complete_fault capture.capture_fault import.sheet_from unless refusing making makes import.imported
each_number = (refl, refl, refl, refl, refl, refl, refl, refl, refl, refl, refl, refl, refl)

-- ---- the premises can be met: the full response of sheet E, 44 bytes, and a buffer of 52

fits_e : length (full 0 0 (meaning sheet_e)) ≡ 44
unfolding each flat keep field spell profile_bytes bytes feature0 all wants selected current_profile header data_length full layout.features layout.profiles layout.number_place layout.flags_place layout.length_place layout.offset_place layout.number layout.flags layout.body_length layout.offset layout.profiles_in profiles.profile_number profiles.profile_current profiles.listed profiles.profiles_of desc meaning sheet_e
fits_e = refl

pub imported_e : imported (full 0 0 (meaning sheet_e)) (replicate 52 0) ≡ outcome (written 52) sheet_e.bytes
unfolding sheet_e making
imported_e =
    unchanged_import sheet_e (replicate 52 0) bytes_e accepted_e (omega (arith, fits_e)) (omega arith)
    ∙ ap (λ (x : Sheet). making x.bytes (replicate 52 0)) (laid_own sheet_e bytes_e (accepted_room sheet_e bytes_e accepted_e))
