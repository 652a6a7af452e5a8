-- Narrowing (request 11): "For descriptors selected from one sheet show: narrowing from s and then from t equals narrowing from the larger; "current
-- only" and "from s" may be applied in either order; each twice is the same as once; the features below s followed by those from s are all of
-- them." First of what a request selects, with statements close by that do not hold; then of the complete responses of the box, over the contracts of
-- `responder::respond` and `reading::read`. Assumes nothing.
use mathlib.Core.Path.{◌≡◌, refl, sym, ap, ◌∙◌}
use mathlib.Core.Bool.{true, false≢true}
use mathlib.Core.List.{List, [], ◌∷◌, ◌++◌}
use Prim.Native.Nat.{ℕ, zero, suc, ◌+◌, ◌-◌, ◌≤◌, ◌<◌, max, min}
use native.Mathlib.Omega.{arith}
use lib.ListN.{length, take, drop, replicate}
use lib.Seq.{take_all}
use borrow.Author.Tests.{leb-true}
use base.Logic.{ent, via}
use contract.Monad.{conj, conj_mono, fact}
use contract.Lifetimes.{Lfts}
use denote.Triple.Entry.{Args}
use Rattle.base.specs.Lists.{each, flat, keep, Bytes}
use Rattle.base.proofs.Decided.{Call, Outcome, allowed}
use Rattle.base.proofs.Promise.{by, beside, both}
use Rattle.fields.specs.Field.{field, spell}
use Rattle.lent.specs.Maker as maker
use Rattle.lent.specs.declared.Made.{Made}
use Rattle.text.specs.declared.Reading.{Reading}
use Rattle.refusal.specs.First.{◌if◌else◌, pick_zero, ◌or_else◌, first_of, unless, placed}
use Rattle.text.specs.Flags as flags
use Rattle.command.specs.Command.{opcode_of, rt_of, sfn_of, allocation_of, command_fault, command_length, command_bytes, packet}
use Rattle.text.specs.Drive.{Desc, Drive, Sound, profile_bytes}
use Rattle.text.specs.Response.{bytes, feature0, all, wants, selected, current_profile, header, data_length, full, sent}
use Rattle.text.specs.Reading as text
use Rattle.text.specs.Reading.{read_fault, nothing_read, wholes}
use Rattle.text.specs.Packing.{whole}
use Rattle.text.specs.Narrowing.{kept_from, kept_below, kept_current, kept_one}
use Rattle.text.proofs.Narrowing.{from_from, current_from, from_twice, current_twice, below_from, selected_larger, selected_current, selected_alone, selected_joined}
use Rattle.text.proofs.Own.{sent_behind}
use Rattle.text.proofs.Packing.{length_flat_bytes, whole_every}
use Rattle.text.proofs.Selection.{selected_asc}
use Rattle.text.proofs.Sent.{length_sent}
use Rattle.text.proofs.Sizes.{length_full}
use Rattle.text.proofs.Walk.{read_fault_header}
use Rattle.layout.specs.Layout as layout
use Rattle.profiles.specs.Profiles as profiles
use Rattle.layout.specs.Layout.{Sheet, stored}
use Rattle.sheet.specs.Check.{Accepted, number_before, end_before_entry, flags_rule, entry_rule, entry_fault, counted, verdict}
use Rattle.sheet.specs.Meaning.{desc, meaning}
use Rattle.sheet.proofs.Meaning.{meaning_fine}
use Rattle.responder.specs.Answer as box
use Rattle.responder.specs.Answer.{due}
use Rattle.responder.specs.contracts.respond as respond
use Rattle.reading.specs.contracts.read as read
use Rattle.demands.specs.Recorder.{sheet_e, sheet_e', command}
use Rattle.demands.proofs.Sending.{Answers, demand2}
use Rattle.demands.proofs.Readings.{ReadBack, Reads, reads}
use Rattle.demands.proofs.EndToEnd.{sheet_fine, got, read_back}
use Rattle.demands.proofs.Named.{saying, Both}

-- ---- what a request selects

pub record Narrows (ds : List Desc) : Type 0 where
  pub larger : (s t : ℕ) → kept_from t (kept_from s ds) ≡ kept_from (max s t) ds
  pub either : (s : ℕ) → kept_current (kept_from s ds) ≡ kept_from s (kept_current ds)
  pub from_once : (s : ℕ) → kept_from s (kept_from s ds) ≡ kept_from s ds
  pub current_once : kept_current (kept_current ds) ≡ kept_current ds
  pub parts : (s : ℕ) → kept_below s ds ++ kept_from s ds ≡ ds

pub narrows : (s : Sheet) → Bytes s.bytes → Accepted s → (rt sfn : ℕ) → Narrows (selected rt sfn (meaning s))
narrows s b ok rt sfn =
    let ds : List Desc = selected rt sfn (meaning s) in
    record {
      larger = λ s t. from_from s t ds;
      either = λ s. current_from s ds;
      from_once = λ s. from_twice s ds;
      current_once = current_twice ds;
      parts = λ s. below_from s sfn ds (selected_asc (meaning_fine _ b ok).sound rt sfn);
    }

-- ---- what does not hold, of all that sheet E has, and of E', where 001Fh is not current

abbrev has_e : List Desc
has_e = selected 0 0 (meaning sheet_e)

abbrev has_e' : List Desc
has_e' = selected 0 0 (meaning sheet_e')

-- not the start that was asked for last: from 3 and then from 1 is from 3
pub not_the_last : ((s t : ℕ) → kept_from t (kept_from s has_e) ≡ kept_from t has_e) → ⊥
unfolding kept_from each flat keep field spell profile_bytes feature0 all wants selected layout.features layout.profiles layout.number_place layout.flags_place layout.length_place layout.offset_place layout.number layout.flags layout.body_length layout.offset layout.profiles_in profiles.profile_number profiles.profile_current profiles.listed profiles.profiles_of desc meaning sheet_e
not_the_last h = absurd (omega (arith, ap length (h 3 1)))

-- a cut counts: "current only" and "as many as fit into 32 bytes" are not to be swapped
pub cut_counts : ((room : ℕ) → kept_current (whole room has_e') ≡ whole room (kept_current has_e')) → ⊥
unfolding kept_current whole each flat keep field spell profile_bytes feature0 all wants selected layout.features layout.profiles layout.number_place layout.flags_place layout.length_place layout.offset_place layout.number layout.flags layout.body_length layout.offset layout.profiles_in profiles.profile_number profiles.profile_current profiles.listed profiles.profiles_of desc meaning sheet_e sheet_e'
cut_counts h = absurd (omega (arith, ap length (h 32)))

-- the second time is the same start, not one higher
pub not_one_higher : ((s : ℕ) → kept_from (s + 1) (kept_from s has_e) ≡ kept_from s has_e) → ⊥
unfolding kept_from each flat keep field spell profile_bytes feature0 all wants selected layout.features layout.profiles layout.number_place layout.flags_place layout.length_place layout.offset_place layout.number layout.flags layout.body_length layout.offset layout.profiles_in profiles.profile_number profiles.profile_current profiles.listed profiles.profiles_of desc meaning sheet_e
not_one_higher h = absurd (omega (arith, ap length (h 3)))

-- those below s and those above s are not all: s itself is lost
pub not_above : ((s : ℕ) → kept_below s has_e ++ kept_from (s + 1) has_e ≡ has_e) → ⊥
unfolding kept_below kept_from each flat keep field spell profile_bytes feature0 all wants selected layout.features layout.profiles layout.number_place layout.flags_place layout.length_place layout.offset_place layout.number layout.flags layout.body_length layout.offset layout.profiles_in profiles.profile_number profiles.profile_current profiles.listed profiles.profiles_of desc meaning sheet_e
not_above h = absurd (omega (arith, ap length (h 3)))

-- RT 2 of f is not the first of RT 0 from f: there is no 0002h, and the first from there is 0003h
pub not_the_first : ((f : ℕ) → take 1 (selected 0 f (meaning sheet_e)) ≡ selected 2 f (meaning sheet_e)) → ⊥
unfolding each flat keep field spell profile_bytes feature0 all wants selected layout.features layout.profiles layout.number_place layout.flags_place layout.length_place layout.offset_place layout.number layout.flags layout.body_length layout.offset layout.profiles_in profiles.profile_number profiles.profile_current profiles.listed profiles.profiles_of desc meaning sheet_e
not_the_first h = absurd (omega (arith, ap length (h 2)))

-- the list has to ascend: 2 and then 1, parted at 2
pub not_any_list : ((s : ℕ) (ds : List Desc) → kept_below s ds ++ kept_from s ds ≡ ds) → ⊥
unfolding kept_below kept_from keep
not_any_list h = absurd (omega (arith, ap first (h 2 (of 2 ∷ of 1 ∷ []))))
  where
    of : ℕ → Desc
    of n = record { number = n; flags = 0; body = [] }

    first : List Desc → ℕ
    first [] = 0
    first (d ∷ ds) = d.number

-- ---- complete responses of the box

-- the whole descriptors of the bytes received, read as the answer to RT rt from sfn
abbrev pub found : (rt sfn : ℕ) → List ℕ → List Desc
found rt sfn received = wholes 65534 rt sfn received

-- One exchange: the command c is answered by `made`, not refused, and leaves `buffer`; the bytes sent are read as the answer to that command, and the
-- reading r says that they are complete.
pub record Exchanged (c : List ℕ) (made : Made) (buffer : List ℕ) (rt sfn : ℕ) (received : List ℕ) (r : Reading) : Type 0 where
  pub answered : made.refusal.number ≡ 0
  pub asked_rt : rt ≡ rt_of c
  pub asked_sfn : sfn ≡ sfn_of c
  pub handed : received ≡ take made.count buffer
  pub complete : r.complete ≡ true

-- What it gives: the sheet's descriptors that the command selects, and nothing else behind the header.
pub record Holds (s : Sheet) (rt sfn : ℕ) (received : List ℕ) : Type 0 where
  pub accepted : Accepted s
  pub descriptors : found rt sfn received ≡ selected rt sfn (meaning s)
  pub behind : drop 8 received ≡ flat bytes (selected rt sfn (meaning s))

-- Two exchanges with one box and one sheet: RT rt from s found xs, RT rt' from s' found ys.
pub record Combines (rt s : ℕ) (xs : List Desc) (rt' s' : ℕ) (ys : List Desc) : Type 0 where
  -- from s, kept from t on, is from the larger
  pub larger : rt ≡ rt' → rt < 2 → (t : ℕ) → s' ≡ max s t → kept_from t xs ≡ ys
  -- RT 1 are the current ones of RT 0
  pub current : rt ≡ 0 → rt' ≡ 1 → s ≡ s' → kept_current xs ≡ ys
  -- RT 2 is the one of RT 0 from any start that is not above it
  pub one : rt ≡ 0 → rt' ≡ 2 → s ≤ s' → kept_one s' xs ≡ ys
  -- two neighbouring ranges joined are the whole
  pub joins : rt ≡ rt' → rt < 2 → s ≤ s' → kept_below s' xs ++ ys ≡ xs

-- ---- that there are such exchanges: sheet E asked with RT 0 from 1 and with RT 1 from 3, into 64 bytes

abbrev asked : (rt sfn : ℕ) → maker.Outcome
asked rt sfn = box.answered sheet_e (command rt sfn 64) (replicate 64 0xEE)

abbrev sent_by : maker.Outcome → List ℕ
sent_by o = take o.made.count o.buffer

abbrev ExchangedE : (rt sfn : ℕ) → Type 0
ExchangedE rt sfn = Exchanged (command rt sfn 64) (asked rt sfn).made (asked rt sfn).buffer rt sfn (sent_by (asked rt sfn)) (text.reading 65534 rt sfn (sent_by (asked rt sfn)))

pub exchanged_e : ExchangedE 0 1 × ExchangedE 1 3
unfolding each flat keep field spell ◌if◌else◌ pick_zero ◌or_else◌ first_of placed opcode_of rt_of sfn_of allocation_of command_fault command_length profile_bytes bytes feature0 all wants selected current_profile header data_length full sent layout.features layout.profiles layout.number_place layout.flags_place layout.length_place layout.offset_place layout.number layout.flags layout.body_length layout.offset layout.profiles_in profiles.profile_number profiles.profile_current profiles.profile_last profiles.listed profiles.profiles_of profiles.lists profiles.record_rule profiles.record_fault profiles.records_fault number_before end_before_entry flags_rule flags.flags_giving entry_rule entry_fault counted verdict desc meaning unless maker.refusing maker.making maker.makes box.answered sheet_e command command_bytes packet text.stated_length text.stated_profile text.header_rule text.head_rule text.number_at text.flags_at text.length_at text.desc_at text.head_fault text.walk text.walked text.read_fault text.reading text.taken
exchanged_e = (
  record { answered = refl; asked_rt = refl; asked_sfn = refl; handed = refl; complete = refl },
  record { answered = refl; asked_rt = refl; asked_sfn = refl; handed = refl; complete = refl },
)

-- ---- one exchange

module _ {s : Sheet} {c d : List ℕ} {made : Made} {buffer : List ℕ} {rt sfn : ℕ} {received : List ℕ} {r : Reading} (a : Answers s c d (maker.outcome made buffer)) (f : Reads 65534 rt sfn received r) (b : Bytes s.bytes) (e : Exchanged c made buffer rt sfn received r) where
  -- a reading that is refused is not complete
  plain : (read_fault 65534 rt sfn received).number ≡ 0
  unfolding nothing_read
  plain = go (read_fault 65534 rt sfn received).number refl
    where
      go : (n : ℕ) → (read_fault 65534 rt sfn received).number ≡ n → (read_fault 65534 rt sfn received).number ≡ 0
      go zero q = q
      go (suc n) q = absurd (false≢true (sym (ap (λ (x : Reading). x.complete) (f.refuses (λ z. omega arith))) ∙ e.complete))

  is_due : received ≡ due s c
  is_due = e.handed ∙ got a e.answered

  -- so there were 8 bytes or more
  eight : 8 ≤ allocation_of c
  eight = omega (arith, (read_fault_header 65534 rt sfn received plain).eight, ap length is_due, length_sent (rt_of c) (sfn_of c) (allocation_of c) (meaning s))

  back : ReadBack (meaning s) 65534 (rt_of c) (sfn_of c) (allocation_of c) received r
  back = read_back a e.answered f b eight e.asked_rt e.asked_sfn e.handed

  -- and nothing was cut
  fits : length (flat bytes (selected (rt_of c) (sfn_of c) (meaning s))) ≤ min (allocation_of c) 65534 - 8
  fits =
      let n : length (full (rt_of c) (sfn_of c) (meaning s)) ≤ min (allocation_of c) 65534 =
      leb-true (length (full (rt_of c) (sfn_of c) (meaning s))) (min (allocation_of c) 65534) (sym (ap (λ (x : Reading). x.complete) back.fields) ∙ e.complete) in
      omega (arith, length_full (rt_of c) (sfn_of c) (meaning s))

  holds : Holds s rt sfn received
  holds =
      let ds : List Desc = selected (rt_of c) (sfn_of c) (meaning s) in
      let room : ℕ = min (allocation_of c) 65534 - 8 in
      record {
        accepted = sheet_fine a e.answered;
        descriptors = rw (e.asked_rt, e.asked_sfn) (back.descriptors ∙ whole_every room ds (omega (arith, fits, length_flat_bytes ds)));
        behind = rw (e.asked_rt, e.asked_sfn) (ap (drop 8) is_due ∙ sent_behind (rt_of c) (sfn_of c) (allocation_of c) (meaning s) eight ∙ take_all room (flat bytes ds) fits);
      }

-- A complete response holds what its command selects: `respond` is called, then `read` with what the box sent.
pub complete_end_to_end : Both respond.ended (λ M 𝓤 𝓛. respond.clauses 𝓛) read.ended (λ M 𝓤 𝓛. read.clauses 𝓛)
    (λ x o y p. saying x o (λ _ lay s command out r _ _ _ out'.
    saying y p (λ _ rt₂ sfn₂ s₂ r₂ _ _ _.
    Bytes s.now → Exchanged command.now r out' rt₂ sfn₂.0 s₂.now r₂
    → Holds (stored lay s.now) rt₂ sfn₂.0 s₂.now)))
complete_end_to_end x κs args g o p = both x.𝓤 (λ e f. holds (by (Answers _ _ _) (demand2 _ _ _) e) (by (Reads _ _ _ _) (reads _ _ _ _) f))

-- ---- two exchanges

combines : {m : Drive} → Sound m → (rt s rt' s' : ℕ) → Combines rt s (selected rt s m) rt' s' (selected rt' s' m)
combines {m} good rt s rt' s' = record {
  larger = λ e h t q. rw (← e, q) (selected_larger m rt h s t);
  current = λ e f g. rw (e, f, ← g) (selected_current m s);
  one = λ e f h. rw (e, f) (selected_alone m s s' h);
  joins = λ e h l. rw (← e) (selected_joined good rt h s s' l);
}

combined : {s s' : Sheet} {rt sfn rt' sfn' : ℕ} {received received' : List ℕ} → Bytes s.bytes → s ≡ s' → Holds s rt sfn received → Holds s' rt' sfn' received'
    → Combines rt sfn (found rt sfn received) rt' sfn' (found rt' sfn' received')
combined {s} {s'} {rt} {sfn} {rt'} {sfn'} b same h k = rw (h.descriptors, k.descriptors, ← same) (combines (meaning_fine s b h.accepted).sound rt sfn rt' sfn')

-- Two commands to a box with one sheet, each with the reading of what was sent, in any order.
module _ (x : Call respond.ended (λ M 𝓤 𝓛. respond.clauses 𝓛)) (κs : Lfts (read.ended).signature.lifetimes) (args : Args (read.ended).signature κs)
    (κs₂ : Lfts (respond.ended).signature.lifetimes) (args₂ : Args (respond.ended).signature κs₂)
    (κs₃ : Lfts (read.ended).signature.lifetimes) (args₃ : Args (read.ended).signature κs₃) where
  abbrev again : Call respond.ended (λ M 𝓤 𝓛. respond.clauses 𝓛)
  again = beside x κs₂ args₂ tt

  abbrev first_read : Call read.ended (λ M 𝓤 𝓛. read.clauses 𝓛)
  first_read = beside x κs args tt

  abbrev second_read : Call read.ended (λ M 𝓤 𝓛. read.clauses 𝓛)
  second_read = beside x κs₃ args₃ tt

  pub combined_end_to_end : (o : Outcome respond.ended (λ M 𝓤 𝓛. respond.clauses 𝓛) x) (p : Outcome read.ended (λ M 𝓤 𝓛. read.clauses 𝓛) first_read)
      (o' : Outcome respond.ended (λ M 𝓤 𝓛. respond.clauses 𝓛) again) (p' : Outcome read.ended (λ M 𝓤 𝓛. read.clauses 𝓛) second_read)
      → ent x.𝓤 (conj x.𝓤
      (conj x.𝓤 (allowed respond.ended (λ M 𝓤 𝓛. respond.clauses 𝓛) x o) (allowed read.ended (λ M 𝓤 𝓛. read.clauses 𝓛) first_read p))
      (conj x.𝓤 (allowed respond.ended (λ M 𝓤 𝓛. respond.clauses 𝓛) again o') (allowed read.ended (λ M 𝓤 𝓛. read.clauses 𝓛) second_read p'))) (fact x.𝓤 (
      saying x o (λ _ lay s command out r _ _ _ out'.
      saying first_read p (λ _ rt₂ sfn₂ s₂ r₂ _ _ _.
      saying again o' (λ _ lay₃ s₃ command₃ out₃ r₃ _ _ _ out₃'.
      saying second_read p' (λ _ rt₄ sfn₄ s₄ r₄ _ _ _.
      Bytes s.now → stored lay s.now ≡ stored lay₃ s₃.now
      → Exchanged command.now r out' rt₂ sfn₂.0 s₂.now r₂
      → Exchanged command₃.now r₃ out₃' rt₄ sfn₄.0 s₄.now r₄
      → Combines rt₂ sfn₂.0 (found rt₂ sfn₂.0 s₂.now) rt₄ sfn₄.0 (found rt₄ sfn₄.0 s₄.now)))))))
  combined_end_to_end o p o' p' =
      via x.𝓤 _ (conj_mono x.𝓤 (complete_end_to_end x κs args tt o p) (complete_end_to_end again κs₃ args₃ tt o' p'))
      (both x.𝓤 (λ f g b same e h. combined b same (f b e) (g (by (λ (t : Sheet). Bytes t.bytes) b (sym same)) h)))
