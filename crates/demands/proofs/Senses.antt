-- Sense bytes: "9 and 10 give ILLEGAL REQUEST with invalid command operation code; 11 gives invalid field in CDB; an accepted command gives NO SENSE.
-- Sheet faults and 12 are the box's own trouble"; "reading what was made gives that kind back for every number a command can give". `kind_of` is the table of
-- these numbers, `sense_of` the bytes of each kind (crates/sense/specs/Sense.antt). Assumes nothing.
use mathlib.Core.Path.{◌≡◌, refl, sym, ap, subst, ◌∙◌}
use mathlib.Core.Bool.{Bool, true, false, ◌||◌, true≢false}
use mathlib.Core.List.{List, [], ◌∷◌}
use Prim.Native.Nat.{ℕ, zero, suc, ◌%◌, ◌≤◌, ◌<◌}
use native.Mathlib.Omega.{arith}
use lib.Dec.{eqb}
use lib.ListN.{length, get_or, take, replicate}
use borrow.Author.Tests.{eqb-true}
use Rattle.base.specs.Lists.{each, flat, keep, All}
use Rattle.base.specs.Pick.{pick}
use Rattle.base.proofs.Promise.{Promised, promises, by}
use Rattle.fields.specs.Field.{field, spell}
use Rattle.refusal.specs.declared.Refusal.{Refusal}
use Rattle.refusal.specs.First.{refuse, accept, ◌if◌else◌, pick_zero, ◌or_else◌, first_of, unless, placed}
use Rattle.refusal.proofs.First.{unless_none, unless_fault}
use Rattle.refusal.proofs.Numbers.{if_holds, or_else_holds, first_holds, placed_holds}
use Rattle.text.specs.Flags as flags
use Rattle.command.specs.Command.{opcode_of, rt_of, sfn_of, allocation_of, command_fault, command_length, command_bytes, packet}
use Rattle.text.specs.Drive.{profile_bytes}
use Rattle.text.specs.Response.{bytes, feature0, all, wants, selected, current_profile, header, data_length, full, sent}
use Rattle.layout.specs.Layout as layout
use Rattle.profiles.specs.Profiles as profiles
use Rattle.layout.specs.declared.Layout.TheVariants.{Rows}
use Rattle.layout.specs.Layout.{Sheet, stored}
use Rattle.sheet.specs.Check.{number_before, end_before_entry, flags_rule, entry_rule, entry_fault, counted, verdict}
use Rattle.sheet.specs.Meaning.{desc, meaning}
use Rattle.lent.specs.Maker.{Outcome, refusing, making, makes}
use Rattle.lent.proofs.Maker.{makes_number}
use Rattle.responder.specs.Answer.{due, answered}
use Rattle.responder.specs.Trusting.{trusting, trusting_command}
use Rattle.responder.specs.Sized.{sized}
use Rattle.responder.specs.contracts.respond as respond
use Rattle.responder.specs.contracts.respond_accepted as respond_accepted
use Rattle.text.specs.Reading as text
use Rattle.reading.specs.Completed.{complete_fault}
use Rattle.capture.specs.Capture.{capture_fault, own_rule, flags_faults, sheet_rule}
use Rattle.capture.proofs.Numbers.{capture_is}
use Rattle.rom.specs.Rom.{image_answered}
use Rattle.rom.specs.Image.{image_requested, image_commanded}
use Rattle.rom.specs.contracts.respond as rom_respond
use Rattle.rom.specs.contracts.respond_accepted as rom_respond_accepted
use Rattle.abi.specs.Left.{Left, show_made}
use Rattle.abi.specs.contracts.gcf_respond as gcf_respond
use Rattle.abi.specs.contracts.gcf_respond_accepted as gcf_respond_accepted
use Rattle.abi.specs.contracts.gcf_respond_image as gcf_respond_image
use Rattle.abi.specs.contracts.gcf_respond_image_accepted as gcf_respond_image_accepted
use Rattle.sense.specs.declared.Kind.{Kind}
use Rattle.sense.specs.declared.Kind.TheVariants.{Nothing, Operation, Field, Trouble}
use Rattle.sense.specs.declared.Sense.TheVariants.{Means, Refused}
use Rattle.sense.specs.Sense.{Heard, heard, given, kind_of, key, code, pointer, fixed, sense_of, bytes_of, made, sensed}
use Rattle.sense.proofs.RoundTrip.{taken, each_taken, Written, sense_read, read_made, accepted_written}
use Rattle.sense.proofs.Cases.{made_kind, made_other, made_short, sensed_length, sensed_code, sensed_other}
use Rattle.demands.specs.Recorder.{command}
use Rattle.demands.proofs.Sheets.{one_of}
use Rattle.demands.proofs.Sending.{leaves}
use Rattle.demands.proofs.Named.{named}

-- the maker takes the number n
abbrev pub Taken : ℕ → Type 0
Taken n = (kind_of n).refusal.number ≡ 0

-- Of an outcome o of the number n and the buffer d: the 18 bytes of the number's kind, and nothing behind them changed; for a number that no command
-- gives 54, then 55, "buffer unchanged". Reading what was made gives the number's kind back. In plain numbers and bytes: what each number gives, and that there
-- are no others.
abbrev troubles : List ℕ
troubles = 1 ∷ 2 ∷ 3 ∷ 4 ∷ 5 ∷ 6 ∷ 7 ∷ 8 ∷ 12 ∷ 14 ∷ 15 ∷ 16 ∷ 17 ∷ 18 ∷ 20 ∷ 29 ∷ 41 ∷ 44 ∷ []

abbrev numbers_given : List ℕ
numbers_given = 0 ∷ 9 ∷ 10 ∷ 11 ∷ troubles

pub record Makes (n : ℕ) (d : List ℕ) (o : Outcome) : Type 0 where
  pub writes : (k : Kind) → kind_of n ≡ heard (Means k) → 18 ≤ length d → o ≡ making (sense_of k) d
  pub refuses_number : ((kind_of n).refusal.number ≡ 0 → ⊥) → o ≡ refusing d (refuse 54)
  pub refuses_room : (kind_of n).refusal.number ≡ 0 → length d < 18 → o ≡ refusing d (refuse 55)
  pub back : o.made.refusal.number ≡ 0 → sensed (take o.made.count o.buffer) ≡ kind_of n
  pub nothing_wrong : n ≡ 0 → 18 ≤ length d → o ≡ making (0x70 ∷ 0 ∷ 0 ∷ 0 ∷ 0 ∷ 0 ∷ 0 ∷ 0x0A ∷ 0 ∷ 0 ∷ 0 ∷ 0 ∷ 0 ∷ 0 ∷ 0 ∷ 0 ∷ 0 ∷ 0 ∷ []) d
  pub operation : one_of (9 ∷ 10 ∷ []) n ≡ true → 18 ≤ length d → o ≡ making (0x70 ∷ 0 ∷ 5 ∷ 0 ∷ 0 ∷ 0 ∷ 0 ∷ 0x0A ∷ 0 ∷ 0 ∷ 0 ∷ 0 ∷ 0x20 ∷ 0 ∷ 0 ∷ 0 ∷ 0 ∷ 0 ∷ []) d
  pub field_of : n ≡ 11 → 18 ≤ length d → o ≡ making (0x70 ∷ 0 ∷ 5 ∷ 0 ∷ 0 ∷ 0 ∷ 0 ∷ 0x0A ∷ 0 ∷ 0 ∷ 0 ∷ 0 ∷ 0x24 ∷ 0 ∷ 0 ∷ 0xC9 ∷ 0 ∷ 1 ∷ []) d
  pub trouble : one_of troubles n ≡ true → 18 ≤ length d → o ≡ making (0x70 ∷ 0 ∷ 4 ∷ 0 ∷ 0 ∷ 0 ∷ 0 ∷ 0x0A ∷ 0 ∷ 0 ∷ 0 ∷ 0 ∷ 0x44 ∷ 0 ∷ 0 ∷ 0 ∷ 0 ∷ 0 ∷ []) d
  pub not_given : one_of numbers_given n ≡ false → o ≡ refusing d (refuse 54)
  pub no_room : one_of numbers_given n ≡ true → length d < 18 → o ≡ refusing d (refuse 55)
  pub left : (o.made.refusal.number ≡ 0 → ⊥) → (o.made.count ≡ 0) × (o.buffer ≡ d)

-- what holds of each of the numbers holds of one of them
each_of : (P : ℕ → Type 0) (ks : List ℕ) → All P ks → (n : ℕ) → one_of ks n ≡ true → P n
unfolding one_of
each_of P [] p n e = absurd (true≢false (sym e))
each_of P (k ∷ ks) p n e = go (eqb n k) refl e (each_of P ks p.1 n)
  where
    go : (t : Bool) → eqb n k ≡ t → (t || one_of ks n) ≡ true → (one_of ks n ≡ true → P n) → P n
    go true q e h = subst P (sym (eqb-true n k q)) p.0
    go false q e h = h e

module _ (n : ℕ) (d : List ℕ) where
  as_nothing : n ≡ 0 → kind_of n ≡ heard (Means Nothing)
  unfolding pick given kind_of
  as_nothing e = subst (λ n. kind_of n ≡ heard (Means Nothing)) (sym e) refl

  as_operation : one_of (9 ∷ 10 ∷ []) n ≡ true → kind_of n ≡ heard (Means Operation)
  unfolding pick given kind_of
  as_operation e = each_of (λ n. kind_of n ≡ heard (Means Operation)) (9 ∷ 10 ∷ []) (refl, (refl, tt)) n e

  as_field : n ≡ 11 → kind_of n ≡ heard (Means Field)
  unfolding pick given kind_of
  as_field e = subst (λ n. kind_of n ≡ heard (Means Field)) (sym e) refl

  as_trouble : one_of troubles n ≡ true → kind_of n ≡ heard (Means Trouble)
  unfolding pick given kind_of
  as_trouble e = each_of (λ n. kind_of n ≡ heard (Means Trouble)) troubles (refl, (refl, (refl, (refl, (refl, (refl, (refl, (refl, (refl, (refl, (refl, (refl, (refl, (refl, (refl, (refl, (refl, (refl, tt)))))))))))))))))) n e

  as_given : one_of numbers_given n ≡ true → Taken n
  unfolding pick given kind_of
  as_given e = each_of Taken numbers_given (refl, (refl, (refl, (refl, (refl, (refl, (refl, (refl, (refl, (refl, (refl, (refl, (refl, (refl, (refl, (refl, (refl, (refl, (refl, (refl, (refl, (refl, tt)))))))))))))))))))))) n e

  given_as_here : Taken n → one_of numbers_given n ≡ true
  unfolding one_of
  given_as_here = each_taken (λ n. one_of numbers_given n ≡ true) (refl, (refl, (refl, (refl, (refl, (refl, (refl, (refl, (refl, (refl, (refl, (refl, (refl, (refl, (refl, (refl, (refl, (refl, (refl, (refl, (refl, (refl, tt)))))))))))))))))))))) n

  unmade : ((made n d).made.refusal.number ≡ 0 → ⊥) → ((made n d).made.count ≡ 0) × ((made n d).buffer ≡ d)
  unfolding made
  unmade = (leaves (kind_of n).refusal 54 (bytes_of (kind_of n).kind) d).nothing

  pub makes_sense : Makes n d (made n d)
  unfolding key code pointer fixed sense_of
  makes_sense = record {
    writes = made_kind n d;
    refuses_number = made_other n d;
    refuses_room = made_short n d;
    back = read_made n d;
    nothing_wrong = λ e. made_kind n d Nothing (as_nothing e);
    operation = λ e. made_kind n d Operation (as_operation e);
    field_of = λ e. made_kind n d Field (as_field e);
    trouble = λ e. made_kind n d Trouble (as_trouble e);
    not_given = λ e. made_other n d (λ z. true≢false (sym (given_as_here z) ∙ e));
    no_room = λ e. made_short n d (as_given e);
    left = unmade;
  }

-- Of an answer x to the bytes s: the kind whose bytes they are; 46, 47, 48 in this order; and no other bytes are accepted than the maker writes.
pub record Senses (s : List ℕ) (x : Heard) : Type 0 where
  pub means : (k : Kind) → s ≡ sense_of k → x ≡ heard (Means k)
  pub refuses_length : (length s ≡ 18 → ⊥) → x ≡ heard (Refused (refuse 46))
  pub refuses_code : length s ≡ 18 → (get_or s 0 0 % 128 ≡ 0x70 → ⊥) → x ≡ heard (Refused (refuse 47))
  pub refuses_other : length s ≡ 18 → get_or s 0 0 % 128 ≡ 0x70 → ((k : Kind) → s ≡ sense_of k → ⊥) → x ≡ heard (Refused (refuse 48))
  pub written : x.refusal.number ≡ 0 → Written s

pub senses : (s : List ℕ) → Senses s (sensed s)
senses s =
    record {
      means = λ k e. ap sensed e ∙ sense_read k;
      refuses_length = sensed_length s;
      refuses_code = sensed_code s;
      refuses_other = sensed_other s;
      written = accepted_written s;
    }

-- ---- the maker takes exactly the numbers that a command can give

flags_taken : (f : ℕ) → Taken (flags_rule f).number
unfolding flags_rule flags.flags_giving pick given kind_of
flags_taken f =
    or_else_holds Taken _ _ (if_holds Taken (refuse 5) _ accept refl refl) (if_holds Taken (refuse 44) _ accept refl refl)

entry_taken : (s : Sheet) (i : ℕ) → Taken (entry_fault s i).number
unfolding entry_rule entry_fault pick given kind_of
entry_taken s i =
    placed_holds Taken _ (suc i)
    (if_holds Taken (refuse 4) _ _ refl
    (if_holds Taken (refuse 4) _ _ refl
    (or_else_holds Taken _ _ (flags_taken (layout.flags s i))
    (if_holds Taken (refuse 6) _ _ refl (if_holds Taken (refuse 7) _ accept refl refl)))))

record_taken : (b : List ℕ) (i : ℕ) → Taken (profiles.record_fault b i).number
unfolding profiles.record_rule profiles.record_fault pick given kind_of
record_taken b i =
    placed_holds Taken _ (suc i)
    (if_holds Taken (refuse 3) _ _ refl
    (if_holds Taken (refuse 3) _ _ refl (if_holds Taken (refuse 3) _ _ refl (if_holds Taken (refuse 3) _ accept refl refl))))

verdict_taken : (s : Sheet) → Taken (verdict s).number
unfolding profiles.records_fault counted verdict pick given kind_of
verdict_taken s =
    if_holds Taken (refuse 1) _ _ refl
    (if_holds Taken (refuse 1) _ _ refl
    (if_holds Taken (refuse 2) _ _ refl
    (or_else_holds Taken _ _ (first_holds Taken (profiles.record_fault (layout.profiles_part s)) refl (record_taken (layout.profiles_part s)) 0 _)
    (or_else_holds Taken _ _ (first_holds Taken (entry_fault s) refl (entry_taken s) 0 _)
    (if_holds Taken (refuse 8) _ accept refl refl)))))

command_taken : (c : List ℕ) → Taken (command_fault c).number
unfolding command_fault command_length pick given kind_of
command_taken c = if_holds Taken (refuse 9) _ _ refl (if_holds Taken (refuse 10) _ _ refl (if_holds Taken (refuse 11) _ accept refl refl))

-- Whatever number a command gives, the maker takes it.
pub answered_taken : (s : Sheet) (c d : List ℕ) → Taken (answered s c d).made.refusal.number
unfolding answered pick given kind_of
answered_taken s c d =
    subst Taken (sym (makes_number (verdict s or_else command_fault c) 12 (due s c) d))
    (or_else_holds Taken _ _ (or_else_holds Taken _ _ (verdict_taken s) (command_taken c)) (if_holds Taken (refuse 12) _ accept refl refl))

-- And so it is with every outcome that the contract of `respond` allows.
pub respond_taken : Promised respond.ended (λ M 𝓤 𝓛. respond.clauses 𝓛) (λ M 𝓤 𝓛. respond.spec 𝓛) (named (λ _ lay s command out r _ _ _ _. Taken r.refusal.number))
respond_taken x = promises x.𝓤 (λ o. by (λ (z : Outcome). Taken z.made.refusal.number) (answered_taken _ _ _))

pub gcf_respond_taken : Promised gcf_respond.ended (λ M 𝓤 𝓛. gcf_respond.clauses 𝓛) (λ M 𝓤 𝓛. gcf_respond.spec 𝓛) (named (λ _ columns sheet command response told r _ _ _ _ _. Taken r))
unfolding show_made
gcf_respond_taken x = promises x.𝓤 (λ o. by (λ (z : Left (List ℕ)). Taken z.number) (answered_taken _ _ _))

-- a refusal that is taken, and then whatever is
unless_taken : (r : Refusal) (d : List ℕ) (o : Outcome) → Taken r.number → Taken o.made.refusal.number → Taken (unless r (refusing d) o).made.refusal.number
unfolding refusing
unless_taken r d o t u = go r.number refl
  where
    go : (n : ℕ) → r.number ≡ n → Taken (unless r (refusing d) o).made.refusal.number
    go zero e = by (λ (x : Outcome). Taken x.made.refusal.number) u (unless_none r (refusing d) o e)
    go (suc n) e = by (λ (x : Outcome). Taken x.made.refusal.number) t (unless_fault r (refusing d) o (λ z. omega arith))

-- A box that does not check its sheet gives 9, 10, 11, 12 or nothing, whatever the sheet.
pub trusted_taken : (s : Sheet) (c d : List ℕ) → Taken (trusting_command s c d).made.refusal.number
unfolding trusting_command trusting sized making pick given kind_of
trusted_taken s c d = unless_taken (command_fault c) d _ (command_taken c) (unless_taken _ d _ (if_holds Taken (refuse 12) _ accept refl refl) refl)

pub respond_accepted_taken : Promised respond_accepted.ended (λ M 𝓤 𝓛. respond_accepted.clauses 𝓛) (λ M 𝓤 𝓛. respond_accepted.spec 𝓛) (named (λ _ lay s command out r _ _ _ _. Taken r.refusal.number))
respond_accepted_taken x = promises x.𝓤 (λ o. by (λ (z : Outcome). Taken z.made.refusal.number) (trusted_taken _ _ _))

pub gcf_respond_accepted_taken : Promised gcf_respond_accepted.ended (λ M 𝓤 𝓛. gcf_respond_accepted.clauses 𝓛) (λ M 𝓤 𝓛. gcf_respond_accepted.spec 𝓛) (named (λ _ columns sheet command response told r _ _ _ _ _. Taken r))
unfolding show_made
gcf_respond_accepted_taken x = promises x.𝓤 (λ o. by (λ (z : Left (List ℕ)). Taken z.number) (trusted_taken _ _ _))

-- The same of a box with an image: import's numbers but 42, and those that it shares.
pub image_taken : (i c d : List ℕ) → Taken (image_answered i c d).made.refusal.number
unfolding image_answered pick given kind_of
image_taken i c d =
    subst Taken (sym (makes_number (capture_fault i or_else command_fault c) 12 _ d))
    (or_else_holds Taken _ _
    (or_else_holds Taken _ _ (capture_is Taken refl refl refl refl refl refl refl refl refl refl refl refl i) (command_taken c))
    (if_holds Taken (refuse 12) _ accept refl refl))

pub rom_respond_taken : Promised rom_respond.ended (λ M 𝓤 𝓛. rom_respond.clauses 𝓛) (λ M 𝓤 𝓛. rom_respond.spec 𝓛) (named (λ _ image command out r _ _ _. Taken r.refusal.number))
rom_respond_taken x = promises x.𝓤 (λ o. by (λ (z : Outcome). Taken z.made.refusal.number) (image_taken _ _ _))

pub gcf_respond_image_taken : Promised gcf_respond_image.ended (λ M 𝓤 𝓛. gcf_respond_image.clauses 𝓛) (λ M 𝓤 𝓛. gcf_respond_image.spec 𝓛) (named (λ _ image command response told r _ _ _ _. Taken r))
unfolding show_made
gcf_respond_image_taken x = promises x.𝓤 (λ o. by (λ (z : Left (List ℕ)). Taken z.number) (image_taken _ _ _))

-- and from an image that was checked once
image_once_taken : (i c d : List ℕ) → Taken (image_commanded i c d).made.refusal.number
unfolding image_commanded image_requested pick given kind_of
image_once_taken i c d =
    unless_taken (command_fault c) d _ (command_taken c) (subst Taken (sym (makes_number accept 12 _ d)) (or_else_holds Taken accept _ refl (if_holds Taken (refuse 12) _ accept refl refl)))

pub rom_respond_accepted_taken : Promised rom_respond_accepted.ended (λ M 𝓤 𝓛. rom_respond_accepted.clauses 𝓛) (λ M 𝓤 𝓛. rom_respond_accepted.spec 𝓛) (named (λ _ image command out r _ _ _. Taken r.refusal.number))
rom_respond_accepted_taken x = promises x.𝓤 (λ o. by (λ (z : Outcome). Taken z.made.refusal.number) (image_once_taken _ _ _))

pub gcf_respond_image_accepted_taken : Promised gcf_respond_image_accepted.ended (λ M 𝓤 𝓛. gcf_respond_image_accepted.clauses 𝓛) (λ M 𝓤 𝓛. gcf_respond_image_accepted.spec 𝓛) (named (λ _ image command response told r _ _ _ _. Taken r))
unfolding show_made
gcf_respond_image_accepted_taken x = promises x.𝓤 (λ o. by (λ (z : Left (List ℕ)). Taken z.number) (image_once_taken _ _ _))

-- A command gives the number n: from this sheet or this image, for these bytes, with this buffer.
pub data Occurs (n : ℕ) : Type 0 where
  occurs_in : (sheet : Sheet) (asked buffer : List ℕ) → (answered sheet asked buffer).made.refusal.number ≡ n → Occurs n
  occurs_with : (image asked buffer : List ℕ) → (image_answered image asked buffer).made.refusal.number ≡ n → Occurs n

-- a sheet with nothing; one with a single entry
abbrev none : Sheet
none = stored Rows (0 ∷ 0 ∷ 0 ∷ 0 ∷ [])

abbrev one : (number flags len offset : ℕ) → Sheet
one number flags len offset = stored Rows (0 ∷ 1 ∷ 0 ∷ 0 ∷ 0 ∷ number ∷ flags ∷ len ∷ 0 ∷ 0 ∷ 0 ∷ offset ∷ [])

-- an image with this Data Length, and these bytes behind its header
abbrev image : (stated : ℕ) → List ℕ → List ℕ
image stated behind = 0 ∷ 0 ∷ 0 ∷ stated ∷ 0 ∷ 0 ∷ 0 ∷ 0 ∷ behind

-- the head of a descriptor
abbrev head : (number len : ℕ) → List ℕ → List ℕ
head number len behind = 0 ∷ number ∷ 3 ∷ len ∷ behind

-- Each number of the table is given: 0 to 12, 44 from a sheet, 14 to 18, 20, 29, 41 with an image.
pub each_given : All Occurs taken
unfolding each flat keep field spell ◌if◌else◌ pick_zero ◌or_else◌ first_of placed opcode_of rt_of sfn_of allocation_of command_fault command_length profile_bytes bytes feature0 all wants selected current_profile header data_length full sent layout.features layout.profiles layout.number_place layout.flags_place layout.length_place layout.offset_place layout.number layout.flags layout.body_length layout.offset layout.profiles_in profiles.profile_number profiles.profile_current profiles.profile_last profiles.listed profiles.profiles_of profiles.lists profiles.record_rule profiles.record_fault profiles.records_fault number_before end_before_entry flags_rule flags.flags_giving entry_rule entry_fault counted verdict desc meaning unless refusing making makes answered command command_bytes packet capture_fault own_rule flags_faults sheet_rule complete_fault text.stated_length text.stated_profile text.header_rule text.head_rule text.number_at text.flags_at text.length_at text.desc_at text.head_fault text.walk text.walked text.read_fault text.wholes image_answered
each_given = (occurs_in none (command 0 0 0) [] refl, (occurs_in (stored Rows []) [] [] refl, (occurs_in (stored Rows (0 ∷ 0 ∷ 0 ∷ 64 ∷ replicate 256 0)) [] [] refl, (occurs_in (stored Rows (0 ∷ 0 ∷ 0 ∷ 1 ∷ 0 ∷ 0 ∷ 0 ∷ 0 ∷ [])) [] [] refl, (occurs_in (one 0 0 0 12) [] [] refl, (occurs_in (one 1 0x40 0 12) [] [] refl, (occurs_in (one 1 0 1 12) [] [] refl, (occurs_in (one 1 0 0 0) [] [] refl, (occurs_in (stored Rows (0 ∷ 0 ∷ 0 ∷ 0 ∷ 0 ∷ [])) [] [] refl, (occurs_in none [] [] refl, (occurs_in none (replicate 10 0) [] refl, (occurs_in none (command 3 0 0) [] refl, (occurs_in none (command 0 0 1) [] refl, (occurs_with [] [] [] refl, (occurs_with (image 0 []) [] [] refl, (occurs_with (image 4 (head 0 0 [])) [] [] refl, (occurs_with (image 8 (head 0 1 [])) [] [] refl, (occurs_with (image 12 (head 0 0 (head 0 0 []))) [] [] refl, (occurs_with (image 8 (head 0 4 [])) [] [] refl, (occurs_with (image 8 []) [] [] refl, (occurs_with (image 4 []) [] [] refl, (occurs_in (one 1 2 0 12) [] [] refl, tt))))))))))))))))))))))

-- So the maker takes no other number than a command gives.
pub taken_occurs : (n : ℕ) → Taken n → Occurs n
taken_occurs = each_taken Occurs each_given
