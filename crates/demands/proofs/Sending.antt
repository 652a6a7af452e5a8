-- Demand 2, first half: "For each accepted sheet and command the bytes sent are exactly those the T10 text defines, cut at the allocation
-- length or 65,534." Assumes nothing.
use mathlib.Core.Path.{◌≡◌, refl, sym, ap, ap₂, ◌∙◌}
use mathlib.Core.Logic.{◌⊎◌, inl, inr}
use mathlib.Core.List.{List, [], ◌∷◌}
use Prim.Native.Nat.{ℕ, zero, suc, ◌+◌, ◌*◌, ◌-◌, ◌/◌, ◌%◌, ◌^◌, ◌≤◌, ◌<◌, min}
use native.Mathlib.Omega.{arith}
use lib.ListN.{length, take, drop, length-append, length-drop}
use lib.Seq.{take-append_seam, drop-append_seam}
use Rattle.base.proofs.Compare.{le_or_lt}
use Rattle.base.specs.Lists.{flat, keep, Bytes}
use Rattle.fields.specs.Field.{field, spell}
use Rattle.refusal.specs.declared.Refusal.{Refusal}
use Rattle.refusal.specs.First.{refuse, accept, ◌or_else◌}
use Rattle.command.specs.Command.{opcode_of, rt_of, sfn_of, allocation_of, command_length, command_fault}
use Rattle.text.specs.Drive.{Desc, Drive}
use Rattle.text.specs.Response as text
use Rattle.text.specs.Response.{bytes, feature0, all, selected, current_profile, data_length, full, sent}
use Rattle.refusal.proofs.First.{or_else_none, or_else_fault}
use Rattle.lent.specs.Maker.{Outcome, refusing, making, makes}
use Rattle.lent.proofs.Maker.{makes_made, makes_short, makes_fault}
use Rattle.text.proofs.Sizes.{length_full, data_length_full, data_length_low}
use Rattle.text.proofs.Profiles.{Off, FirstOn, current_cases}
use Rattle.command.proofs.Promised.{Long, commands, understood}
use Rattle.text.proofs.Promised.{byte, Wanting, wanting, Worded, worded, descriptor_bytes, Zeroth, zeroth}
use Rattle.text.proofs.Sent.{sent_prefix, length_sent, sent_data_length, sent_field, sent_profile, sent_none, sent_65532, sent_65536}
use Rattle.layout.specs.Layout.{Sheet, feature_count}
use Rattle.sheet.specs.Check.{verdict, Accepted}
use Rattle.sheet.specs.Meaning.{meaning}
use Rattle.sheet.proofs.Accepted.{facts}
use Rattle.sheet.proofs.Meaning.{meaning_fine}
use Rattle.sheet.proofs.Bisection.{First, first_from_law}
use Rattle.sheet.proofs.Passing.{first_once}
use Rattle.responder.specs.Answer.{due, requested, answered}
use Rattle.responder.specs.Trusting.{trusting, trusting_command}
use Rattle.responder.specs.Sized.{sized}
use Rattle.responder.specs.inner.Index.{taken_from, taken_size}
use Rattle.responder.proofs.Full.{found_length}
use Rattle.responder.proofs.Sized.{sized_trusting}
use Rattle.responder.proofs.Trusting.{trusting_accepted, answered_trusted}
use Rattle.base.proofs.Promise.{by}

-- What a maker of the bytes xs leaves of the buffer d, of its outcome o: where it refuses, the count 0 and the buffer as it was; else the count of these
-- bytes, which stand at the front, and all behind them as it was.
pub record Leaves (xs d : List ℕ) (o : Outcome) : Type 0 where
  pub nothing : (o.made.refusal.number ≡ 0 → ⊥) → (o.made.count ≡ 0) × (o.buffer ≡ d)
  pub counted : o.made.refusal.number ≡ 0 → o.made.count ≡ length xs
  pub front : o.made.refusal.number ≡ 0 → take (length xs) o.buffer ≡ xs
  pub behind : o.made.refusal.number ≡ 0 → drop (length xs) o.buffer ≡ drop (length xs) d
  pub long : length o.buffer ≡ length d

leaves_refused : (xs d : List ℕ) (r : Refusal) → (r.number ≡ 0 → ⊥) → Leaves xs d (refusing d r)
unfolding refusing
leaves_refused xs d r h =
    record { nothing = λ n. (refl, refl); counted = λ z. absurd (h z); front = λ z. absurd (h z); behind = λ z. absurd (h z); long = refl }

leaves_made : (xs d : List ℕ) → length xs ≤ length d → Leaves xs d (making xs d)
unfolding making
leaves_made xs d l = record {
  nothing = λ n. absurd (n refl);
  counted = λ z. refl;
  front = λ z. take-append_seam xs (drop (length xs) d);
  behind = λ z. drop-append_seam xs (drop (length xs) d);
  long = omega (arith, length-append xs (drop (length xs) d), length-drop (length xs) d);
}

pub leaves : (r : Refusal) (k : ℕ) (xs d : List ℕ) → Leaves xs d (makes r (suc k) xs d)
leaves r k xs d = go r.number refl (le_or_lt (length xs) (length d))
  where
    go : (n : ℕ) → r.number ≡ n → (length xs ≤ length d) ⊎ (length d < length xs) → Leaves xs d (makes r (suc k) xs d)
    go zero e (inl l) = by (Leaves xs d) (leaves_made xs d l) (makes_made r (suc k) xs d e l)
    go zero e (inr l) = by (Leaves xs d) (leaves_refused xs d (refuse (suc k)) (λ z. omega arith)) (makes_short r (suc k) xs d e (λ z. omega arith) l)
    go (suc n) e l = let h : r.number ≡ 0 → ⊥ = λ z. omega arith in by (Leaves xs d) (leaves_refused xs d r h) (makes_fault r (suc k) xs d h)

-- Of an outcome o of the sheet s, the command c and the buffer d: for an accepted sheet and command and a buffer with room for them, exactly the
-- bytes due, and nothing behind them changes; for anything else the first refusal, in the paper's order, with no byte sent and nothing changed. In plain
-- numbers of the command's bytes: 9, 10, 11 in this order, and what RT, Starting Feature Number and allocation length are; and what is left of the buffer.
pub record Answers (s : Sheet) (c d : List ℕ) (o : Outcome) : Type 0 where
  pub sends : Accepted s → (command_fault c).number ≡ 0 → length (due s c) ≤ length d → o ≡ making (due s c) d
  pub refuses_sheet : ((verdict s).number ≡ 0 → ⊥) → o ≡ refusing d (verdict s)
  pub refuses_command : Accepted s → ((command_fault c).number ≡ 0 → ⊥) → o ≡ refusing d (command_fault c)
  pub refuses_room : Accepted s → (command_fault c).number ≡ 0 → length d < length (due s c) → o ≡ refusing d (refuse 12)
  pub nine : Accepted s → (Long c → ⊥) → o.made.refusal ≡ refuse 9
  pub ten : Accepted s → Long c → (byte c 0 ≡ 0x46 → ⊥) → o.made.refusal ≡ refuse 10
  pub eleven : Accepted s → Long c → byte c 0 ≡ 0x46 → byte c 1 % 4 ≡ 3 → o.made.refusal ≡ refuse 11
  pub fine : Accepted s → Long c → byte c 0 ≡ 0x46 → (byte c 1 % 4 ≡ 3 → ⊥) → length (due s c) ≤ length d → o.made.refusal ≡ accept
  pub asked : due s c ≡ sent (byte c 1 % 4) (byte c 2 * 256 + byte c 3) (byte c 7 * 256 + byte c 8) (meaning s)
  pub left : Leaves (due s c) d o

-- the same of a request for the bytes xs, where nothing but the room is left to refuse
pub record Sends (xs d : List ℕ) (o : Outcome) : Type 0 where
  pub sends : length xs ≤ length d → o ≡ making xs d
  pub refuses_room : length d < length xs → o ≡ refusing d (refuse 12)

request : (s : Sheet) (rt sfn a : ℕ) (d : List ℕ) → Sends (sent rt sfn a (meaning s)) d (requested s rt sfn a d)
unfolding requested
request s rt sfn a d =
    let xs : List ℕ = sent rt sfn a (meaning s) in
    record { sends = λ h. makes_made accept 12 xs d refl h; refuses_room = λ h. makes_short accept 12 xs d refl (λ z. omega arith) h }

pub demand2 : (s : Sheet) (c d : List ℕ) → Answers s c d (answered s c d)
unfolding answered making refusing
demand2 s c d =
    let made : Refusal → Outcome = λ r. makes r 12 (due s c) d in
    record {
      sends = λ ok e h. ap made (or_else_none (verdict s) (command_fault c) ok) ∙ makes_made (command_fault c) 12 (due s c) d e h;
      refuses_sheet = λ h. ap made (or_else_fault (verdict s) (command_fault c) h) ∙ makes_fault (verdict s) 12 (due s c) d h;
      refuses_command = λ ok h. ap made (or_else_none (verdict s) (command_fault c) ok) ∙ makes_fault (command_fault c) 12 (due s c) d h;
      refuses_room = λ ok e h. ap made (or_else_none (verdict s) (command_fault c) ok) ∙ makes_short (command_fault c) 12 (due s c) d e (λ z. omega arith) h;
      nine = λ ok h. by_command ok ((commands c).nine h);
      ten = λ ok h k. by_command ok ((commands c).ten h k);
      eleven = λ ok h k l. by_command ok ((commands c).eleven h k l);
      fine = λ ok h k l m. ap (λ (o : Outcome). o.made.refusal) (ap made (or_else_none (verdict s) (command_fault c) ok) ∙ makes_made (command_fault c) 12 (due s c) d (ap (λ (r : Refusal). r.number) ((commands c).fine h k l)) m);
      asked = let u = understood c in λ i. sent (u.asked i) (u.start i) (u.most i) (meaning s);
      left = leaves (verdict s or_else command_fault c) 11 (due s c) d;
    }
  where
    by_command : Accepted s → {n : ℕ} → command_fault c ≡ refuse (suc n) → (answered s c d).made.refusal ≡ refuse (suc n)
    by_command ok e =
        ap (λ (r : Refusal). (makes r 12 (due s c) d).made.refusal) (or_else_none (verdict s) (command_fault c) ok)
        ∙ ap (λ (o : Outcome). o.made.refusal) (makes_fault (command_fault c) 12 (due s c) d (λ z. omega (arith, ap (λ (r : Refusal). r.number) e, z))) ∙ e

-- ---- a box that does not check its sheet: from an accepted one the same, from any other what crates/responder/specs/Trusting.antt defines

pub record Trusts (s : Sheet) (c d : List ℕ) (o : Outcome) : Type 0 where
  pub exact : o ≡ trusting_command s c d
  pub answers : Bytes s.bytes → Accepted s → Answers s c d o

pub trusts : (s : Sheet) (c d : List ℕ) → Trusts s c d (trusting_command s c d)
trusts s c d = record {
  exact = refl;
  answers = λ b ok. by (Answers s c d) (demand2 s c d) (answered_trusted s b ok c d);
}

pub record Serves (s : Sheet) (rt sfn a : ℕ) (d : List ℕ) (o : Outcome) : Type 0 where
  pub exact : o ≡ trusting s rt sfn a d
  pub sends : Bytes s.bytes → Accepted s → Sends (sent rt sfn a (meaning s)) d o

pub serves : (s : Sheet) (rt sfn a : ℕ) (d : List ℕ) → Serves s rt sfn a d (trusting s rt sfn a d)
serves s rt sfn a d = record {
  exact = refl;
  sends = λ b ok. by (Sends (sent rt sfn a (meaning s)) d) (request s rt sfn a d) (trusting_accepted s b ok rt sfn a d);
}

-- How many bytes stand behind the header: from an accepted sheet those of the descriptors that are wanted.
pub record Sizes (s : Sheet) (rt sfn n : ℕ) : Type 0 where
  pub exact : n ≡ taken_size s rt sfn
  pub wanted : Bytes s.bytes → Accepted s → n ≡ length (flat bytes (selected rt sfn (meaning s)))

pub sizes : (s : Sheet) (rt sfn : ℕ) → Sizes s rt sfn (taken_size s rt sfn)
sizes s rt sfn = record {
  exact = refl;
  wanted = λ b ok. omega (arith, length_full rt sfn (meaning s), found_length s rt sfn b ok);
}

-- Told at which entry the wanted ones start, and that number, the same is sent.
pub record ServesSized (s : Sheet) (rt sfn a from n : ℕ) (d : List ℕ) (o : Outcome) : Type 0 where
  pub exact : o ≡ sized s rt sfn a from n d
  pub sends : Bytes s.bytes → Accepted s → First s (feature_count s) sfn from → n ≡ length (flat bytes (selected rt sfn (meaning s))) → Sends (sent rt sfn a (meaning s)) d o

pub serves_sized : (s : Sheet) (rt sfn a from n : ℕ) (d : List ℕ) → ServesSized s rt sfn a from n d (sized s rt sfn a from n d)
unfolding taken_from
serves_sized s rt sfn a from n d = record {
  exact = refl;
  sends = λ b ok first e.
      by (Sends (sent rt sfn a (meaning s)) d) ((serves s rt sfn a d).sends b ok)
      (ap₂ (λ (i k : ℕ). sized s rt sfn a i k d) (first_once (facts s b ok) first (first_from_law s (feature_count s) sfn)) (e ∙ sym ((sizes s rt sfn).wanted b ok)) ∙ sized_trusting s rt sfn a d);
}

-- ---- beside it

-- Every ignored bit is really ignored: commands that agree on operation code, RT, Starting Feature Number and allocation length, and on whether a command may have
-- their length, are answered alike.
pub ignored : (s : Sheet) (c c' d : List ℕ) → command_length (length c) ≡ command_length (length c') → opcode_of c ≡ opcode_of c' → rt_of c ≡ rt_of c' → sfn_of c ≡ sfn_of c' → allocation_of c ≡ allocation_of c'
    → answered s c d ≡ answered s c' d
unfolding answered command_fault
ignored s c c' d l o r f a = cc

-- What is sent is a prefix of the full response, as long as the smallest of allocation length, 65,534 and its length.
pub prefix : (rt sfn a : ℕ) (s : Sheet)
    → (sent rt sfn a (meaning s) ≡ take (length (sent rt sfn a (meaning s))) (full rt sfn (meaning s)))
    × (length (sent rt sfn a (meaning s)) ≡ min (min a 65534) (length (full rt sfn (meaning s))))
prefix rt sfn a s = (sent_prefix rt sfn a (meaning s), length_sent rt sfn a (meaning s))

-- Data Length is the full length less 4, and stands in the first four bytes whatever the allocation length that lets them through.
pub data_length_law : (rt sfn a : ℕ) (s : Sheet) → 4 ≤ a
    → (take 4 (sent rt sfn a (meaning s)) ≡ spell 4 (data_length (selected rt sfn (meaning s))))
    × (data_length (selected rt sfn (meaning s)) ≡ length (full rt sfn (meaning s)) - 4)
data_length_law rt sfn a s h = (sent_data_length rt sfn a (meaning s) h, data_length_full rt sfn (meaning s))

-- For an accepted sheet it is a number below 2^32, and the first four bytes sent say it.
pub data_length_number : (s : Sheet) → Bytes s.bytes → Accepted s → (rt sfn a : ℕ)
    → (data_length (selected rt sfn (meaning s)) < 2 ^ 32) × (4 ≤ a → field 4 (sent rt sfn a (meaning s)) 0 ≡ data_length (selected rt sfn (meaning s)))
data_length_number s b ok rt sfn a =
    let good = (meaning_fine s b ok).sound in
    (data_length_low good rt sfn, sent_field rt sfn a (meaning s) good)

-- An allocation length of 0 sends nothing; a full length of 65,532 is sent whole at 65,535, and one of 65,536 as 65,534 bytes.
pub limits : (rt sfn : ℕ) (s : Sheet)
    → (sent rt sfn 0 (meaning s) ≡ [])
    × (length (full rt sfn (meaning s)) ≡ 65532 → sent rt sfn 65535 (meaning s) ≡ full rt sfn (meaning s))
    × (length (full rt sfn (meaning s)) ≡ 65536 → length (sent rt sfn 65535 (meaning s)) ≡ 65534)
limits rt sfn s = (sent_none rt sfn (meaning s), sent_65532 rt sfn (meaning s), sent_65536 rt sfn (meaning s))

-- The Current Profile is the first listed profile that is current, 0 if none is, and stands in bytes 6 and 7 of what is sent.
pub current_profile_law : (s : Sheet) → (Off (meaning s).profiles × (current_profile (meaning s).profiles ≡ 0)) ⊎ FirstOn (meaning s).profiles
current_profile_law s = current_cases (meaning s).profiles

pub current_sent : (rt sfn a : ℕ) (s : Sheet) → Bytes s.bytes → Accepted s → 8 ≤ a → field 2 (sent rt sfn a (meaning s)) 6 ≡ current_profile (meaning s).profiles
current_sent rt sfn a s b ok h = sent_profile rt sfn a (meaning s) (meaning_fine s b ok).sound h

-- What is selected and how it is written, in plain numbers: which descriptors a request wants; the header's eight bytes, Data Length being the length of all
-- that this request selects, less 4; a descriptor's bytes; feature 0 as it is made from the profiles.
pub record Text (m : Drive) (rt sfn : ℕ) : Type 0 where
  pub wants : (d : Desc) → Wanting sfn d (λ rt. text.wants rt sfn d)
  pub selects : selected rt sfn m ≡ keep (text.wants rt sfn) (feature0 m.profiles ∷ m.features)
  pub header : Worded rt sfn m (full rt sfn m)
  pub each_one : (d : Desc) → bytes d ≡ d.number / 256 % 256 ∷ d.number % 256 ∷ d.flags ∷ length d.body ∷ d.body
  pub zero_first : Zeroth m.profiles (feature0 m.profiles)

pub text_of : (m : Drive) (rt sfn : ℕ) → Text m rt sfn
unfolding selected all
text_of m rt sfn = record { wants = wanting sfn; selects = refl; header = worded rt sfn m; each_one = descriptor_bytes; zero_first = zeroth m.profiles }
