-- What documents 01 and 02 say of a command's three functions, in plain numbers of its bytes and without the words of the definitions: a definition that is wrong is
-- refused here, whatever code and laws are changed with it. Assumes nothing.
use mathlib.Core.Path.{◌≡◌, refl, sym, ap, ◌∙◌}
use mathlib.Core.Bool.{true, false}
use mathlib.Core.Logic.{◌⊎◌, inl, inr}
use mathlib.Core.List.{List, [], ◌∷◌}
use Prim.Native.Nat.{ℕ, ◌+◌, ◌*◌, ◌/◌, ◌%◌, ◌≤◌, ◌<◌}
use native.Mathlib.Omega.{arith}
use borrow.Author.Tests.{eq-eqb, ne_eqb}
use lib.ListN.{length, take, drop}
use lib.Seq.{take-append_seam}
use Rattle.fields.specs.Field.{spell}
use Rattle.refusal.specs.declared.Refusal.{Refusal}
use Rattle.refusal.specs.First.{refuse, accept}
use Rattle.refusal.proofs.First.{if_true, if_false}
use Rattle.lent.specs.Maker.{Outcome, refusing, making}
use Rattle.lent.proofs.Maker.{makes_zero}
use Rattle.text.proofs.Promised.{byte, field_two}
use Rattle.command.specs.Command.{opcode_of, rt_of, sfn_of, allocation_of, command_length, command_fault, command_of, packet, command_bytes, ask_fault, built}
use Rattle.command.proofs.Built.{length_command, command_rt, command_sfn, command_allocation, command_fine, ask_nine, ask_eleven, ask_zero, ask_fine, built_by, built_short, built_made}

-- ---- the two lengths

-- a command has 10 bytes or 12
abbrev pub TenOrTwelve : ℕ → Type 0
TenOrTwelve n = (n ≡ 10) ⊎ (n ≡ 12)

is_long : (n : ℕ) → TenOrTwelve n → command_length n ≡ true
unfolding command_length
is_long n (inl e) = rw e
is_long n (inr e) = rw e

not_long : (n : ℕ) → (TenOrTwelve n → ⊥) → command_length n ≡ false
unfolding command_length
not_long n f = rw (ne_eqb n 10 (λ e. f (inl e)), ne_eqb n 12 (λ e. f (inr e)))

-- ---- a command's refusal and its meaning

abbrev pub Long : List ℕ → Type 0
Long c = TenOrTwelve (length c)

-- 9 for another length, then 10 for a first byte that is not 46h, then 11 for RT 3; nothing else is refused of a command
pub record Commands (c : List ℕ) (r : Refusal) : Type 0 where
  pub nine : (Long c → ⊥) → r ≡ refuse 9
  pub ten : Long c → (byte c 0 ≡ 0x46 → ⊥) → r ≡ refuse 10
  pub eleven : Long c → byte c 0 ≡ 0x46 → byte c 1 % 4 ≡ 3 → r ≡ refuse 11
  pub fine : Long c → byte c 0 ≡ 0x46 → (byte c 1 % 4 ≡ 3 → ⊥) → r ≡ accept

pub commands : (c : List ℕ) → Commands c (command_fault c)
unfolding command_fault opcode_of rt_of
commands c = record {
  nine = λ h. rw (not_long (length c) h, if_true);
  ten = λ h k. rw (is_long (length c) h, if_false, ne_eqb (byte c 0) 0x46 k, if_true);
  eleven = λ h k l. rw (is_long (length c) h, if_false, eq-eqb (byte c 0) 0x46 k, if_false, eq-eqb (byte c 1 % 4) 3 l, if_true);
  fine = λ h k l. rw (is_long (length c) h, if_false, eq-eqb (byte c 0) 0x46 k, if_false, ne_eqb (byte c 1 % 4) 3 l, if_false);
}

-- what it asks for: RT in bits 1-0 of byte 1, the start in bytes 2 and 3, the allocation length in bytes 7 and 8
pub record Understood (c : List ℕ) (rt sfn allocation : ℕ) : Type 0 where
  pub asked : rt ≡ byte c 1 % 4
  pub start : sfn ≡ byte c 2 * 256 + byte c 3
  pub most : allocation ≡ byte c 7 * 256 + byte c 8

pub understood : (c : List ℕ) → Understood c (rt_of c) (sfn_of c) (allocation_of c)
unfolding rt_of sfn_of allocation_of
understood c = record { asked = refl; start = field_two c 2; most = field_two c 7 }

-- ---- the builder

-- Of an outcome o of the length n, of what is to be asked for, and of the buffer d: 9 for another length, then 11, then 12, and the buffer is as it was; else these bytes,
-- every other bit 0, and nothing behind them changes. Where it answers 0 the box refuses nothing of the command, and reads it as exactly those three.
pub record Builds (n rt sfn a : ℕ) (d : List ℕ) (o : Outcome) : Type 0 where
  pub by_length : (TenOrTwelve n → ⊥) → o ≡ refusing d (refuse 9)
  pub by_rt : TenOrTwelve n → 2 < rt → o ≡ refusing d (refuse 11)
  pub by_room : TenOrTwelve n → rt ≤ 2 → length d < n → o ≡ refusing d (refuse 12)
  pub ten : n ≡ 10 → rt ≤ 2 → n ≤ length d → o ≡ making (0x46 ∷ rt ∷ sfn / 256 % 256 ∷ sfn % 256 ∷ 0 ∷ 0 ∷ 0 ∷ a / 256 % 256 ∷ a % 256 ∷ 0 ∷ []) d
  pub twelve : n ≡ 12 → rt ≤ 2 → n ≤ length d → o ≡ making (0x46 ∷ rt ∷ sfn / 256 % 256 ∷ sfn % 256 ∷ 0 ∷ 0 ∷ 0 ∷ a / 256 % 256 ∷ a % 256 ∷ 0 ∷ 0 ∷ 0 ∷ []) d
  pub stands : o.made.refusal.number ≡ 0 → (o.made.count ≡ n) × (take n o.buffer ≡ command_bytes n rt sfn a)
  pub accepted : o.made.refusal.number ≡ 0 → command_fault (take n o.buffer) ≡ accept
  pub understood : o.made.refusal.number ≡ 0 → sfn < 65536 → a < 65536 → command_of (take n o.buffer) ≡ record { rt = rt; sfn = record { 0 = sfn }; allocation = a }

module _ (n rt sfn a : ℕ) (d : List ℕ) where
  zero : (built n rt sfn a d).made.refusal.number ≡ 0 → ((ask_fault n rt).number ≡ 0) × (length (command_bytes n rt sfn a) ≤ length d)
  unfolding built
  zero e = makes_zero (ask_fault n rt) 11 (command_bytes n rt sfn a) d e

  stands : (built n rt sfn a d).made.refusal.number ≡ 0 → ((built n rt sfn a d).made.count ≡ n) × (take n (built n rt sfn a d).buffer ≡ command_bytes n rt sfn a)
  unfolding making
  stands e =
      let z = zero e in
      let l : length (command_bytes n rt sfn a) ≡ n = length_command n rt sfn a (ask_fine n rt z.0).0 in
      let m : built n rt sfn a d ≡ making (command_bytes n rt sfn a) d = built_made n rt sfn a d z.0 (omega (arith, z.1)) in (
        ap (λ (o : Outcome). o.made.count) m ∙ l,
        ap (λ (k : ℕ). take k (built n rt sfn a d).buffer) (sym l) ∙ ap (λ (o : Outcome). take (length (command_bytes n rt sfn a)) o.buffer) m ∙ take-append_seam (command_bytes n rt sfn a) (drop (length (command_bytes n rt sfn a)) d),
      )

  written : TenOrTwelve n → rt ≤ 2 → n ≤ length d → built n rt sfn a d ≡ making (take n (packet rt sfn a)) d
  unfolding command_bytes
  written l h k = built_made n rt sfn a d (ask_zero n rt (is_long n l) h) k

  pub builds : Builds n rt sfn a d (built n rt sfn a d)
  unfolding command_of packet spell
  builds = record {
    by_length = λ f. built_by n rt sfn a d (ask_nine n rt (not_long n f)) (λ z. omega arith);
    by_rt = λ l h. built_by n rt sfn a d (ask_eleven n rt (is_long n l) h) (λ z. omega arith);
    by_room = λ l h. built_short n rt sfn a d (ask_zero n rt (is_long n l) h);
    ten = λ e h k. written (inl e) h k ∙ ap (λ (m : ℕ). making (take m (packet rt sfn a)) d) e;
    twelve = λ e h k. written (inr e) h k ∙ ap (λ (m : ℕ). making (take m (packet rt sfn a)) d) e;
    stands = stands;
    accepted = λ e. let k = ask_fine n rt (zero e).0 in ap command_fault (stands e).1 ∙ command_fine n rt sfn a k.0 k.1;
    understood = λ e s l. let k = ask_fine n rt (zero e).0 in ap command_of (stands e).1 ∙ rw (command_rt n rt sfn a k.0 k.1, command_sfn n rt sfn a k.0 s, command_allocation n rt sfn a k.0 l);
  }
