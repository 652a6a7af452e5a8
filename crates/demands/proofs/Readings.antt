-- Demand 2, second half: "For each byte string received the reading is exactly what the text makes of it. Reading our own response gives back
-- its profile and each whole descriptor." Both are `Reads`; the second alone, of the definition, is `demand2_own`. Assumes nothing.
use borrow.Author.Tests.{ne_eqb}
use mathlib.Core.Path.{◌≡◌, refl, sym, ap, ◌∙◌}
use mathlib.Core.List.{List}
use Prim.Native.Nat.{ℕ, ◌+◌, ◌-◌, ◌≤◌, min}
use native.Mathlib.Omega.{arith}
use lib.Dec.{leb}
use lib.ListN.{length, take, drop}
use Rattle.base.specs.Lists.{flat, Bytes}
use Rattle.text.specs.declared.Reading.{Reading}
use Rattle.refusal.specs.declared.Refusal.{Refusal}
use Rattle.refusal.specs.First.{refuse, accept, unless}
use Rattle.refusal.proofs.First.{if_true, or_else_none, or_else_fault, unless_none, unless_fault}
use Rattle.text.specs.Drive.{Desc, Drive, Sound}
use Rattle.text.specs.Response.{bytes, selected, current_profile, data_length, full, sent}
use Rattle.text.specs.Reading.{stated_length, read_fault, nothing_read, taken, reading, wholes, last_number}
use Rattle.text.specs.Packing.{whole}
use Rattle.text.proofs.Sent.{bytes_sent}
use Rattle.text.proofs.Own.{wholes_sent, reading_sent}
use Rattle.text.proofs.Again.{read_fault_cut, wholes_cut}
use Rattle.text.proofs.Received.{reading_fault, reading_cases, wholes_flat}
use Rattle.text.proofs.Promised.{field_four, announced, refused_with, Received, received}
use Rattle.layout.specs.Layout.{Sheet}
use Rattle.sheet.specs.Check.{Accepted}
use Rattle.sheet.specs.Meaning.{meaning}
use Rattle.sheet.proofs.Meaning.{meaning_fine}
use Rattle.reading.specs.declared.Scanned.{Scanned}
use Rattle.reading.specs.Scan.{scanned}
use Rattle.reading.specs.Completed.{complete_fault, completed}
use Rattle.reading.proofs.Completed.{complete_accept, complete_fault_here, reading_refusal}

-- the descriptors that the answer to RT rt from sfn with allocation length a holds whole
abbrev pub sent_whole : (m : Drive) (rt sfn a : ℕ) → List Desc
sent_whole m rt sfn a = whole (min a 65534 - 8) (selected rt sfn m)

-- What the box sends for RT rt from sfn with allocation length a, of eight bytes or more, read as the answer to that request: r is the reading
-- of the received bytes s. It is accepted and gives back the profile, the Data Length and exactly the descriptors that the bytes sent hold whole,
-- which stand from byte 8 to the place behind the last; it is complete exactly if nothing was cut.
pub record ReadBack (m : Drive) (limit rt sfn a : ℕ) (s : List ℕ) (r : Reading) : Type 0 where
  pub fields : r ≡ record {
    refusal = accept;
    profile = record { 0 = current_profile m.profiles };
    data_length = data_length (selected rt sfn m);
    count = length (sent_whole m rt sfn a);
    end = 8 + length (flat bytes (sent_whole m rt sfn a));
    complete = leb (length (full rt sfn m)) (min a 65534);
  }
  pub descriptors : wholes limit rt sfn s ≡ sent_whole m rt sfn a
  pub stand : flat bytes (sent_whole m rt sfn a) ≡ take (r.end - 8) (drop 8 s)

-- Of a reading r of the bytes s as the answer to RT rt from sfn, where more than limit bytes are refused (65,534, or C in a sweep): it is what the text
-- makes of them, and of our own response it gives back what was sent. In plain numbers of the bytes: 13 to 16, each with its ground and its turn; 17 to 20 at
-- the first descriptor with a fault whose four header bytes were received; the five values that an accepted one gives.
pub record Reads (limit rt sfn : ℕ) (s : List ℕ) (r : Reading) : Type 0 where
  pub refuses : ((read_fault limit rt sfn s).number ≡ 0 → ⊥) → r ≡ nothing_read (read_fault limit rt sfn s)
  pub accepts : (read_fault limit rt sfn s).number ≡ 0 → r ≡ taken s (wholes limit rt sfn s)
  pub own : (t : Sheet) (a : ℕ) → Bytes t.bytes → Accepted t → rt ≤ 2 → 8 ≤ a → min a 65534 ≤ limit → s ≡ sent rt sfn a (meaning t)
      → ReadBack (meaning t) limit rt sfn a s r
  pub plain : Received limit rt sfn s r

pub reads : (limit rt sfn : ℕ) (s : List ℕ) → Reads limit rt sfn s (reading limit rt sfn s)
reads limit rt sfn s = record {
  refuses = reading_cases limit rt sfn s (λ r ds. ((read_fault limit rt sfn s).number ≡ 0 → ⊥) → r ≡ nothing_read (read_fault limit rt sfn s)) (λ k h. refl) (λ k h. absurd (h k));
  accepts = reading_cases limit rt sfn s (λ r ds. (read_fault limit rt sfn s).number ≡ 0 → r ≡ taken s ds) (λ k h. absurd (k h)) (λ k h. refl);
  own = λ t a b ok two eight room e.
      let good : Sound (meaning t) = (meaning_fine t b ok).sound in
      let d : wholes limit rt sfn s ≡ sent_whole (meaning t) rt sfn a = rw e (wholes_sent good rt sfn a eight limit two room) in
      record {
        fields = rw e (reading_sent good rt sfn a eight limit two room);
        descriptors = d;
        stand = rw (← d) (wholes_flat limit rt sfn s (rw e (bytes_sent rt sfn a (meaning t) good)));
      };
  plain = received limit rt sfn s;
}

-- Of a reading r of the bytes s, to RT 0 from 0, that has to be complete: the reading's refusals, then 29 where fewer bytes were received than Data Length + 4;
-- else the reading.
pub record Completes (s : List ℕ) (r : Reading) : Type 0 where
  pub exact : r ≡ completed s
  pub unread : ((reading 65534 0 0 s).refusal.number ≡ 0 → ⊥) → r ≡ reading 65534 0 0 s
  pub cut : (reading 65534 0 0 s).refusal.number ≡ 0 → (length s ≡ announced s → ⊥) → r ≡ refused_with 29
  pub whole : (reading 65534 0 0 s).refusal.number ≡ 0 → length s ≡ announced s → r ≡ reading 65534 0 0 s

pub completes : (s : List ℕ) → Completes s (completed s)
unfolding completed complete_fault nothing_read stated_length
completes s =
    let read : (reading 65534 0 0 s).refusal.number ≡ 0 → (read_fault 65534 0 0 s).number ≡ 0 = λ z. ap (λ (x : Refusal). x.number) (sym (reading_refusal s)) ∙ z in
    record {
      exact = refl;
      unread = λ h.
          let n : (read_fault 65534 0 0 s).number ≡ 0 → ⊥ = λ z. h (ap (λ (x : Refusal). x.number) (reading_refusal s) ∙ z) in
          ap (λ (x : Refusal). unless x nothing_read (reading 65534 0 0 s)) (or_else_fault (read_fault 65534 0 0 s) _ n) ∙ unless_fault (read_fault 65534 0 0 s) nothing_read (reading 65534 0 0 s) n ∙ sym (reading_fault 65534 0 0 s n);
      cut = λ e h.
          let q : complete_fault s ≡ refuse 29 =
          or_else_none (read_fault 65534 0 0 s) _ (read e) ∙ rw (ne_eqb (length s) (stated_length s + 4) (λ z. h (z ∙ ap (λ (x : ℕ). x + 4) (field_four s 0)))) (if_true _ _) in
          ap (λ (x : Refusal). unless x nothing_read (reading 65534 0 0 s)) q ∙ unless_fault (refuse 29) nothing_read (reading 65534 0 0 s) (λ z. omega arith);
      whole = λ e h.
          let q : complete_fault s ≡ accept = complete_accept s record { read = read e; ends = h ∙ ap (λ (x : ℕ). x + 4) (sym (field_four s 0)) } in
          ap (λ (x : Refusal). unless x nothing_read (reading 65534 0 0 s)) q ∙ unless_none accept nothing_read (reading 65534 0 0 s) refl;
    }

-- the number of its refusal alone: that of such a reading
pub record CompletesBy (s : List ℕ) (n : ℕ) : Type 0 where
  pub reading : Reading
  pub completes : Completes s reading
  pub number : n ≡ reading.refusal.number

pub completes_by : (s : List ℕ) → CompletesBy s (complete_fault s).number
completes_by s = record { reading = completed s; completes = completes s; number = ap (λ (x : Refusal). x.number) (sym (complete_fault_here s (completed s) refl)) }

-- what `reading::scan` gives besides: the number of the last whole descriptor
pub record Scans (limit rt sfn : ℕ) (s : List ℕ) (r : Scanned) : Type 0 where
  pub reads : Reads limit rt sfn s r.reading
  pub last : r.last.0 ≡ last_number (wholes limit rt sfn s)

pub scans : (limit rt sfn : ℕ) (s : List ℕ) → Scans limit rt sfn s (scanned limit rt sfn s)
unfolding scanned
scans limit rt sfn s = record { reads = reads limit rt sfn s; last = refl }

pub demand2_own : (s : Sheet) → Bytes s.bytes → Accepted s → (rt sfn a : ℕ) → rt ≤ 2 → 8 ≤ a
    → ReadBack (meaning s) 65534 rt sfn a (sent rt sfn a (meaning s)) (reading 65534 rt sfn (sent rt sfn a (meaning s)))
demand2_own s b ok rt sfn a two eight = (reads 65534 rt sfn (sent rt sfn a (meaning s))).own s a b ok two eight (omega arith) refl

-- ---- beside it

-- The whole descriptors, written out again, are the received bytes from 8 to the place behind the last.
pub written_again : (limit rt sfn : ℕ) (s : List ℕ) → Bytes s
    → flat bytes (wholes limit rt sfn s) ≡ take ((reading limit rt sfn s).end - 8) (drop 8 s)
written_again limit rt sfn s b = wholes_flat limit rt sfn s b

-- Cutting an accepted response shorter, to eight bytes or more, leaves it accepted and never adds a descriptor.
pub cut_shorter : (limit rt sfn n : ℕ) (s : List ℕ) → (read_fault limit rt sfn s).number ≡ 0 → 8 ≤ n
    → (read_fault limit rt sfn (take n s) ≡ accept)
    × (wholes limit rt sfn (take n s) ≡ take (length (wholes limit rt sfn (take n s))) (wholes limit rt sfn s))
cut_shorter limit rt sfn n s e h = (read_fault_cut rt sfn n s limit e h, wholes_cut rt sfn n s limit e)
