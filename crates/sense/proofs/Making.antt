-- The maker's answer, case by case. Assumes nothing.
use mathlib.Core.Path.{◌≡◌, refl, sym, ap, ◌∙◌}
use mathlib.Core.List.{List, []}
use Prim.Native.Nat.{ℕ, ◌≤◌, ◌<◌}
use native.Mathlib.Omega.{arith}
use lib.Dec.{eqb}
use lib.ListN.{length}
use Rattle.refusal.specs.declared.Refusal.{Refusal}
use Rattle.refusal.specs.First.{refuse, accept}
use Rattle.lent.specs.Wrote.{Wrote}
use Rattle.lent.specs.declared.Made.{Made}
use Rattle.lent.specs.Maker.{Outcome, outcome, refused, written, refusing, makes}
use Rattle.lent.proofs.Maker.{makes_fault, makes_short, makes_made, written_making}
use Rattle.sense.specs.declared.Kind.{Kind}
use Rattle.sense.specs.declared.Kind.TheVariants.{Nothing, Operation, Field, Trouble}
use Rattle.sense.specs.declared.Sense.{Sense}
use Rattle.sense.specs.declared.Sense.TheVariants.{Means, Refused}
use Rattle.sense.specs.Sense.{Heard, heard, given, kind_of, fixed, sense_of, bytes_of, key, code, pointer, made}
use Rattle.sense.proofs.Picked.{picked_refused}

-- each kind has 18 bytes
pub sense_length : (k : Kind) → length (sense_of k) ≡ 18
unfolding fixed sense_of key code pointer
sense_length Nothing = refl
sense_length Operation = refl
sense_length Field = refl
sense_length Trouble = refl

-- the buffer is too short, or the bytes of a kind were written
pub write_short : (k : Kind) (d : List ℕ) (m : Made) → m ≡ refused (refuse 55) → length d < 18 → outcome m d ≡ makes accept 55 (sense_of k) d
unfolding refusing
write_short k d m q s = rw q (sym (makes_short accept 55 (sense_of k) d refl (λ z. omega arith) (omega (arith, s, sense_length k))))

pub write_written : (k : Kind) (d : List ℕ) (m : Made) (r : ℕ) (b x : List ℕ) → m ≡ written r → 18 ≤ length d → Wrote d 0 x r b → x ≡ sense_of k
    → outcome m b ≡ makes accept 55 (sense_of k) d
write_written k d m r b x q s w e =
    rw q
    (written_making (omega (arith, s, sense_length k)) (rw (← e) w)
    ∙ sym (makes_made accept 55 (sense_of k) d refl (omega (arith, s, sense_length k))))

-- what the table says of a number n: that it is refused, or the kind k
pub make_other : (n : ℕ) (d : List ℕ) (r : Sense) (f : Refusal) (m : Made) → heard r ≡ kind_of n → r ≡ Refused f → m ≡ refused f → outcome m d ≡ made n d
unfolding made kind_of refusing
make_other n d r f m e q h =
    let s : kind_of n ≡ heard (Refused f) = sym e ∙ ap heard q in
    let u : f.number ≡ 54 = ap (λ (x : Refusal). x.number) (picked_refused (λ l. eqb l.0 n) (λ l. l.1) 54 f given s) in
    rw h (sym (ap (λ (x : Heard). makes x.refusal 55 (bytes_of x.kind) d) s ∙ makes_fault f 55 (bytes_of []) d (λ z. omega (arith, u))))

pub make_kind : (n : ℕ) (d : List ℕ) (r : Sense) (k : Kind) (o : Outcome) → heard r ≡ kind_of n → r ≡ Means k → o ≡ makes accept 55 (sense_of k) d → o ≡ made n d
unfolding made bytes_of
make_kind n d r k o e q h = h ∙ ap (λ (x : Heard). makes x.refusal 55 (bytes_of x.kind) d) (ap heard (sym q) ∙ e)
