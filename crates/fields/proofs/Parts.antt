-- A part of a slice: that it is decided, and that it lies inside. Assumes nothing.
use mathlib.Core.Path.{◌≡◌, ap, ◌∙◌}
use mathlib.Core.List.{List}
use Prim.Native.Nat.{ℕ, ◌-◌, ◌≤◌}
use native.Mathlib.Omega.{arith}
use lib.ListN.{length, take, drop, length-take, length-drop}
use denote.Ref.{Bor}
use Rattle.base.proofs.Decided.{seen, joined}
use Rattle.fields.specs.Part.{PartOf, Inside}

module _ {s : Bor (List ℕ)} {at : ℕ} {bs : List ℕ} {r : Bor (List ℕ)} (p : PartOf s at bs r) where
  -- the index and the bytes by other names
  pub part_is : {at' : ℕ} {bs' : List ℕ} → (at ≡ at') × (bs ≡ bs') → PartOf s at' bs' r
  part_is e = record { holds = p.holds ∙ e.1; block = p.block; place = rw (← e.0) p.place }

  -- two such parts are the same to every program
  pub same_part : {r' : Bor (List ℕ)} → PartOf s at bs r' → seen r ≡ seen r'
  same_part q i = ((joined p.block q.block i, joined p.place q.place i), joined p.holds q.holds i)

  -- a part that holds no more than s has from there on lies inside s
  pub part_inside : length bs ≤ length s.now - at → Inside s r
  part_inside h = record {
    block = p.block;
    from = omega (arith, p.place);
    to = omega (arith, p.place, ap length p.holds);
  }

-- so does every part that the contract of `fields::part` allows
pub taken_inside : (n at : ℕ) (s r : Bor (List ℕ)) → PartOf s at (take n (drop at s.now)) r → Inside s r
taken_inside n at s r p = part_inside p (omega (arith, length-take n (drop at s.now), length-drop at s.now))
