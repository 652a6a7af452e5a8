-- The rounds of a sweep are honest: each takes what the reading of the response for its start finds. Assumes nothing.
use mathlib.Core.Path.{◌≡◌, refl, sym, ap, ◌∙◌}
use mathlib.Core.Bool.{true}
use mathlib.Core.List.{List, [], ◌∷◌, ◌++◌, append_assoc}
use Prim.Native.Nat.{ℕ, zero, suc, ◌+◌, ◌≤◌, ◌<◌}
use native.Mathlib.Omega.{arith}
use lib.Dec.{ltb}
use lib.ListN.{length, drop}
use lib.Seq.{take_at}
use borrow.Author.Tests.{lt-ltb}
use Rattle.base.specs.Lists.{flat, All}
use Rattle.base.proofs.Lists.{flat_append, drop_behind}
use Rattle.text.specs.Drive.{Desc, Drive, Sound}
use Rattle.text.specs.Response.{bytes, selected, sent, most}
use Rattle.text.proofs.Packing.{whole_rest, whole_some, rest_all, groups_last, groups_some}
use Rattle.text.proofs.Own.{wholes_sent}
use Rattle.text.proofs.Next.{selected_next}
use Rattle.sweep.specs.Sweep.{cut}
use Rattle.bench.specs.Swept.{room, HasRoom, Round, Honest}
use Rattle.bench.proofs.Round.{fits, left, gain, later, plan, cut_none, cut_yes}
use Rattle.bench.proofs.Rounds.{starts_of, length_starts_of, selected_count, plan_more}

module _ {m : Drive} (good : Sound m) (rt a : ℕ) (two : rt < 2) (eight : 8 ≤ a) where
  -- one round
  round : (f before : ℕ) (out behind : List ℕ) → drop before out ≡ flat bytes (fits m rt a f) ++ behind → (ts : List ℕ) → cut (sent rt f a m) ≡ ltb 0 (length ts)
      → Round m rt a out before f (fits m rt a f) (ltb 0 (length ts))
  round f before out behind e ts c = record {
    took = sym (wholes_sent good rt f a eight (most a) (omega arith) (omega arith));
    stands = rw e (take_at (flat bytes (fits m rt a f)) behind (gain m rt a f) refl);
    goes = c;
  }

  -- the bytes of what fits stand first
  front : (f before : ℕ) (out behind : List ℕ) → drop before out ≡ flat bytes (selected rt f m) ++ behind
      → drop before out ≡ flat bytes (fits m rt a f) ++ (flat bytes (left m rt a f) ++ behind)
  front f before out behind e =
      e ∙ ap (λ (r : List Desc). flat bytes r ++ behind) (sym (whole_rest (room a) (selected rt f m)))
      ∙ ap (λ (r : List ℕ). r ++ behind) (flat_append bytes (fits m rt a f) (left m rt a f))
      ∙ append_assoc (flat bytes (fits m rt a f)) (flat bytes (left m rt a f)) behind

  -- all rounds
  abbrev Claim : (n : ℕ) → Type 0
  Claim n =
      (f before : ℕ) (out behind : List ℕ) → All (HasRoom a) (selected rt f m) → 0 < length (selected rt f m) → length (selected rt f m) ≤ n
      → drop before out ≡ flat bytes (selected rt f m) ++ behind → Honest m rt a out before f (starts_of f (plan m rt a n f)) (plan m rt a n f)

  pub rounds : (n : ℕ) → Claim n
  unfolding starts_of
  rounds zero f before out behind s p q e = absurd (omega arith)
  rounds (suc n) f before out behind s p q e = go (left m rt a f) refl (rounds n)
    where
      go : (xs : List Desc) → left m rt a f ≡ xs → Claim n → Honest m rt a out before f (starts_of f (plan m rt a (suc n) f)) (plan m rt a (suc n) f)
      go [] l ih =
          rw (groups_last (room a) n (selected rt f m) l)
          (refl, round f before out (flat bytes (left m rt a f) ++ behind) (front f before out behind e) [] (cut_none good rt a f eight l), tt)
      go (x ∷ xs) l ih =
          let i : 0 < length (left m rt a f) = rw l (omega arith) in
          let j : 0 < length (fits m rt a f) = whole_some (room a) (selected rt f m) s i in
          let k : selected rt (later m rt a f) m ≡ left m rt a f = selected_next good rt (room a) f j two in
          let t : length (selected rt f m) ≡ length (fits m rt a f) + length (selected rt (later m rt a f) m) = selected_count good rt a f two j in
          let gs : List (List Desc) = plan m rt a n (later m rt a f) in
          let ts : List ℕ = starts_of (later m rt a f) gs in
          let b : drop before out ≡ flat bytes (fits m rt a f) ++ (flat bytes (left m rt a f) ++ behind) = front f before out behind e in
          let c : ltb 0 (length ts) ≡ true = lt-ltb 0 (length ts) (omega (arith, length_starts_of (later m rt a f) gs, groups_some (room a) n (selected rt (later m rt a f) m) (omega (arith, ap length k)))) in
          rw (plan_more good rt a f two j x xs l n) (
            refl,
            round f before out (flat bytes (left m rt a f) ++ behind) b ts (cut_yes good rt a f eight i ∙ sym c),
            ih (later m rt a f) (before + gain m rt a f) out behind
                (rw k (rest_all (HasRoom a) (room a) (selected rt f m) s))
                (omega (arith, ap length k))
                (omega arith)
                (rw k (drop_behind out before (flat bytes (fits m rt a f)) (flat bytes (left m rt a f) ++ behind) (gain m rt a f) b refl)),
          )
