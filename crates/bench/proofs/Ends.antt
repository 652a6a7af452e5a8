-- How a run of rounds ends, against a drive that the text can speak of: it has taken all that is wanted from its start on, or it is refused 23, 24
-- or 25, each with its ground. Assumes nothing.
use mathlib.Core.Path.{◌≡◌, refl, sym, ap, ◌∙◌}
use mathlib.Core.Logic.{inl, inr, ⊎_elim}
use mathlib.Core.List.{List, [], ◌∷◌, ◌++◌, append-nil, append_assoc}
use Prim.Native.Nat.{ℕ, zero, suc, ◌+◌, ◌-◌, ◌≤◌, ◌<◌}
use native.Mathlib.Numerals.{add-one}
use native.Mathlib.Omega.{arith}
use lib.ListN.{length, take, set, length-append, length-set}
use lib.Seq.{sets, length-sets}
use Rattle.base.specs.Lists.{flat, All}
use Rattle.base.proofs.Lists.{flat_append, all_append}
use Rattle.lent.proofs.Sets.{sets_append}
use Rattle.refusal.specs.declared.Refusal.{Refusal}
use Rattle.refusal.specs.First.{refuse, accept}
use Rattle.text.specs.Drive.{Desc, Drive, Sound}
use Rattle.text.specs.Response.{bytes, selected, sent, most}
use Rattle.text.specs.Reading.{last_number}
use Rattle.text.specs.Packing.{size, whole, joined}
use Rattle.base.proofs.Compare.{le_or_lt}
use Rattle.text.proofs.Sent.{length_sent}
use Rattle.text.proofs.Packing.{whole_rest, rest_fits, whole_every, whole_fits, whole_none, groups_last, groups_some, flat_parts}
use Rattle.text.proofs.Next.{selected_next}
use Rattle.sweep.specs.Sweep.{take_fault}
use Rattle.sweep.proofs.Cases.{step_refusal}
use Rattle.bench.specs.Bench.{Buffers, buffers, State, state, Ending, ending, filled, failing, succeeding, rounded, rounds}
use Rattle.bench.specs.Swept.{room, HasRoom, last_of, next_start}
use Rattle.bench.proofs.Run.{length_filled, filled_filled, answer, run_ended, run_full, run_fault, run_round}
use Rattle.bench.proofs.Round.{going, gone, fits, left, gain, later, plan, onto, Takes, take_narrow, take_fine, take_stuck, round_last, round_more}
use Rattle.bench.proofs.Rounds.{starts_of, length_starts_of, behind_append, last_some, selected_split, selected_count, selected_bytes, plan_more}

-- the outcome of a run that takes gs in its rounds, the first from f with c commands and k bytes before it
unfoldable pub finished : (m : Drive) (rt a f c k : ℕ) (bs : Buffers) → List (List Desc) → Ending
finished m rt a f c k bs gs =
    ending record { refusal = accept; commands = c + length gs; collected = k + length (flat bytes (joined gs)) }
    (buffers (filled (sent rt (last_of f (starts_of f gs)) a m) bs.response) (sets bs.collected k (flat bytes (joined gs))) (sets bs.starts c (starts_of f gs)))

-- the bytes that the rounds gs take as far as there are n of them
abbrev pub begun : (n : ℕ) → List (List Desc) → ℕ
begun n gs = length (flat bytes (joined (take n gs)))

-- a round that takes g, and those behind it
begun_more : (g : List Desc) (gs : List (List Desc)) (c n : ℕ) → c < n → begun (n - c) (g ∷ gs) ≡ length (flat bytes g) + begun (n - (c + 1)) gs
unfolding joined
begun_more g gs c n h =
    ap (λ (i : ℕ). begun i (g ∷ gs)) {x = n - c} {y = suc (n - (c + 1))} (omega arith)
    ∙ ap length (flat_append bytes g (joined (take (n - (c + 1)) gs)))
    ∙ length-append (flat bytes g) (flat bytes (joined (take (n - (c + 1)) gs)))

-- no round
begun_none : (gs : List (List Desc)) (c n : ℕ) → n ≤ c → begun (n - c) gs ≡ 0
unfolding joined flat
begun_none gs c n h = ap (λ (i : ℕ). begun i gs) {x = n - c} {y = 0} (omega arith)

module _ (m : Drive) (rt a : ℕ) (came : Buffers) where
  -- a run from f with room for n rounds; of 24 and 25 also whether the rounds that have a start have room for their bytes
  pub data Runs (n f c k : ℕ) (bs : Buffers) (o : Ending) : Type 0 where
    done : o ≡ finished m rt a f c k bs (plan m rt a n f) → joined (plan m rt a n f) ≡ selected rt f m
        → k + length (flat bytes (selected rt f m)) ≤ length bs.collected → c + length (plan m rt a n f) ≤ length bs.starts → Runs n f c k bs o
    stuck : o ≡ failing came (refuse 23) → (xs : List Desc) (d : Desc) (ys : List Desc)
        → selected rt f m ≡ xs ++ d ∷ ys → selected rt (next_start f xs) m ≡ d ∷ ys → room a < size d → All (HasRoom a) xs → Runs n f c k bs o
    tight : o ≡ failing came (refuse 24) → length bs.collected < k + length (flat bytes (selected rt f m))
        → length bs.collected < k + begun (length bs.starts - c) (plan m rt a n f) → Runs n f c k bs o
    spent : o ≡ failing came (refuse 25) → length bs.starts < c + length (plan m rt a n f)
        → k + begun (length bs.starts - c) (plan m rt a n f) ≤ length bs.collected → Runs n f c k bs o

-- a round that takes g, and those behind it
finished_more : (m : Drive) (rt a f c k : ℕ) (bs : Buffers) (g : List Desc) (gs : List (List Desc))
    → length (sent rt f a m) ≤ length bs.response → 0 < length gs
    → finished m rt a (last_number g + 1) (c + 1) (k + length (flat bytes g)) (buffers (filled (sent rt f a m) bs.response) (sets bs.collected k (flat bytes g)) (set bs.starts c f)) gs
    ≡ finished m rt a f c k bs (g ∷ gs)
unfolding finished starts_of last_of joined
finished_more m rt a f c k bs g gs l h =
    let t : ℕ = last_number g + 1 in
    let p : 0 < length (starts_of t gs) = omega (arith, length_starts_of t gs) in
    let i : c + 1 + length gs ≡ c + suc (length gs) = omega arith in
    let j : k + length (flat bytes g) + length (flat bytes (joined gs)) ≡ k + length (flat bytes (g ++ joined gs)) =
    omega (arith, ap length (flat_append bytes g (joined gs)), length-append (flat bytes g) (flat bytes (joined gs))) in
    rw (
      i,
      j,
      filled_filled (sent rt (last_of t (starts_of t gs)) a m) (sent rt f a m) bs.response l,
      last_some t f (starts_of t gs) p,
      ← sets_append bs.collected k (flat bytes g) (flat bytes (joined gs)),
      ← flat_append bytes g (joined gs),
      add-one c,
    )

module _ {m : Drive} (good : Sound m) (rt a : ℕ) (two : rt < 2) (eight : 8 ≤ a) (came : Buffers) where
  -- a round with room for its start, and room for n more rounds
  module _ (n f c k : ℕ) (bs : Buffers) (few : c ≤ 65535) (another : c < length bs.starts) where
    abbrev w : State
    w = state (going m rt a f c k) bs

    refused_by : (r : Refusal) → (r.number ≡ 0 → ⊥) → take_fault (going m rt a f c k) (sent rt f a m) (length bs.collected) ≡ r → rounds (suc n) m came w ≡ failing came r
    refused_by r h e =
        let q : answer m w ≡ r = step_refusal (going m rt a f c k) (sent rt f a m) bs.collected ∙ e in
        run_fault n m came w refl another (λ z. h (sym (ap (λ (r : Refusal). r.number) q) ∙ z)) ∙ ap (failing came) q

    taken_by : take_fault (going m rt a f c k) (sent rt f a m) (length bs.collected) ≡ accept → rounds (suc n) m came w ≡ rounds n m came (rounded m w)
    taken_by e = run_round n m came w refl another (ap (λ (r : Refusal). r.number) (step_refusal (going m rt a f c k) (sent rt f a m) bs.collected ∙ e))

    -- 24
    ends_tight : Takes m rt a f → (gs : List (List Desc)) → plan m rt a n f ≡ fits m rt a f ∷ gs → length bs.collected < k + gain m rt a f
        → Runs m rt a came n f c k bs (rounds (suc n) m came w)
    ends_tight t gs p h =
        tight
        (refused_by (refuse 24) (λ z. omega arith) (take_narrow good rt a f eight two c k few t (length bs.collected) h))
        (omega (arith, flat_parts (room a) (selected rt f m)))
        (rw p (omega (arith, begun_more (fits m rt a f) gs c (length bs.starts) another)))

    -- 23
    ends_stuck : (x : Desc) (xs : List Desc) → fits m rt a f ≡ [] → left m rt a f ≡ x ∷ xs → Runs m rt a came n f c k bs (rounds (suc n) m came w)
    unfolding next_start
    ends_stuck x xs e l =
        let q : selected rt f m ≡ x ∷ xs = sym (whole_rest (room a) (selected rt f m)) ∙ ap (λ (r : List Desc). r ++ left m rt a f) e ∙ l in
        stuck
        (refused_by (refuse 23) (λ z. omega arith) (take_stuck good rt a f eight two c k few e (rw l (omega arith)) (length bs.collected)))
        [] x xs q q
        (whole_none (room a) x xs (ap (whole (room a)) (sym q) ∙ e))
        tt

  -- nothing is left
  abbrev ended : (f c k : ℕ) (bs : Buffers) → State
  ended f c k bs = state (gone m rt a f (c + 1) (k + gain m rt a f)) (onto m rt a f c k bs)

  finish : (n f c k : ℕ) (bs : Buffers) → left m rt a f ≡ []
      → succeeding (ended f c k bs) ≡ finished m rt a f c k bs (plan m rt a (suc n) f)
  unfolding finished starts_of last_of succeeding joined
  finish n f c k bs e = rw (groups_last (room a) n (selected rt f m) e, append-nil)

  all : (f : ℕ) → left m rt a f ≡ [] → fits m rt a f ≡ selected rt f m
  all f e = whole_every (room a) (selected rt f m) (rest_fits (room a) (selected rt f m) e)

  ends_last : (n f c k : ℕ) (bs : Buffers) → c ≤ 65535 → c < length bs.starts → left m rt a f ≡ []
      → Runs m rt a came (suc n) f c k bs (rounds (suc (suc n)) m came (state (going m rt a f c k) bs))
  unfolding joined
  ends_last n f c k bs few another e = ⊎_elim
      (λ (h : k + gain m rt a f ≤ length bs.collected).
      done
      (taken_by (suc n) f c k bs few another (take_fine good rt a f eight two c k few (inl e) (length bs.collected) h)
      ∙ ap (rounds (suc n) m came) (round_last good rt a f eight two c k few bs h e)
      ∙ run_ended n m came (ended f c k bs) refl
      ∙ finish n f c k bs e)
      (rw (groups_last (room a) n (selected rt f m) e) (append-nil (fits m rt a f) ∙ all f e))
      (omega (arith, ap (λ (r : List Desc). length (flat bytes r)) (all f e)))
      (omega (arith, ap length (groups_last (room a) n (selected rt f m) e))))
      (λ (h : length bs.collected < k + gain m rt a f). ends_tight (suc n) f c k bs few another (inl e) [] (groups_last (room a) n (selected rt f m) e) h)
      (le_or_lt (k + gain m rt a f) (length bs.collected))

  -- something is left: what comes of the rounds from the next start on comes of those from this one
  module _ (f : ℕ) (x : Desc) (xs : List Desc) (l : left m rt a f ≡ x ∷ xs) (h : 0 < length (fits m rt a f)) where
    -- the rounds that have a start
    begun_onward : (n c : ℕ) (bs : Buffers) → c < length bs.starts
        → begun (length bs.starts - c) (plan m rt a (suc n) f) ≡ gain m rt a f + begun (length (set bs.starts c f) - (c + 1)) (plan m rt a n (later m rt a f))
    begun_onward n c bs b =
        rw (plan_more good rt a f two h x xs l n, length-set bs.starts c f) (begun_more (fits m rt a f) (plan m rt a n (later m rt a f)) c (length bs.starts) b)

    onward : (n c k : ℕ) (bs : Buffers) (o : Ending) → 0 < n → c < length bs.starts → length (sent rt f a m) ≤ length bs.response
        → Runs m rt a came n (later m rt a f) (c + 1) (k + gain m rt a f) (onto m rt a f c k bs) o
        → Runs m rt a came (suc n) f c k bs o
    unfolding joined
    onward n c k bs o p b r (done e j d s) =
        let gs : List (List Desc) = plan m rt a n (later m rt a f) in
        let g : plan m rt a (suc n) f ≡ fits m rt a f ∷ gs = plan_more good rt a f two h x xs l n in
        done
        (e
        ∙ finished_more m rt a f c k bs (fits m rt a f) gs r (groups_some (room a) n (selected rt (later m rt a f) m) p)
        ∙ ap (finished m rt a f c k bs) (sym g))
        (ap joined g ∙ ap (λ (r : List Desc). fits m rt a f ++ r) j ∙ sym (selected_split good rt a f two h))
        (omega (arith, length-sets bs.collected k (flat bytes (fits m rt a f)), selected_bytes good rt a f two h))
        (omega (arith, length-set bs.starts c f, ap length g))
    onward n c k bs o p b r (stuck e ys d zs q t u g) =
        stuck e (fits m rt a f ++ ys) d zs
        (selected_split good rt a f two h ∙ ap (λ (r : List Desc). fits m rt a f ++ r) q ∙ sym (append_assoc (fits m rt a f) ys (d ∷ zs)))
        (ap (λ (n : ℕ). selected rt n m) (sym (behind_append f (fits m rt a f) ys h)) ∙ t)
        u
        (all_append (HasRoom a) (fits m rt a f) ys (whole_fits (room a) (selected rt f m)) g)
    onward n c k bs o p b r (tight e q g) =
        tight e
        (omega (arith, length-sets bs.collected k (flat bytes (fits m rt a f)), selected_bytes good rt a f two h))
        (omega (arith, g, length-sets bs.collected k (flat bytes (fits m rt a f)), begun_onward n c bs b))
    onward n c k bs o p b r (spent e q g) =
        spent e
        (omega (arith, length-set bs.starts c f, ap length (plan_more good rt a f two h x xs l n)))
        (omega (arith, g, length-sets bs.collected k (flat bytes (fits m rt a f)), begun_onward n c bs b))

  -- a run with a round for each wanted descriptor
  abbrev Claim : (n : ℕ) → Type 0
  Claim n =
      (f c k : ℕ) (bs : Buffers) → 0 < length (selected rt f m) → length (selected rt f m) ≤ n → c + length (selected rt f m) ≤ 65536
      → most a ≤ length bs.response → k ≤ length bs.collected → Runs m rt a came n f c k bs (rounds (suc n) m came (state (going m rt a f c k) bs))

  pub ends : (n : ℕ) → Claim n
  ends zero f c k bs p q r s v = absurd (omega arith)
  ends (suc n) f c k bs p q r s v = ⊎_elim
      (λ (h : length bs.starts ≤ c).
      spent (run_full (suc n) m came w refl h)
      (omega (arith, groups_some (room a) (suc n) (selected rt f m) (omega arith)))
      (omega (arith, v, begun_none (plan m rt a (suc n) f) c (length bs.starts) h)))
      (λ (h : c < length bs.starts). go h (left m rt a f) refl (fits m rt a f) refl (ends n))
      (le_or_lt (length bs.starts) c)
    where
      w : State
      w = state (going m rt a f c k) bs

      go : c < length bs.starts → (xs : List Desc) → left m rt a f ≡ xs → (ys : List Desc) → fits m rt a f ≡ ys → Claim n
          → Runs m rt a came (suc n) f c k bs (rounds (suc (suc n)) m came w)
      go h [] e ys d ih = ends_last n f c k bs (omega arith) h e
      go h (x ∷ xs) l [] d ih = ends_stuck (suc n) f c k bs (omega arith) h x xs d l
      go h (x ∷ xs) l (y ∷ ys) d ih =
          let i : 0 < length (fits m rt a f) = rw d (omega arith) in
          let j : 0 < length (left m rt a f) = rw l (omega arith) in
          let t : length (selected rt f m) ≡ length (fits m rt a f) + length (selected rt (later m rt a f) m) = selected_count good rt a f two i in
          let u : length (selected rt (later m rt a f) m) ≡ length (left m rt a f) = ap length (selected_next good rt (room a) f i two) in
          let v : length (sent rt f a m) ≤ length bs.response = omega (arith, length_sent rt f a m) in
          ⊎_elim
          (λ (b : k + gain m rt a f ≤ length bs.collected).
          rw (
            taken_by (suc n) f c k bs (omega arith) h (take_fine good rt a f eight two c k (omega arith) (inr (j, i)) (length bs.collected) b),
            round_more good rt a f eight two c k (omega arith) bs b j i,
          )
          (onward f x xs l i n c k bs _ (omega arith) h v
          (ih (later m rt a f) (c + 1) (k + gain m rt a f) (onto m rt a f c k bs)
          (omega arith) (omega arith) (omega arith) (omega (arith, length_filled (sent rt f a m) bs.response v)) (omega (arith, b, length-sets bs.collected k (flat bytes (fits m rt a f)))))))
          (λ (b : length bs.collected < k + gain m rt a f). ends_tight (suc n) f c k bs (omega arith) h (inr (j, i)) _ (plan_more good rt a f two i x xs l n) b)
          (le_or_lt (k + gain m rt a f) (length bs.collected))
