-- Mending twice is mending once: of a body, of flags, of a descriptor, of a response. Assumes nothing.
use borrow.Author.Tests.{leb-true}
use mathlib.Core.Path.{◌≡◌, refl, sym, ap, ◌∙◌}
use mathlib.Core.Bool.{Bool, true, false, not, ◌&&◌}
use mathlib.Core.List.{List, [], ◌∷◌, ◌++◌}
use Prim.Native.Nat.{ℕ, zero, suc, ◌+◌, ◌-◌, ◌%◌, ◌≤◌, ◌<◌}
use native.Mathlib.Omega.{arith}
use lib.Dec.{leb, eqb}
use lib.ListN.{length, take, length-append}
use lib.Seq.{take_all, take_at, drop_at, length-take-le}
use Rattle.base.specs.Lists.{each, flat, All, Bytes}
use Rattle.base.specs.Pick.{pick, some}
use Rattle.base.proofs.Pick.{pick_here, pick_past}
use Rattle.base.proofs.Lists.{all_of, all_map, bytes_append, bytes_take, bytes_flat}
use Rattle.text.proofs.Sent.{bytes_bytes}
use Rattle.fields.specs.Field.{field}
use Rattle.fields.proofs.Laws.{field_take}
use Rattle.refusal.specs.declared.Refusal.{Refusal}
use Rattle.refusal.specs.First.{accept}
use Rattle.text.proofs.Sizes.{length_bytes, flat_four}
use Rattle.text.specs.Flags.{version, newer}
use Rattle.text.specs.Drive.{Desc, Good, Asc}
use Rattle.text.specs.Response.{bytes}
use Rattle.text.specs.Reading.{Walked, stated_length, stated_end, walked, read_fault}
use Rattle.text.specs.Packing.{size, total, whole}
use Rattle.text.proofs.Packing.{length_flat_bytes, whole_fit}
use Rattle.text.proofs.Own.{Fit, walk_front}
use Rattle.text.proofs.Walk.{read_fault_header, read_fault_accept, wholes_accepted, wholes_refused}
use Rattle.text.proofs.Again.{walked_good}
use Rattle.text.proofs.Received.{wholes_asc}
use Rattle.reading.specs.Places.{descs, reported}
use Rattle.reading.specs.Completed.{complete_fault}
use Rattle.reading.proofs.Completed.{complete_zero, complete_accept}
use Rattle.reading.proofs.Places.{wholes_end}
use Rattle.legal.specs.Legal.{row_of}
use Rattle.legal.specs.Bodies.{byte_of, wrong_length}
use Rattle.mend.specs.Mended.{mended_flags, touched, mended_byte, body_by, mended_body, mended_desc, mended_descs, mended}
use Rattle.mend.specs.Changes.{changes, undo}
use Rattle.mend.proofs.Changes.{undo_changes}
use Rattle.mend.proofs.Bits.{flags_good}
use Rattle.mend.proofs.Bits as bits
use Rattle.mend.proofs.Descs.{low_free, length_free, version_newer, fixed, length_fixed, counts_kept, fixed_again, fixed_bytes}

-- the descriptors that were read are good
pub descs_good : (s : List ℕ) → Bytes s → All Good (descs s)
descs_good s b = go (read_fault 65534 0 0 s).number refl
  where
    go : (n : ℕ) → (read_fault 65534 0 0 s).number ≡ n → All Good (descs s)
    go zero e = rw (wholes_accepted 65534 0 0 s e) (walked_good 0 0 s b)
    go (suc n) e = rw (wholes_refused 65534 0 0 s (λ z. omega arith)) tt

-- ---- flags

module _ (removable : Bool) (f flags : ℕ) (l : flags < 256) where
  pub flags_mended_here : bits.Good (leb f 0x0003) ((row_of f).3 && removable) flags (mended_flags (row_of f) removable f flags)
  unfolding mended_flags
  flags_mended_here =
      flags_good (leb f 0x0003) ((row_of f).3 && removable) flags (λ e. ap (λ (b : Bool). b && removable) (low_free f (leb-true f 0x0003 e))) l

  pub flags_again : mended_flags (row_of f) removable f (mended_flags (row_of f) removable f flags) ≡ mended_flags (row_of f) removable f flags
  unfolding mended_flags
  flags_again = flags_mended_here.again

-- ---- a body

module _ (f : ℕ) (body : List ℕ) where
  module _ (flags : ℕ) where
    pub body_touched : touched (row_of f) flags body ≡ true → mended_body (row_of f) f flags body ≡ fixed f body
    unfolding mended_body
    body_touched e = ap (λ (t : Bool). body_by t (fixed f body) body) e

    pub body_left : touched (row_of f) flags body ≡ false → mended_body (row_of f) f flags body ≡ body
    unfolding mended_body
    body_left e = ap (λ (t : Bool). body_by t (fixed f body) body) e

    -- what holds of a mended body and of one that is not touched
    pub body_cases : (P : List ℕ → Type 0) → (touched (row_of f) flags body ≡ true → P (fixed f body)) → (touched (row_of f) flags body ≡ false → P body) → P (mended_body (row_of f) f flags body)
    body_cases P mends stays = go (touched (row_of f) flags body) refl
      where
        go : (t : Bool) → touched (row_of f) flags body ≡ t → P (mended_body (row_of f) f flags body)
        go true e = rw (body_touched e) (mends e)
        go false e = rw (body_left e) (stays e)

    pub length_body : length (mended_body (row_of f) f flags body) ≡ length body
    length_body = body_cases (λ b. length b ≡ length body) (λ e. length_fixed f body) (λ e. refl)

  module _ (bs : Bytes body) (flags flags' : ℕ) (v : version flags' ≡ version flags) where
    touched_left : touched (row_of f) flags' body ≡ touched (row_of f) flags body
    unfolding touched
    touched_left =
        ap (λ (t : Bool). not (newer flags') && not t) (length_free (row_of f).1 flags' flags (byte_of body 7) (byte_of body 7) (length body) (version_newer flags' flags v) (λ c. refl))
        ∙ ap (λ (t : Bool). not t && not (wrong_length (row_of f).1 flags (byte_of body 7) (length body))) (version_newer flags' flags v)

    touched_fixed : touched (row_of f) flags' (fixed f body) ≡ touched (row_of f) flags body
    unfolding touched
    touched_fixed =
        ap (λ (n : ℕ). not (newer flags') && not (wrong_length (row_of f).1 flags' (byte_of (fixed f body) 7) n)) (length_fixed f body)
        ∙ ap (λ (t : Bool). not (newer flags') && not t)
        (length_free (row_of f).1 flags' flags (byte_of (fixed f body) 7) (byte_of body 7) (length body) (version_newer flags' flags v) (counts_kept f body bs))
        ∙ ap (λ (t : Bool). not t && not (wrong_length (row_of f).1 flags (byte_of body 7) (length body))) (version_newer flags' flags v)

    pub touched_again : touched (row_of f) flags' (mended_body (row_of f) f flags body) ≡ touched (row_of f) flags body
    touched_again = body_cases flags (λ b. touched (row_of f) flags' b ≡ touched (row_of f) flags body) (λ e. touched_fixed) (λ e. touched_left)

    pub body_again : mended_body (row_of f) f flags' (mended_body (row_of f) f flags body) ≡ mended_body (row_of f) f flags body
    unfolding mended_body
    body_again = go (touched (row_of f) flags body) refl
      where
        go : (t : Bool) → touched (row_of f) flags body ≡ t → mended_body (row_of f) f flags' (mended_body (row_of f) f flags body) ≡ mended_body (row_of f) f flags body
        go true e =
            ap (mended_body (row_of f) f flags') (body_touched flags e)
            ∙ ap (λ (t : Bool). body_by t (each (mended_byte (row_of f) f (fixed f body)) 0 (length (fixed f body))) (fixed f body)) (touched_fixed ∙ e)
            ∙ fixed_again f body bs ∙ sym (body_touched flags e)
        go false e =
            ap (mended_body (row_of f) f flags') (body_left flags e)
            ∙ ap (λ (t : Bool). body_by t (fixed f body) body) (touched_left ∙ e)
            ∙ sym (body_left flags e)

-- ---- a descriptor

module _ (removable : Bool) (d : Desc) (g : Good d) where
  pub desc_again : mended_desc removable (mended_desc removable d) ≡ mended_desc removable d
  unfolding mended_desc
  desc_again = λ i. record {
    number = d.number;
    flags = flags_again removable d.number d.flags g.flags_low i;
    body = body_again d.number d.body g.bytes d.flags (mended_flags (row_of d.number) removable d.number d.flags) (flags_mended_here removable d.number d.flags g.flags_low).version_kept i;
  }

  -- it is as good as before, and has its size
  pub desc_good : Good (mended_desc removable d)
  unfolding mended_desc
  desc_good = record {
    number_low = g.number_low;
    flags_low = (flags_mended_here removable d.number d.flags g.flags_low).low;
    four = rw (length_body d.number d.body d.flags) g.four;
    short = rw (length_body d.number d.body d.flags) g.short;
    bytes = body_cases d.number d.body d.flags Bytes (λ e. fixed_bytes d.number d.body g.bytes) (λ e. g.bytes);
  }

-- ---- descriptors

module _ (removable : Bool) where
  pub descs_again : (ds : List Desc) → All Good ds → mended_descs removable (mended_descs removable ds) ≡ mended_descs removable ds
  unfolding mended_descs
  descs_again [] g = refl
  descs_again (d ∷ ds) g = λ i. desc_again removable d g.0 i ∷ descs_again ds g.1 i

  pub all_good : (ds : List Desc) → All Good ds → All Good (mended_descs removable ds)
  unfolding mended_descs
  all_good [] g = tt
  all_good (d ∷ ds) g = (desc_good removable d g.0, all_good ds g.1)

  pub all_asc : (lo : ℕ) (ds : List Desc) → Asc lo ds → Asc lo (mended_descs removable ds)
  unfolding mended_descs mended_desc
  all_asc lo [] a = tt
  all_asc lo (d ∷ ds) a = (a.0, all_asc (1 + d.number) ds a.1)

  pub length_mended : (ds : List Desc) → length (flat bytes (mended_descs removable ds)) ≡ length (flat bytes ds)
  unfolding mended_descs flat mended_desc
  length_mended [] = refl
  length_mended (d ∷ ds) =
      omega (
        arith,
        length-append (bytes (mended_desc removable d)) (flat bytes (mended_descs removable ds)),
        length-append (bytes d) (flat bytes ds),
        length_bytes (mended_desc removable d),
        length_bytes d,
        length_body d.number d.body d.flags,
        length_mended ds,
      )

  pub reported_mended : (f : ℕ) (ds : List Desc) → reported f (mended_descs removable ds) ≡ reported f ds
  unfolding reported mended_descs mended_desc pick
  reported_mended f [] = refl
  reported_mended f (d ∷ ds) = go (eqb d.number f) refl (reported_mended f ds)
    where
      is : Desc → Bool
      is e = eqb e.number f

      go : (t : Bool) → eqb d.number f ≡ t → some is (mended_descs removable ds) ≡ some is ds → some is (mended_desc removable d ∷ mended_descs removable ds) ≡ some is (d ∷ ds)
      go true e more = pick_here is (λ x. true) false (mended_desc removable d) (mended_descs removable ds) e ∙ sym (pick_here is (λ x. true) false d ds e)
      go false e more =
          pick_past is (λ x. true) false (mended_desc removable d) (mended_descs removable ds) e ∙ more ∙ sym (pick_past is (λ x. true) false d ds e)

-- ---- a response

-- where all has room, all is whole
whole_all : (room : ℕ) (ds : List Desc) → total ds ≤ room → whole room ds ≡ ds
unfolding total whole
whole_all room [] h = refl
whole_all room (d ∷ ds) h = whole_fit room d ds (omega arith) ∙ ap (λ (es : List Desc). d ∷ es) (whole_all (room - size d) ds (omega arith))

-- a header that states what follows, and good ascending descriptors behind it: a complete response with these descriptors
module _ (h : List ℕ) (ds : List Desc) (l : length h ≡ 8) (good : All Good ds) (asc : Asc 0 ds) (stated : stated_length (h ++ flat bytes ds) + 4 ≡ 8 + length (flat bytes ds))
    (small : 8 + length (flat bytes ds) ≤ 65534) (four : length (flat bytes ds) % 4 ≡ 0) where
  abbrev s : List ℕ
  s = h ++ flat bytes ds

  size_is : length s ≡ 8 + length (flat bytes ds)
  size_is = omega (arith, length-append h (flat bytes ds))

  finds : walked 0 0 s ≡ record { fault = accept; found = ds }
  unfolding walked
  finds =
      walk_front 0 0 (stated_end s) s (length s) (total ds) 0 8 ds
      (drop_at h (flat bytes ds) 8 l ∙ sym (take_all (total ds) (flat bytes ds) (omega (arith, length_flat_bytes ds))))
      good (all_of (Fit 0 0) (λ d. record { one = refl; on = refl }) ds) asc (omega (arith, stated, length_flat_bytes ds)) (omega arith)
      ∙ ap (λ (es : List Desc). record { fault = accept; found = es }) (whole_all (total ds) ds (omega arith))

  pub reads_back : (read_fault 65534 0 0 s).number ≡ 0
  reads_back =
      ap (λ (r : Refusal). r.number)
      (read_fault_accept 65534 0 0 s
      record { two = omega arith; eight = omega (arith, size_is); most = omega (arith, size_is); low = omega (arith, stated); four = omega (arith, stated, four); within = omega (arith, size_is, stated); room = omega (arith, size_is) }
      (ap (λ (w : Walked). w.fault.number) finds))

  pub completes : (complete_fault s).number ≡ 0
  completes = ap (λ (r : Refusal). r.number) (complete_accept s record { read = reads_back; ends = omega (arith, size_is, stated) })

  pub descs_back : descs s ≡ ds
  descs_back = wholes_accepted 65534 0 0 s reads_back ∙ ap (λ (w : Walked). w.found) finds

-- ---- a complete response, mended

module _ (s : List ℕ) (bs : Bytes s) (c : (complete_fault s).number ≡ 0) where
  abbrev removable : Bool
  removable = reported 3 (descs s)

  abbrev fixes : List Desc
  fixes = mended_descs removable (descs s)

  pub ends : 8 + length (flat bytes (descs s)) ≡ length s
  ends = let k = complete_zero s c in wholes_end 0 0 s 65534 k.read k.ends

  pub eight : length (take 8 s) ≡ 8
  eight = length-take-le 8 s (omega (arith, ends))

  pub stated_is : (x : List ℕ) → stated_length (take 8 s ++ x) ≡ stated_length s
  unfolding stated_length
  stated_is x =
      sym (field_take 4 8 (take 8 s ++ x) 0 (omega arith)) ∙ ap (λ (h : List ℕ). field 4 h 0) (take_at (take 8 s) x 8 eight) ∙ field_take 4 8 s 0 (omega arith)

  stated_fits : stated_length (take 8 s ++ flat bytes fixes) + 4 ≡ 8 + length (flat bytes fixes)
  stated_fits = rw (stated_is (flat bytes fixes), length_mended removable (descs s)) (omega (arith, ends, (complete_zero s c).ends))

  abbrev reading_facts : All Good fixes × Asc 0 fixes
  reading_facts = (all_good removable (descs s) (descs_good s bs), all_asc removable 0 (descs s) (wholes_asc 65534 0 0 s))

  small_enough : 8 + length (flat bytes fixes) ≤ 65534
  small_enough = rw (length_mended removable (descs s)) (omega (arith, ends, (read_fault_header 65534 0 0 s (complete_zero s c).read).most))

  -- it is as long, it is complete, and its descriptors are those mended
  pub mended_length : length (mended s) ≡ length s
  unfolding mended
  mended_length = omega (arith, length-append (take 8 s) (flat bytes fixes), eight, length_mended removable (descs s), ends)

  pub mended_complete : (complete_fault (mended s)).number ≡ 0
  unfolding mended
  mended_complete = completes (take 8 s) fixes eight reading_facts.0 reading_facts.1 stated_fits small_enough (flat_four fixes reading_facts.0)

  pub mended_descs_here : descs (mended s) ≡ fixes
  unfolding mended
  mended_descs_here = descs_back (take 8 s) fixes eight reading_facts.0 reading_facts.1 stated_fits small_enough (flat_four fixes reading_facts.0)

  pub mended_bytes : Bytes (mended s)
  unfolding mended
  mended_bytes = bytes_append (take 8 s) (flat bytes fixes) (bytes_take 8 s bs) (bytes_flat bytes fixes (all_map Good (λ d. Bytes (bytes d)) bytes_bytes fixes reading_facts.0))

  -- removable or not, it stays so
  pub mended_removable : reported 3 (descs (mended s)) ≡ removable
  mended_removable = ap (reported 3) mended_descs_here ∙ reported_mended removable 3 (descs s)

  -- MENDING TWICE IS MENDING ONCE
  pub mended_again : mended (mended s) ≡ mended s
  unfolding mended
  mended_again =
      ap (λ (ds : List Desc). take 8 (mended s) ++ flat bytes ds)
      (ap (λ (r : Bool). mended_descs r (descs (mended s))) mended_removable ∙ ap (mended_descs removable) mended_descs_here ∙ descs_again removable (descs s) (descs_good s bs))
      ∙ ap (λ (h : List ℕ). h ++ flat bytes fixes) (take_at (take 8 s) (flat bytes fixes) 8 eight)

  -- UNDOING THE CHANGES GIVES THE ORIGINAL
  pub mended_undone : undo (changes 0 s (mended s)) (mended s) ≡ s
  mended_undone = undo_changes 0 [] s (mended s) refl (sym mended_length)
