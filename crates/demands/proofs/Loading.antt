-- Request 13: "make the sheet as that medium leaves it: Persistent features stay current, each other one is current exactly if listed, each profile is current exactly
-- if listed, and nothing else changes. Show that loading B after A gives what loading B alone gives, and that an accepted sheet stays accepted. Demand 3 holds for a sweep
-- between two loadings, not across one." What one call of `load` promises is `Loads`, in crates/load/proofs/Promised.antt; here are several calls, one after the other. Assumes
-- nothing.
use mathlib.Core.Path.{◌≡◌, refl, sym, ap, subst, ◌∙◌}
use mathlib.Core.Bool.{Bool, true, false, ◌||◌}
use mathlib.Core.List.{List, [], ◌∷◌}
use Prim.Native.Nat.{ℕ, zero, suc, ◌/◌, ◌≤◌, ◌<◌}
use native.Mathlib.Omega.{arith}
use lib.Dec.{ltb, eqb}
use lib.ListN.{length, get_or, take, replicate}
use Rattle.base.specs.Lists.{each, flat, keep, Bytes}
use Rattle.base.specs.Pick.{pick}
use Rattle.base.proofs.Promise.{Promised, promises, by, both, all_three}
use Rattle.fields.specs.Field.{field, spell}
use Rattle.refusal.specs.declared.Refusal.{Refusal}
use Rattle.refusal.specs.First.{refuse, accept, ◌if◌else◌, pick_zero, ◌or_else◌, unless}
use Rattle.refusal.proofs.First.{unless_none, unless_fault}
use Rattle.lent.specs.declared.Made.{Made}
use Rattle.lent.specs.Maker as maker
use Rattle.command.specs.Command.{command_fault, rt_of, sfn_of, allocation_of}
use Rattle.text.specs.Flags.{persistent, current}
use Rattle.text.specs.Drive.{Drive, bit, profile_bytes}
use Rattle.text.specs.Response.{bytes, feature0, all, wants, selected, current_profile, header, data_length, full, sent}
use Rattle.text.specs.Reading as text
use Rattle.layout.specs.declared.Layout.{Layout}
use Rattle.layout.specs.Layout as layout
use Rattle.layout.specs.Layout.{Sheet, stored, sheet_size}
use Rattle.layout.specs.Contents.{laid}
use Rattle.layout.proofs.Laid.{laid_bytes, laid_length}
use Rattle.profiles.specs.Profiles as profiles
use Rattle.profiles.specs.contracts.has as profiles_has
use Rattle.sheet.specs.Check.{Accepted}
use Rattle.sheet.specs.Meaning.{desc, meaning}
use Rattle.sheet.proofs.Same.{accepted_room}
use Rattle.convert.specs.contracts.convert as convert
use Rattle.load.specs.Load.{is_in, flags_with, feature_with, profile_with, drive_with, loaded, load_fault, loading}
use Rattle.load.proofs.Numbers.{each_has, each_lacks}
use Rattle.load.proofs.Checked.{lists_each}
use Rattle.load.proofs.Loaded.{loaded_accepted, loaded_bytes, loaded_means, loaded_laid, fault_laid, loading_last, loaded_same, fault_none, profile_none}
use Rattle.load.proofs.Promised.{Loads, loads_so}
use Rattle.load.proofs.Stands.{accepts, stands}
use Rattle.load.specs.contracts.load as load
use Rattle.responder.specs.contracts.respond as respond
use Rattle.sweep.specs.Sweep as sweep
use Rattle.bench.specs.Bench.{Buffers, buffers, ending, benched}
use Rattle.bench.specs.Swept.{Premises, Swept}
use Rattle.bench.proofs.Demand.{demand3}
use Rattle.bench.specs.contracts.bench as bench
use Rattle.demands.specs.Across.{asking, across}
use Rattle.demands.specs.Recorder.{sheet_e}
use Rattle.demands.proofs.Sending.{Answers, demand2}
use Rattle.demands.proofs.Converting.{Converts, converts}
use Rattle.demands.proofs.Named.{named, saying, Both, AllThree}

-- ---- whether a profile is listed

-- Of an answer t, whether a record of the list b has the number n
pub record HasProfile (n : ℕ) (b : List ℕ) (t : Bool) : Type 0 where
  pub there : (i : ℕ) → i < length b / 4 → profiles.profile_number b i ≡ n → t ≡ true
  pub nowhere : ((i : ℕ) → i < length b / 4 → profiles.profile_number b i ≡ n → ⊥) → t ≡ false

has_so : (n : ℕ) (b : List ℕ) → HasProfile n b (profiles.lists n b 0 (length b / 4))
has_so n b = record {
  there = λ i h e. lists_each n b 0 (length b / 4) ∙ each_has (profiles.profile_number b) (length b / 4) n i h e;
  nowhere = λ h. lists_each n b 0 (length b / 4) ∙ each_lacks (profiles.profile_number b) (length b / 4) n h;
}

pub profiles_has_tied : Promised profiles_has.ended (λ M 𝓤 𝓛. profiles_has.clauses 𝓛) (λ M 𝓤 𝓛. profiles_has.spec 𝓛) (named (λ _ b number r _ _. HasProfile number.0 b.now r))
profiles_has_tied x = promises x.𝓤 (λ o. by (HasProfile _ _) (has_so _ _))

-- ---- between two loadings: `load` is called, then `respond` or `bench` with the sheet that it left

module _ (fs ps : List ℕ) (s : Sheet) (b : Bytes s.bytes) (k : Accepted s) where
  -- demand 2 reads the drive with the medium in it
  pub demand2_loaded : (c d : List ℕ) → (command_fault c).number ≡ 0 → length (sent (rt_of c) (sfn_of c) (allocation_of c) (drive_with fs ps (meaning s))) ≤ length d
      → {o : maker.Outcome} → Answers (loaded fs ps s) c d o → o ≡ maker.making (sent (rt_of c) (sfn_of c) (allocation_of c) (drive_with fs ps (meaning s))) d
  demand2_loaded c d plain room a =
      let e : meaning (loaded fs ps s) ≡ drive_with fs ps (meaning s) = loaded_means s b k fs ps in
      a.sends (loaded_accepted s b k fs ps) plain (rw e room) ∙ ap (λ (m : Drive). maker.making (sent (rt_of c) (sfn_of c) (allocation_of c) m) d) e

  pub demand3_loaded : (rt a : ℕ) (d : Buffers) → Premises (drive_with fs ps (meaning s)) rt a d → Swept (drive_with fs ps (meaning s)) rt a d (benched (loaded fs ps s) rt a d)
  demand3_loaded rt a d p =
      let e = loaded_means s b k fs ps in
      rw e at (demand3 (loaded fs ps s) rt a d (loaded_bytes s b k fs ps) (loaded_accepted s b k fs ps) (rw e p))

module _ {fs ps : List ℕ} {s t : Sheet} {d : List ℕ} {o : maker.Outcome} (l : Loads fs ps s d o) (z : o.made.refusal.number ≡ 0) (b : Bytes s.bytes) (there : t ≡ stored s.layout (take o.made.count o.buffer)) where
  is_loaded : t ≡ loaded fs ps s
  is_loaded = there ∙ stands l z b

  fine : Accepted s
  fine = accepts l z

  sent_there : (c e : List ℕ) {q : maker.Outcome} → Answers t c e q → (command_fault c).number ≡ 0 → length (sent (rt_of c) (sfn_of c) (allocation_of c) (drive_with fs ps (meaning s))) ≤ length e
      → q ≡ maker.making (sent (rt_of c) (sfn_of c) (allocation_of c) (drive_with fs ps (meaning s))) e
  sent_there c e {q} a plain room = demand2_loaded fs ps s b fine c e plain room (subst (λ (x : Sheet). Answers x c e q) is_loaded a)

  swept_there : (rt a : ℕ) (c : Buffers) → Premises (drive_with fs ps (meaning s)) rt a c → Swept (drive_with fs ps (meaning s)) rt a c (benched t rt a c)
  swept_there rt a c p =
      subst (λ (x : Sheet). Swept (drive_with fs ps (meaning s)) rt a c (benched x rt a c)) (sym is_loaded) (demand3_loaded fs ps s b fine rt a c p)

pub load_respond : Both load.ended (λ M 𝓤 𝓛. load.clauses 𝓛) respond.ended (λ M 𝓤 𝓛. respond.clauses 𝓛)
    (λ x o y p. saying x o (λ _ lay s features profiles out r _ _ _ _ out'.
    saying y p (λ _ lay₂ s₂ command₂ out₂ r₂ _ _ _ out₂'.
    r.refusal.number ≡ 0 → Bytes s.now → stored lay₂ s₂.now ≡ stored lay (take r.count out') → (command_fault command₂.now).number ≡ 0
    → length (sent (rt_of command₂.now) (sfn_of command₂.now) (allocation_of command₂.now) (drive_with features.now profiles.now (meaning (stored lay s.now)))) ≤ length out₂.now
    → maker.outcome r₂ out₂' ≡ maker.making (sent (rt_of command₂.now) (sfn_of command₂.now) (allocation_of command₂.now) (drive_with features.now profiles.now (meaning (stored lay s.now)))) out₂.now)))
load_respond x κs args g o p = both x.𝓤 (λ f g z b there. sent_there (by (Loads _ _ _ _) (loads_so _ _ _ _) f) z b there _ _ (by (Answers _ _ _) (demand2 _ _ _) g))

pub load_bench : Both load.ended (λ M 𝓤 𝓛. load.clauses 𝓛) bench.ended (λ M 𝓤 𝓛. bench.clauses 𝓛)
    (λ x o y p. saying x o (λ _ lay s features profiles out r _ _ _ _ out'.
    saying y p (λ _ lay₂ s₂ rt₂ a₂ response₂ collected₂ starts₂ r₂ _ _ _ _ response₂' collected₂' starts₂'.
    r.refusal.number ≡ 0 → Bytes s.now → stored lay₂ s₂.now ≡ stored lay (take r.count out')
    → Premises (drive_with features.now profiles.now (meaning (stored lay s.now))) rt₂ a₂ (buffers response₂.now collected₂.now starts₂.now)
    → Swept (drive_with features.now profiles.now (meaning (stored lay s.now))) rt₂ a₂ (buffers response₂.now collected₂.now starts₂.now)
    (ending r₂ (buffers response₂' collected₂' starts₂')))))
load_bench x κs args g o p = both x.𝓤 (λ f g z b there pr. by (Swept _ _ _ _) (swept_there (by (Loads _ _ _ _) (loads_so _ _ _ _) f) z b there _ _ _ pr) g)

-- ---- loading B after A: `load` is called with A, then with B on what it left, and with B on the sheet itself

module _ {fs ps d : List ℕ} {s t u : Sheet} {o : maker.Outcome} (a : Loads fs ps s d o) (z : o.made.refusal.number ≡ 0) (b : Bytes s.bytes)
    (there : t ≡ stored s.layout (take o.made.count o.buffer)) (first : u ≡ s) where
  alike : (fs' ps' e : List ℕ) → loading fs' ps' t e ≡ loading fs' ps' u e
  alike fs' ps' e =
      ap (λ (x : Sheet). loading fs' ps' x e) (there ∙ stands a z b)
      ∙ loading_last s b (accepts a z) fs ps fs' ps' e
      ∙ ap (λ (x : Sheet). loading fs' ps' x e) (sym first)

pub load_last : AllThree load.ended (λ M 𝓤 𝓛. load.clauses 𝓛) load.ended (λ M 𝓤 𝓛. load.clauses 𝓛) load.ended (λ M 𝓤 𝓛. load.clauses 𝓛)
    (λ x o y p z q. saying x o (λ _ lay s features profiles out r _ _ _ _ out'.
    saying y p (λ _ lay₂ s₂ features₂ profiles₂ out₂ r₂ _ _ _ _ out₂'.
    saying z q (λ _ lay₃ s₃ features₃ profiles₃ out₃ r₃ _ _ _ _ out₃'.
    r.refusal.number ≡ 0 → Bytes s.now → stored lay₂ s₂.now ≡ stored lay (take r.count out') → stored lay₃ s₃.now ≡ stored lay s.now
    → features₃.now ≡ features₂.now → profiles₃.now ≡ profiles₂.now → out₃.now ≡ out₂.now
    → maker.outcome r₂ out₂' ≡ maker.outcome r₃ out₃'))))
load_last x κs args g κs₂ args₂ g₂ o p q =
    all_three x.𝓤 (λ e fg z b there first are-features are-profiles is-out.
    fg.0 ∙ alike (by (Loads _ _ _ _) (loads_so _ _ _ _) e) z b there first args.1.1.0.now args.1.1.1.0.now args.1.1.1.1.0.now
    ∙ sym (rw (are-features, are-profiles, is-out) at fg.1))

-- ---- both layouts of one sheet load to both layouts of one sheet: `convert` is called, then `load` with what it left and with the sheet itself

-- of the outcomes o of the sheet laid out as l and q of the sheet s itself: the same answer, and where it is 0 the same sheet, laid out as l
pub record Either (l : Layout) (s : Sheet) (o q : maker.Outcome) : Type 0 where
  pub answer : o.made ≡ q.made
  pub sheets : q.made.refusal.number ≡ 0 → stored l (take o.made.count o.buffer) ≡ laid l (stored s.layout (take q.made.count q.buffer))

module _ (r : Refusal) (n : ℕ) (xs d : List ℕ) where
  abbrev fault : Refusal
  fault = r or_else refuse n if ltb (length d) (length xs) else accept

  -- the answer looks at lengths alone
  made_is : (maker.makes r n xs d).made ≡ unless fault maker.refused (maker.written (length xs))
  unfolding maker.makes maker.refusing maker.making
  made_is = go fault.number refl
    where
      go : (k : ℕ) → fault.number ≡ k → (unless fault (maker.refusing d) (maker.making xs d)).made ≡ unless fault maker.refused (maker.written (length xs))
      go zero e = ap (λ (o : maker.Outcome). o.made) (unless_none fault (maker.refusing d) (maker.making xs d) e) ∙ sym (unless_none fault maker.refused (maker.written (length xs)) e)
      go (suc k) e =
          let h : fault.number ≡ 0 → ⊥ = λ z. omega arith in
          ap (λ (o : maker.Outcome). o.made) (unless_fault fault (maker.refusing d) (maker.making xs d) h) ∙ sym (unless_fault fault maker.refused (maker.written (length xs)) h)

module _ (l : Layout) (s : Sheet) (b : Bytes s.bytes) (k : Accepted s) {fs ps d e : List ℕ} {o q : maker.Outcome} (x : Loads fs ps (laid l s) d o) (y : Loads fs ps s e q) (n : length d ≡ length e) where
  room : layout.profiles_at s ≤ sheet_size s
  room = accepted_room s b k

  long : length (loaded fs ps (laid l s)).bytes ≡ length (loaded fs ps s).bytes
  long =
      let c = loaded_bytes s b k fs ps in
      ap sheet_size (loaded_laid l s b k fs ps) ∙ laid_length l (loaded fs ps s) c (accepted_room (loaded fs ps s) c (loaded_accepted s b k fs ps))

  same_made : o.made ≡ q.made
  unfolding loading
  same_made =
      let mid : unless (fault (load_fault fs ps (laid l s)) 53 (loaded fs ps (laid l s)).bytes d) maker.refused (maker.written (length (loaded fs ps (laid l s)).bytes))
      ≡ unless (fault (load_fault fs ps s) 53 (loaded fs ps s).bytes e) maker.refused (maker.written (length (loaded fs ps s).bytes)) =
      rw (fault_laid l s b k fs ps, long, n) in
      ap (λ (w : maker.Outcome). w.made) x.exact ∙ made_is (load_fault fs ps (laid l s)) 53 (loaded fs ps (laid l s)).bytes d
      ∙ mid
      ∙ sym (ap (λ (w : maker.Outcome). w.made) y.exact ∙ made_is (load_fault fs ps s) 53 (loaded fs ps s).bytes e)

  pub loads_either : Either l s o q
  unfolding laid
  loads_either = record {
    answer = same_made;
    sheets = λ z.
        stands x (ap (λ (w : Made). w.refusal.number) same_made ∙ z) (laid_bytes l s b room) ∙ loaded_laid l s b k fs ps ∙ ap (laid l) (sym (stands y z b));
  }

module _ {l : Layout} {s t u : Sheet} {c : List ℕ} {a : maker.Outcome} (v : Converts l s c a) (z : a.made.refusal.number ≡ 0) (b : Bytes s.bytes)
    (there : t ≡ stored l (take a.made.count a.buffer)) (first : u ≡ s) where
  is_laid : t ≡ laid l s
  is_laid = there ∙ (v.stands b z).1

  either : {fs ps d e : List ℕ} {o q : maker.Outcome} → Loads fs ps t d o → Loads fs ps u e q → length d ≡ length e → Either l s o q
  either {fs} {ps} {d} {e} {o} {q} x y n =
      loads_either l s b (v.accepts b z) (subst (λ (w : Sheet). Loads fs ps w d o) is_laid x) (subst (λ (w : Sheet). Loads fs ps w e q) first y) n

pub load_either : AllThree convert.ended (λ M 𝓤 𝓛. convert.clauses 𝓛) load.ended (λ M 𝓤 𝓛. load.clauses 𝓛) load.ended (λ M 𝓤 𝓛. load.clauses 𝓛)
    (λ x o y p z q. saying x o (λ _ to lay s out r _ _ _ out'.
    saying y p (λ _ lay₂ s₂ features₂ profiles₂ out₂ r₂ _ _ _ _ out₂'.
    saying z q (λ _ lay₃ s₃ features₃ profiles₃ out₃ r₃ _ _ _ _ out₃'.
    r.refusal.number ≡ 0 → Bytes s.now → stored lay₂ s₂.now ≡ stored to (take r.count out') → stored lay₃ s₃.now ≡ stored lay s.now
    → features₃.now ≡ features₂.now → profiles₃.now ≡ profiles₂.now → length out₂.now ≡ length out₃.now
    → Either to (stored lay s.now) (maker.outcome r₂ out₂') (maker.outcome r₃ out₃')))))
load_either x κs args g κs₂ args₂ g₂ o p q =
    all_three x.𝓤 (λ e fg z b there first are-features are-profiles n.
    either (by (Converts _ _ _) (converts _ _ _) e) z b there first (by (Loads _ _ _ _) (loads_so _ _ _ _) fg.0)
    (by (Loads _ _ _ _) (loads_so _ _ _ _) (rw (are-features, are-profiles) at fg.1)) n)

-- ---- a medium that makes current what is so already, and none at all

-- what of the sheet s is current is what the lists name, or Persistent: it stays as it is, byte for byte
pub load_same : (fs ps : List ℕ) (s : Sheet) {d : List ℕ} {o : maker.Outcome} → Bytes s.bytes → Accepted s
    → ((i : ℕ) → i < layout.feature_count s → current (layout.flags s i) ≡ bit (eqb (persistent (layout.flags s i)) 1 || is_in fs (layout.number s i)))
    → ((i : ℕ) → i < layout.profile_count s → profiles.profile_current (layout.profiles_part s) i ≡ bit (is_in ps (profiles.profile_number (layout.profiles_part s) i)))
    → Loads fs ps s d o → o.made.refusal.number ≡ 0 → stored s.layout (take o.made.count o.buffer) ≡ s
load_same fs ps s b k on on₂ l z = stands l z b ∙ loaded_same s b k fs ps on on₂

-- no medium is refused by no list, and the drive has no Current Profile then
pub load_none : (s : Sheet) → Accepted s → (load_fault [] [] s ≡ accept) × (current_profile (drive_with [] [] (meaning s)).profiles ≡ 0)
load_none s k = (fault_none s k, profile_none [] (meaning s))

-- ---- not across one: the drive of sheet E, allocation length 20, where the medium changes behind the first response

abbrev medium_a : Drive
medium_a = drive_with (0x1F ∷ []) (0x12 ∷ []) (meaning sheet_e)

-- another medium with the same Current Profile
abbrev medium_b : Drive
medium_b = drive_with [] (0x10 ∷ 0x12 ∷ []) (meaning sheet_e)

-- one with another
abbrev medium_c : Drive
medium_c = drive_with [] (0x10 ∷ []) (meaning sheet_e)

abbrev mixed : sweep.Turn
mixed = across 0 20 (replicate 36 0) (medium_a ∷ medium_b ∷ medium_b ∷ medium_b ∷ [])

abbrev got : List ℕ
got = take mixed.step.sweep.collected mixed.buffer

-- it ends well, nothing is refused, and what is collected is the drive's with neither medium
pub record Mixes : Type 0 where
  pub fine : mixed.step.refusal ≡ accept
  pub over : mixed.step.sweep.ended ≡ true
  pub not_a : got ≡ flat bytes (selected 0 0 medium_a) → ⊥
  pub not_b : got ≡ flat bytes (selected 0 0 medium_b) → ⊥

pub mixes : Mixes
unfolding each flat keep pick field spell ◌if◌else◌ pick_zero ◌or_else◌ unless profile_bytes bytes feature0 all wants selected current_profile header data_length full sent layout.features layout.profiles layout.number_place layout.flags_place layout.length_place layout.offset_place layout.number layout.flags layout.body_length layout.offset layout.profiles_in profiles.profile_number profiles.profile_current profiles.listed profiles.profiles_of desc meaning is_in flags_with feature_with profile_with drive_with text.stated_length text.stated_profile text.header_rule text.head_rule text.number_at text.flags_at text.length_at text.desc_at text.head_fault text.walk text.walked text.read_fault text.last_number sweep.start_rule sweep.fresh sweep.ended_now sweep.cut sweep.wholes_of sweep.changed sweep.take_fault sweep.ends_sweep sweep.left_by sweep.held_profile sweep.advanced sweep.taking sweep.stepped asking across sheet_e
mixes = record {
  fine = refl;
  over = refl;
  not_a = λ e. let z : ◌≡◌ {A = ℕ} 0 1 = ap (λ (l : List ℕ). get_or l 30 0) e in omega arith;
  not_b = λ e. let z : ◌≡◌ {A = ℕ} 0 1 = ap (λ (l : List ℕ). get_or l 10 0) e in omega arith;
}

-- where the Current Profile changes, the record sees it: 45, and the sweep has ended
abbrev seen : sweep.Turn
seen = across 0 20 (replicate 36 0) (medium_a ∷ medium_c ∷ [])

pub sees : (seen.step.refusal ≡ refuse 45) × (seen.step.sweep.ended ≡ true)
unfolding each flat keep pick field spell ◌if◌else◌ pick_zero ◌or_else◌ unless profile_bytes bytes feature0 all wants selected current_profile header data_length full sent layout.features layout.profiles layout.number_place layout.flags_place layout.length_place layout.offset_place layout.number layout.flags layout.body_length layout.offset layout.profiles_in profiles.profile_number profiles.profile_current profiles.listed profiles.profiles_of desc meaning is_in flags_with feature_with profile_with drive_with text.stated_length text.stated_profile text.header_rule text.head_rule text.number_at text.flags_at text.length_at text.desc_at text.head_fault text.walk text.walked text.read_fault text.last_number sweep.start_rule sweep.fresh sweep.ended_now sweep.cut sweep.wholes_of sweep.changed sweep.take_fault sweep.ends_sweep sweep.left_by sweep.held_profile sweep.advanced sweep.taking sweep.stepped asking across sheet_e
sees = (refl, refl)
