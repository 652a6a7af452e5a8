-- The ties of the functions that the others stand on: every outcome that a function's own contract allows is the definition's value and, where the paper has a
-- sentence on it, what that says in plain numbers. Assumes nothing.
use mathlib.Core.Path.{◌≡◌, sym, ◌∙◌}
use mathlib.Core.Bool.{Bool, false}
use mathlib.Core.List.{[], ◌∷◌}
use mathlib.Core.Logic.{◌⊎◌, inl, inr, ⊎_elim}
use lib.Dec.{eqb}
use Prim.Native.Nat.{ℕ, ◌+◌, ◌-◌, ◌*◌, ◌/◌, ◌%◌, ◌≤◌, min}
use native.Mathlib.Omega.{arith}
use lib.ListN.{length, take, drop, get_or, replicate}
use Rattle.base.proofs.Compare.{le_or_lt}
use Rattle.base.proofs.Promise.{Promised, promises, by}
use Rattle.fields.specs.Field.{field, spell}
use Rattle.fields.specs.Part.{PartOf}
use Rattle.refusal.specs.declared.Refusal.{Refusal}
use Rattle.refusal.specs.First.{refuse, accept, placed}
use Rattle.lent.specs.Wrote.{Wrote}
use Rattle.text.specs.Flags as text
use Rattle.text.specs.Response.{current_profile, header_of}
use Rattle.profiles.specs.Profiles.{profiles_of, records_fault, stopped}
use Rattle.profiles.proofs.Stopped.{records_short}
use Rattle.text.specs.Reading.{number_at, flags_at, length_at, desc_at}
use Rattle.reading.specs.Places.{next_at}
use Rattle.text.proofs.Promised.{two, Flagging, flagging}
use Rattle.text.proofs.FlagsRule.{flags_even}
use Rattle.profiles.proofs.Promised.{Currents, currents}
use Rattle.layout.proofs.Promised.{laying}
use Rattle.reading.specs.Judged.{judged}
use Rattle.layout.specs.Layout.{stored}
use Rattle.layout.specs.Layout as layout
use Rattle.sheet.specs.Check.{flags_rule, end_before_entry}
use Rattle.sheet.specs.inner.Search.{first_from, next_from}
use Rattle.base.specs.contracts.least as least
use Rattle.base.specs.contracts.difference as difference
use Rattle.fields.specs.contracts.byte as byte
use Rattle.fields.specs.contracts.get2 as get2
use Rattle.fields.specs.contracts.get3 as get3
use Rattle.fields.specs.contracts.get4 as get4
use Rattle.fields.specs.contracts.part as part
use Rattle.refusal.specs.contracts.Refusal.placed as refusal_placed
use Rattle.lent.specs.contracts.Made.refused as made_refused
use Rattle.lent.specs.contracts.Made.written as made_written
use Rattle.lent.specs.contracts.put as put
use Rattle.lent.specs.contracts.put2 as put2
use Rattle.lent.specs.contracts.put4 as put4
use Rattle.lent.specs.contracts.copy as copy
use Rattle.lent.specs.contracts.note as note
use Rattle.lent.specs.contracts.clear as clear
use Rattle.lent.specs.contracts.clear_list as clear_list
use Rattle.text.specs.contracts.Flags.reserved as flags_reserved
use Rattle.text.specs.contracts.Flags.version as flags_version
use Rattle.text.specs.contracts.Flags.persistent as flags_persistent
use Rattle.text.specs.contracts.Flags.current as flags_current
use Rattle.text.specs.contracts.Flags.odd as flags_odd
use Rattle.text.specs.contracts.Flags.fault as flags_fault_fn
use Rattle.text.specs.contracts.Header.new as header_new
use Rattle.profiles.specs.contracts.current as profiles_current
use Rattle.profiles.specs.contracts.fault as profiles_fault_fn
use Rattle.layout.specs.contracts.feature_count as feature_count_here
use Rattle.layout.specs.contracts.profile_count as profile_count_here
use Rattle.layout.specs.contracts.profiles_behind as profiles_behind_fn
use Rattle.layout.specs.contracts.bodies_at as bodies_at_fn
use Rattle.layout.specs.contracts.feature_at as feature_at_fn
use Rattle.layout.specs.contracts.flags_at as flags_at_fn
use Rattle.layout.specs.contracts.length_at as length_at
use Rattle.layout.specs.contracts.offset_at as offset_at
use Rattle.layout.specs.contracts.put_counts as put_counts
use Rattle.layout.specs.contracts.profiles_part as profiles_part_fn
use Rattle.sheet.specs.contracts.end_before as end_before_fn
use Rattle.sheet.specs.contracts.flags_rule as flags_rule_fn
use Rattle.sheet.specs.contracts.first_from as first_from_law
use Rattle.sheet.specs.contracts.next_from as next_from_fn
use Rattle.reading.specs.contracts.number_at as number_at
use Rattle.reading.specs.contracts.flags_at as reading_flags_at
use Rattle.reading.specs.contracts.length_at as reading_length_at
use Rattle.reading.specs.contracts.next_at as next_at_fn
use Rattle.reading.specs.contracts.body_at as body_at
use Rattle.reading.specs.contracts.complete as complete
use Rattle.reading.specs.contracts.complete_number as complete_number
use Rattle.reading.specs.contracts.judge as judge
use Rattle.demands.proofs.Readings.{Completes, completes, CompletesBy, completes_by}
use Rattle.demands.proofs.Named.{named}

-- ---- base

-- r is one of a and b, and neither is less
pub record Least (a b r : ℕ) : Type 0 where
  pub first : r ≤ a
  pub second : r ≤ b
  pub one : (r ≡ a) ⊎ (r ≡ b)

least_so : (a b : ℕ) → Least a b (min a b)
least_so a b = record { first = omega arith; second = omega arith; one = ⊎_elim (λ h. inl (omega arith)) (λ h. inr (omega arith)) (le_or_lt a b) }

pub least_tied : Promised least.ended (λ M 𝓤 𝓛. least.clauses 𝓛) (λ M 𝓤 𝓛. least.spec 𝓛) (named (λ _ a b r _ _. Least a b r))
least_tied x = promises x.𝓤 (λ o. by (Least _ _) (least_so _ _))

-- r and b are a, or there is nothing over
pub record Over (a b r : ℕ) : Type 0 where
  pub above : b ≤ a → r + b ≡ a
  pub below : a ≤ b → r ≡ 0

over_so : (a b : ℕ) → Over a b (a - b)
over_so a b = record { above = λ h. omega arith; below = λ h. omega arith }

pub difference_tied : Promised difference.ended (λ M 𝓤 𝓛. difference.clauses 𝓛) (λ M 𝓤 𝓛. difference.spec 𝓛) (named (λ _ a b r _ _. Over a b r))
difference_tied x = promises x.𝓤 (λ o. by (Over _ _) (over_so _ _))

-- ---- fields

pub byte_tied : Promised byte.ended (λ M 𝓤 𝓛. byte.clauses 𝓛) (λ M 𝓤 𝓛. byte.spec 𝓛) (named (λ _ s at r _ _. r ≡ get_or s.now at 0))
byte_tied x = promises x.𝓤 (λ o e. e)

pub get2_tied : Promised get2.ended (λ M 𝓤 𝓛. get2.clauses 𝓛) (λ M 𝓤 𝓛. get2.spec 𝓛) (named (λ _ s at r _ _. r ≡ field 2 s.now at))
get2_tied x = promises x.𝓤 (λ o e. e)

pub get3_tied : Promised get3.ended (λ M 𝓤 𝓛. get3.clauses 𝓛) (λ M 𝓤 𝓛. get3.spec 𝓛) (named (λ _ s at r _ _. r ≡ field 3 s.now at))
get3_tied x = promises x.𝓤 (λ o e. e)

pub get4_tied : Promised get4.ended (λ M 𝓤 𝓛. get4.clauses 𝓛) (λ M 𝓤 𝓛. get4.spec 𝓛) (named (λ _ s at r _ _. r ≡ field 4 s.now at))
get4_tied x = promises x.𝓤 (λ o e. e)

pub part_tied : Promised part.ended (λ M 𝓤 𝓛. part.clauses 𝓛) (λ M 𝓤 𝓛. part.spec 𝓛) (named (λ _ s at count r _ _ _. PartOf s at (take count (drop at s.now)) r))
part_tied x = promises x.𝓤 (λ o e. e)

-- ---- refusal

pub refusal_placed_tied : Promised refusal_placed.ended (λ M 𝓤 𝓛. refusal_placed.clauses 𝓛) (λ M 𝓤 𝓛. refusal_placed.spec 𝓛) (named (λ _ self place r _ _. r ≡ placed self place))
refusal_placed_tied x = promises x.𝓤 (λ o e. e)

-- ---- lent

pub made_refused_tied : Promised made_refused.ended (λ M 𝓤 𝓛. made_refused.clauses 𝓛) (λ M 𝓤 𝓛. made_refused.spec 𝓛) (named (λ _ fault r _. r ≡ record { refusal = fault; count = 0 }))
made_refused_tied x = promises x.𝓤 (λ o e. e)

pub made_written_tied : Promised made_written.ended (λ M 𝓤 𝓛. made_written.clauses 𝓛) (λ M 𝓤 𝓛. made_written.spec 𝓛) (named (λ _ count r _. r ≡ record { refusal = accept; count = count }))
made_written_tied x = promises x.𝓤 (λ o e. e)

pub put_tied : Promised put.ended (λ M 𝓤 𝓛. put.clauses 𝓛) (λ M 𝓤 𝓛. put.spec 𝓛) (named (λ _ out at b r out' _ _. Wrote out.now at (b ∷ []) r out'))
put_tied x = promises x.𝓤 (λ o e. e)

pub put2_tied : Promised put2.ended (λ M 𝓤 𝓛. put2.clauses 𝓛) (λ M 𝓤 𝓛. put2.spec 𝓛) (named (λ _ out at v r out' _ _. Wrote out.now at (spell 2 v) r out'))
put2_tied x = promises x.𝓤 (λ o e. e)

pub put4_tied : Promised put4.ended (λ M 𝓤 𝓛. put4.clauses 𝓛) (λ M 𝓤 𝓛. put4.spec 𝓛) (named (λ _ out at v r out' _ _. Wrote out.now at (spell 4 v) r out'))
put4_tied x = promises x.𝓤 (λ o e. e)

pub copy_tied : Promised copy.ended (λ M 𝓤 𝓛. copy.clauses 𝓛) (λ M 𝓤 𝓛. copy.spec 𝓛) (named (λ _ out at part r out' _ _. Wrote out.now at part.now r out'))
copy_tied x = promises x.𝓤 (λ o e. e)

pub note_tied : Promised note.ended (λ M 𝓤 𝓛. note.clauses 𝓛) (λ M 𝓤 𝓛. note.spec 𝓛) (named (λ _ out at v r out' _ _. Wrote out.now at (v ∷ []) r out'))
note_tied x = promises x.𝓤 (λ o e. e)

pub clear_tied : Promised clear.ended (λ M 𝓤 𝓛. clear.clauses 𝓛) (λ M 𝓤 𝓛. clear.spec 𝓛) (named (λ _ out _ out'. out' ≡ replicate (length out.now) 0))
clear_tied x = promises x.𝓤 (λ o e. e)

pub clear_list_tied : Promised clear_list.ended (λ M 𝓤 𝓛. clear_list.clauses 𝓛) (λ M 𝓤 𝓛. clear_list.spec 𝓛) (named (λ _ out _ out'. out' ≡ replicate (length out.now) 0))
clear_list_tied x = promises x.𝓤 (λ o e. e)

-- ---- text

pub flags_reserved_tied : Promised flags_reserved.ended (λ M 𝓤 𝓛. flags_reserved.clauses 𝓛) (λ M 𝓤 𝓛. flags_reserved.spec 𝓛) (named (λ _ self r _. r ≡ self.0 / 64))
flags_reserved_tied x = promises x.𝓤 (λ o e. e)

pub flags_version_tied : Promised flags_version.ended (λ M 𝓤 𝓛. flags_version.clauses 𝓛) (λ M 𝓤 𝓛. flags_version.spec 𝓛) (named (λ _ self r _. r ≡ self.0 / 4 % 16))
flags_version_tied x = promises x.𝓤 (λ o e. e)

pub flags_persistent_tied : Promised flags_persistent.ended (λ M 𝓤 𝓛. flags_persistent.clauses 𝓛) (λ M 𝓤 𝓛. flags_persistent.spec 𝓛) (named (λ _ self r _. r ≡ eqb (self.0 / 2 % 2) 1))
flags_persistent_tied x = promises x.𝓤 (λ o e. e)

pub flags_current_tied : Promised flags_current.ended (λ M 𝓤 𝓛. flags_current.clauses 𝓛) (λ M 𝓤 𝓛. flags_current.spec 𝓛) (named (λ _ self r _. r ≡ eqb (self.0 % 2) 1))
flags_current_tied x = promises x.𝓤 (λ o e. e)

-- flags that are not odd are refused by no rule
pub record Odd (f : ℕ) (r : Bool) : Type 0 where
  pub exact : r ≡ text.odd f
  pub even : r ≡ false → (bits lone : Refusal) → text.flags_giving bits lone f ≡ accept

pub flags_odd_tied : Promised flags_odd.ended (λ M 𝓤 𝓛. flags_odd.clauses 𝓛) (λ M 𝓤 𝓛. flags_odd.spec 𝓛) (named (λ _ self r _. Odd self.0 r))
flags_odd_tied x = promises x.𝓤 (λ o e. record { exact = e; even = λ h bits lone. flags_even bits lone _ (sym e ∙ h) })

pub flags_fault_tied : Promised flags_fault_fn.ended (λ M 𝓤 𝓛. flags_fault_fn.clauses 𝓛) (λ M 𝓤 𝓛. flags_fault_fn.spec 𝓛) (named (λ _ self bits lone r _ _ _. (r ≡ text.flags_giving bits lone self.0) × Flagging bits lone self.0 r))
flags_fault_tied x = promises x.𝓤 (λ o e. (e, by (Flagging _ _ _) (flagging _ _ _) e))

pub header_new_tied : Promised header_new.ended (λ M 𝓤 𝓛. header_new.clauses 𝓛) (λ M 𝓤 𝓛. header_new.spec 𝓛) (named (λ _ data_length profile r _ _. r ≡ header_of data_length profile.0))
header_new_tied x = promises x.𝓤 (λ o e. e)

-- ---- profiles

pub profiles_current_tied : Promised profiles_current.ended (λ M 𝓤 𝓛. profiles_current.clauses 𝓛) (λ M 𝓤 𝓛. profiles_current.spec 𝓛) (named (λ _ b r _. (r.0 ≡ current_profile (profiles_of b.now)) × Currents b.now r.0))
profiles_current_tied x = promises x.𝓤 (λ o e. (e, by (Currents _) (currents _) e))

-- the place stops at 65,535; in a list of so many profiles or fewer it is the profile's own
pub profiles_fault_tied : Promised profiles_fault_fn.ended (λ M 𝓤 𝓛. profiles_fault_fn.clauses 𝓛) (λ M 𝓤 𝓛. profiles_fault_fn.spec 𝓛)
    (named (λ _ b r _. (r ≡ stopped (records_fault b.now)) × (length b.now / 4 ≤ 65535 → r ≡ records_fault b.now)))
profiles_fault_tied x = promises x.𝓤 (λ o e. (e, λ h. e ∙ records_short _ h))

-- ---- layout

pub feature_count_tied : Promised feature_count_here.ended (λ M 𝓤 𝓛. feature_count_here.clauses 𝓛) (λ M 𝓤 𝓛. feature_count_here.spec 𝓛) (named (λ _ s r _. (r ≡ layout.features s.now) × (r ≡ two s.now 0)))
feature_count_tied x = promises x.𝓤 (λ o e. (e, e ∙ (laying _).counted))

pub profile_count_tied : Promised profile_count_here.ended (λ M 𝓤 𝓛. profile_count_here.clauses 𝓛) (λ M 𝓤 𝓛. profile_count_here.spec 𝓛) (named (λ _ s r _. (r ≡ layout.profiles s.now) × (r ≡ two s.now 2)))
profile_count_tied x = promises x.𝓤 (λ o e. (e, e ∙ (laying _).listed))

pub profiles_behind_tied : Promised profiles_behind_fn.ended (λ M 𝓤 𝓛. profiles_behind_fn.clauses 𝓛) (λ M 𝓤 𝓛. profiles_behind_fn.spec 𝓛) (named (λ _ features r _. r ≡ 4 + 8 * features))
profiles_behind_tied x = promises x.𝓤 (λ o e. e)

pub bodies_at_tied : Promised bodies_at_fn.ended (λ M 𝓤 𝓛. bodies_at_fn.clauses 𝓛) (λ M 𝓤 𝓛. bodies_at_fn.spec 𝓛) (named (λ _ s r _. r ≡ layout.profiles_behind (layout.features s.now) + 4 * layout.profiles s.now))
bodies_at_tied x = promises x.𝓤 (λ o e. e)

pub feature_at_tied : Promised feature_at_fn.ended (λ M 𝓤 𝓛. feature_at_fn.clauses 𝓛) (λ M 𝓤 𝓛. feature_at_fn.spec 𝓛) (named (λ _ lay s i r _ _ _. r.0 ≡ layout.number (stored lay s.now) i))
feature_at_tied x = promises x.𝓤 (λ o e. e)

pub flags_at_tied : Promised flags_at_fn.ended (λ M 𝓤 𝓛. flags_at_fn.clauses 𝓛) (λ M 𝓤 𝓛. flags_at_fn.spec 𝓛) (named (λ _ lay s i r _ _ _. r.0 ≡ layout.flags (stored lay s.now) i))
flags_at_tied x = promises x.𝓤 (λ o e. e)

pub length_at_tied : Promised length_at.ended (λ M 𝓤 𝓛. length_at.clauses 𝓛) (λ M 𝓤 𝓛. length_at.spec 𝓛) (named (λ _ lay s i r _ _ _. r ≡ layout.body_length (stored lay s.now) i))
length_at_tied x = promises x.𝓤 (λ o e. e)

pub offset_at_tied : Promised offset_at.ended (λ M 𝓤 𝓛. offset_at.clauses 𝓛) (λ M 𝓤 𝓛. offset_at.spec 𝓛) (named (λ _ lay s i r _ _ _. r ≡ layout.offset (stored lay s.now) i))
offset_at_tied x = promises x.𝓤 (λ o e. e)

pub put_counts_tied : Promised put_counts.ended (λ M 𝓤 𝓛. put_counts.clauses 𝓛) (λ M 𝓤 𝓛. put_counts.spec 𝓛)
    (named (λ _ out features profiles r out' _ _. Wrote out.now 0 (layout.counts_bytes features profiles) r out'))
put_counts_tied x = promises x.𝓤 (λ o e. e)

pub profiles_part_tied : Promised profiles_part_fn.ended (λ M 𝓤 𝓛. profiles_part_fn.clauses 𝓛) (λ M 𝓤 𝓛. profiles_part_fn.spec 𝓛)
    (named (λ _ s r _. PartOf s (layout.profiles_behind (layout.features s.now)) (layout.profiles_in s.now) r))
profiles_part_tied x = promises x.𝓤 (λ o e. e)

-- ---- sheet

pub flags_rule_tied : Promised flags_rule_fn.ended (λ M 𝓤 𝓛. flags_rule_fn.clauses 𝓛) (λ M 𝓤 𝓛. flags_rule_fn.spec 𝓛) (named (λ _ flags r _. (r ≡ flags_rule flags.0) × Flagging (refuse 5) (refuse 44) flags.0 r))
unfolding flags_rule
flags_rule_tied x = promises x.𝓤 (λ o e. (e, by (Flagging _ _ _) (flagging _ _ _) e))

pub end_before_tied : Promised end_before_fn.ended (λ M 𝓤 𝓛. end_before_fn.clauses 𝓛) (λ M 𝓤 𝓛. end_before_fn.spec 𝓛) (named (λ _ lay s i r _ _ _. r ≡ end_before_entry (stored lay s.now) i))
end_before_tied x = promises x.𝓤 (λ o e. e)

pub first_from_tied : Promised first_from_law.ended (λ M 𝓤 𝓛. first_from_law.clauses 𝓛) (λ M 𝓤 𝓛. first_from_law.spec 𝓛) (named (λ _ lay s n sfn r _ _ _ _. r ≡ first_from (stored lay s.now) n sfn.0))
first_from_tied x = promises x.𝓤 (λ o e. e)

pub next_from_tied : Promised next_from_fn.ended (λ M 𝓤 𝓛. next_from_fn.clauses 𝓛) (λ M 𝓤 𝓛. next_from_fn.spec 𝓛)
    (named (λ _ lay s n sfn from r _ _ _ _ _. r ≡ next_from (stored lay s.now) n sfn.0 from))
next_from_tied x = promises x.𝓤 (λ o e. e)

-- ---- reading

pub number_at_tied : Promised number_at.ended (λ M 𝓤 𝓛. number_at.clauses 𝓛) (λ M 𝓤 𝓛. number_at.spec 𝓛) (named (λ _ s at r _ _. r.0 ≡ number_at s.now at))
number_at_tied x = promises x.𝓤 (λ o e. e)

pub reading_flags_at_tied : Promised reading_flags_at.ended (λ M 𝓤 𝓛. reading_flags_at.clauses 𝓛) (λ M 𝓤 𝓛. reading_flags_at.spec 𝓛) (named (λ _ s at r _ _. r.0 ≡ flags_at s.now at))
reading_flags_at_tied x = promises x.𝓤 (λ o e. e)

pub reading_length_at_tied : Promised reading_length_at.ended (λ M 𝓤 𝓛. reading_length_at.clauses 𝓛) (λ M 𝓤 𝓛. reading_length_at.spec 𝓛) (named (λ _ s at r _ _. r ≡ length_at s.now at))
reading_length_at_tied x = promises x.𝓤 (λ o e. e)

pub next_at_tied : Promised next_at_fn.ended (λ M 𝓤 𝓛. next_at_fn.clauses 𝓛) (λ M 𝓤 𝓛. next_at_fn.spec 𝓛) (named (λ _ s at r _ _. r ≡ next_at s.now at))
next_at_tied x = promises x.𝓤 (λ o e. e)

pub body_at_tied : Promised body_at.ended (λ M 𝓤 𝓛. body_at.clauses 𝓛) (λ M 𝓤 𝓛. body_at.spec 𝓛) (named (λ _ s at r _ _. PartOf s (at + 4) (desc_at s.now at).body r))
body_at_tied x = promises x.𝓤 (λ o e. e)

pub complete_tied : Promised complete.ended (λ M 𝓤 𝓛. complete.clauses 𝓛) (λ M 𝓤 𝓛. complete.spec 𝓛) (named (λ _ s r _. Completes s.now r))
complete_tied x = promises x.𝓤 (λ o. by (Completes _) (completes _))

pub complete_number_tied : Promised complete_number.ended (λ M 𝓤 𝓛. complete_number.clauses 𝓛) (λ M 𝓤 𝓛. complete_number.spec 𝓛) (named (λ _ s r _. CompletesBy s.now r))
complete_number_tied x = promises x.𝓤 (λ o. by (CompletesBy _) (completes_by _))

pub judge_tied : Promised judge.ended (λ M 𝓤 𝓛. judge.clauses 𝓛) (λ M 𝓤 𝓛. judge.spec 𝓛) (named (λ _ s r _. r ≡ judged s.now))
judge_tied x = promises x.𝓤 (λ o e. e)
