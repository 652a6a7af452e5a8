-- What an exported function leaves: its number, the lent buffers, and what it tells, a number at each place of the lent array. Assumes nothing: these are definitions.
use Rattle.std.specs.Prelude.{Bool, true, false, List, [], ◌∷◌, ℕ, eqb, get_or}
use Rattle.text.specs.Drive.{bit}
use Rattle.text.specs.Flags.{version, persistent, current}
use Rattle.descriptor.specs.declared.Standing.{Standing}
use Rattle.text.specs.declared.Reading.{Reading}
use Rattle.refusal.specs.declared.Refusal.{Refusal}
use Rattle.layout.specs.declared.Layout.{Layout}
use Rattle.layout.specs.declared.Layout.TheVariants.{Rows, Columns}
use Rattle.reading.specs.declared.Stop.{Stop}
use Rattle.lent.specs.Maker.{Outcome}
use Rattle.bench.specs.Bench as bench
use Rattle.judge.specs.Boxes.{mistake_number}
use Rattle.judge.specs.Verdict.{Judgement}
use Rattle.judge.specs.declared.Verdict.{Verdict}
use Rattle.judge.specs.declared.Verdict.TheVariants.{Exact, Padded, Short, Wrong, Answered, Refused}
use Rattle.abi.specs.declared.Telling.{Telling}
use Rattle.mend.specs.Mend as mend
use Rattle.checks.specs.declared.Finding.{Finding}
use Rattle.needs.specs.Judge.{Said}
use Rattle.sense.specs.declared.Kind.{Kind}
use Rattle.sense.specs.declared.Kind.TheVariants.{Nothing, Operation, Field, Trouble}
use Rattle.sense.specs.Sense.{Heard}

-- the layout of a sheet, as it is handed in
unfoldable pub layout_of : (columns : Bool) → Layout
layout_of true = Columns
layout_of false = Rows

-- B is what the buffers hold: one list, several, or none
pub record Left (B : Type 0) : Type 0 where
  pub number : ℕ
  pub buffers : B
  pub told : List ℕ

abbrev pub left : {B : Type 0} → ℕ → B → List ℕ → Left B
left r b ns = record { number = r; buffers = b; told = ns }

-- a check of a sheet or an image: the place of its refusal
unfoldable pub show_verdict : Refusal → Left (Unit {0})
show_verdict r = left r.number tt (r.place ∷ [])

-- a maker: bytes written, the place of its refusal
unfoldable pub show_made : Outcome → Left (List ℕ)
show_made x = left x.made.refusal.number x.buffer (x.made.count ∷ x.made.refusal.place ∷ [])

-- a reading: profile, Data Length, whole descriptors, the place behind the last, 1 if complete
unfoldable pub show_read : Reading → Left (Unit {0})
show_read r = left r.refusal.number tt (r.profile.0 ∷ r.data_length ∷ r.count ∷ r.end ∷ bit r.complete ∷ [])

-- what stands at a place: whether a descriptor does, and its number, flags, Version, Persistent, Current, the place and the length of its body, the place of the next
unfoldable pub show_next : Standing → Bool × List ℕ
show_next d = (d.whole, d.number.0 ∷ d.flags.0 ∷ version d.flags.0 ∷ bit (eqb (persistent d.flags.0) 1) ∷ bit (eqb (current d.flags.0) 1) ∷ d.body ∷ d.len ∷ d.next ∷ [])

-- where a reading stops: the place, and the feature that stands there
unfoldable pub show_stop : Stop → List ℕ
show_stop x = x.at ∷ x.feature.0 ∷ []

-- a bench sweep: commands, bytes collected, the place of its refusal
unfoldable pub show_benched : bench.Ending → Left bench.Buffers
show_benched x = left x.reply.refusal.number x.buffers (x.reply.commands ∷ x.reply.collected ∷ x.reply.refusal.place ∷ [])

abbrev pub tells : (number said differs mistake refusal place : ℕ) → Telling
tells n s k w r p = record { number = n; said = s; differs = k; mistake = w; refusal = r; place = p }

-- what each verdict tells: its number, the first byte that is not as it is to be, the mistake, the number of the command's refusal; or a number and the place of the sheet's refusal, and 0
unfoldable pub telling : Verdict → Telling
telling Exact = tells 0 1 0 0 0 0
telling (Padded k) = tells 0 2 k 0 0 0
telling (Short k) = tells 0 3 k 0 0 0
telling (Wrong k w) = tells 0 4 k (mistake_number w) 0 0
telling (Answered r) = tells 0 5 0 0 r.number 0
telling (Refused r) = tells r.number 0 0 0 0 r.place

unfoldable pub show_telling : Telling → List ℕ → Left (List ℕ)
show_telling t d = left t.number d (t.said ∷ t.differs ∷ t.mistake ∷ t.refusal ∷ t.place ∷ [])

-- a judgement of another box's response: what its verdict tells, and the scratch buffer
unfoldable pub show_judgement : Judgement → Left (List ℕ)
show_judgement j = show_telling (telling j.said) j.scratch

-- a mending: bytes of the copy, changes; the buffers are the copy and the list of changes
unfoldable pub show_mended : mend.Outcome → Left (List ℕ × List ℕ)
show_mended x = left x.answer.refusal.number (x.copy, x.list) (x.answer.length ∷ x.answer.changes ∷ [])

-- a check of descriptors: the feature at fault
unfoldable pub show_finding : Finding → Left (Unit {0})
show_finding x = left x.refusal.number tt (x.feature.0 ∷ [])

-- a check of a profile: what is wrong with the lowest feature that breaks it, and that feature, or 0 and 0
unfoldable pub show_judged : Said → Left (Unit {0})
show_judged x = left x.refusal.number tt (x.wrong ∷ get_or x.feature 0 0 ∷ [])

-- the number that tells a kind; none of them is 0
unfoldable pub kind_number : Kind → ℕ
kind_number Nothing = 1
kind_number Operation = 2
kind_number Field = 3
kind_number Trouble = 4

unfoldable pub kind_told : List Kind → ℕ
kind_told [] = 0
kind_told (k ∷ ks) = kind_number k

-- a reading of sense data: the number of its kind, 0 where it is refused
unfoldable pub show_sensed : Heard → Left (Unit {0})
show_sensed x = left x.refusal.number tt (kind_told x.kind ∷ [])
