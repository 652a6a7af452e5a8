-- Each public function's own contract, as the toolchain generates it, asks nothing and decides the whole outcome: every returned field, where a returned part lies, and
-- every byte of lent memory. One line a function; six of the theorems stand in the function's own crate, where an edit that weakens the contract is refused by them. Assumes nothing.
use mathlib.Core.Path.{◌≡◌, refl, ap}
use mathlib.Core.Bool.{Bool}
use mathlib.Core.List.{List}
use Prim.Native.Nat.{ℕ}
use Rattle.base.proofs.Decided.{Decided, DecidedAs, seen, decides, joined, ◌&◌}
use Rattle.fields.proofs.Parts.{same_part}
use Rattle.lent.proofs.Laws.{same}
use Rattle.lent.proofs.Decides as lent_decides
use Rattle.text.proofs.Decides as text_decides
use Rattle.sheet.proofs.Decides as sheet_decides
use Rattle.load.specs.contracts.load as load
use Rattle.reading.proofs.Decides as reading_decides
use Rattle.sense.proofs.Decides as sense_decides
use Rattle.lent.specs.Maker.{Outcome}
use Rattle.base.specs.contracts.least as least
use Rattle.base.specs.contracts.difference as difference
use Rattle.fields.specs.contracts.byte as byte
use Rattle.fields.specs.contracts.get2 as get2
use Rattle.fields.specs.contracts.get3 as get3
use Rattle.fields.specs.contracts.get4 as get4
use Rattle.fields.specs.contracts.part as part
use Rattle.refusal.specs.contracts.Refusal.placed as refusal_placed
use Rattle.lent.specs.contracts.Made.refused as made_refused
use Rattle.lent.specs.contracts.Made.written as made_written
use Rattle.lent.specs.contracts.put as put
use Rattle.lent.specs.contracts.put2 as put2
use Rattle.lent.specs.contracts.put4 as put4
use Rattle.lent.specs.contracts.copy as copy
use Rattle.lent.specs.contracts.note as note
use Rattle.lent.specs.contracts.clear as clear
use Rattle.lent.specs.contracts.clear_list as clear_list
use Rattle.text.specs.contracts.Flags.reserved as flags_reserved
use Rattle.text.specs.contracts.Flags.version as flags_version
use Rattle.text.specs.contracts.Flags.persistent as flags_persistent
use Rattle.text.specs.contracts.Flags.current as flags_current
use Rattle.text.specs.contracts.Flags.odd as flags_odd
use Rattle.text.specs.contracts.Flags.fault as flags_fault_fn
use Rattle.command.specs.contracts.Command.fault as command_fault_fn
use Rattle.command.specs.contracts.Command.read as command_read
use Rattle.command.specs.contracts.Command.build as command_build
use Rattle.text.specs.contracts.Header.new as header_new
use Rattle.profiles.specs.contracts.current as profiles_current
use Rattle.profiles.specs.contracts.fault as profiles_fault_fn
use Rattle.profiles.specs.contracts.has as profiles_has
use Rattle.layout.specs.contracts.feature_count as feature_count_here
use Rattle.layout.specs.contracts.profile_count as profile_count_here
use Rattle.layout.specs.contracts.profiles_behind as profiles_behind_fn
use Rattle.layout.specs.contracts.bodies_at as bodies_at_fn
use Rattle.layout.specs.contracts.feature_at as feature_at_fn
use Rattle.layout.specs.contracts.flags_at as flags_at_fn
use Rattle.layout.specs.contracts.length_at as length_at
use Rattle.layout.specs.contracts.offset_at as offset_at
use Rattle.layout.specs.contracts.put_counts as put_counts
use Rattle.layout.specs.contracts.profiles_part as profiles_part_fn
use Rattle.sheet.specs.contracts.end_before as end_before_fn
use Rattle.sheet.specs.contracts.flags_rule as flags_rule_fn
use Rattle.sheet.specs.contracts.first_from as first_from_law
use Rattle.sheet.specs.contracts.next_from as next_from_fn
use Rattle.sheet.specs.contracts.check as check
use Rattle.convert.specs.contracts.convert as convert
use Rattle.responder.specs.contracts.send as send
use Rattle.responder.specs.contracts.size as size
use Rattle.responder.specs.contracts.send_sized as send_sized
use Rattle.responder.specs.contracts.respond_accepted as respond_accepted
use Rattle.responder.specs.contracts.respond as respond
use Rattle.reading.specs.contracts.number_at as number_at
use Rattle.reading.specs.contracts.flags_at as reading_flags_at
use Rattle.reading.specs.contracts.length_at as reading_length_at
use Rattle.reading.specs.contracts.next_at as next_at_fn
use Rattle.reading.specs.contracts.body_at as body_at
use Rattle.reading.specs.contracts.scan as scan
use Rattle.reading.specs.contracts.stops as stops
use Rattle.reading.specs.contracts.place_of as place_of
use Rattle.reading.specs.contracts.read as read
use Rattle.reading.specs.contracts.complete as complete
use Rattle.reading.specs.contracts.complete_number as complete_number
use Rattle.reading.specs.contracts.judge as judge
use Rattle.reading.specs.contracts.held as held
use Rattle.text.specs.contracts.most as most
use Rattle.listing.specs.contracts.list as list
use Rattle.descriptor.specs.contracts.stands as stands
use Rattle.meanings.specs.contracts.put_words as put_words
use Rattle.sweep.specs.Sweep.{Turn}
use Rattle.bench.specs.Bench as bench_specs
use Rattle.bench.specs.contracts.bench as bench
use Rattle.legal.specs.contracts.row_of as row_of
use Rattle.legal.specs.contracts.wrong_length as wrong_length_fn
use Rattle.legal.specs.contracts.mask_at as mask_at
use Rattle.legal.specs.contracts.reserved_fault as reserved_fault
use Rattle.legal.specs.contracts.cue_fault as cue_fault
use Rattle.checks.specs.contracts.fault_at as fault_at
use Rattle.checks.specs.contracts.check_descriptors as check_descriptors
use Rattle.needs.specs.contracts.Wrong.number as wrong_number_fn
use Rattle.needs.specs.contracts.check_profile as check_profile
use Rattle.needs.specs.contracts.check_feature as check_feature
use Rattle.needs.proofs.Judgements.{said_injective}
use Rattle.mend.specs.Mend as mend_specs
use Rattle.mend.specs.contracts.mend as mend
use Rattle.sweep.specs.contracts.Sweep.start as sweep_start
use Rattle.sweep.specs.contracts.Sweep.take as sweep_take
use Rattle.sweep.specs.contracts.take_response as take_response
use Rattle.capture.specs.contracts.check as capture_check
use Rattle.import.specs.contracts.import as import
use Rattle.sense.specs.contracts.make as sense_make
use Rattle.sense.specs.contracts.read as sense_read
use Rattle.hex_text.specs.Text as hex
use Rattle.hex_text.specs.contracts.spell as hex_spell
use Rattle.sense.proofs.Picked.{heard_injective}
use Rattle.abi.specs.Left.{Left}
use Rattle.rom.specs.contracts.respond_accepted as rom_respond_accepted
use Rattle.rom.specs.contracts.respond as rom_respond
use Rattle.abi.specs.contracts.gcf_check_sheet as gcf_check_sheet
use Rattle.abi.specs.contracts.gcf_respond as gcf_respond
use Rattle.abi.specs.contracts.gcf_respond_accepted as gcf_respond_accepted
use Rattle.abi.specs.contracts.gcf_check_image as gcf_check_image
use Rattle.abi.specs.contracts.gcf_respond_image as gcf_respond_image
use Rattle.abi.specs.contracts.gcf_respond_image_accepted as gcf_respond_image_accepted
use Rattle.abi.specs.contracts.gcf_read as gcf_read
use Rattle.abi.specs.contracts.gcf_stops as gcf_stops
use Rattle.abi.specs.contracts.gcf_next as gcf_next
use Rattle.abi.specs.contracts.gcf_words as gcf_words
use Rattle.abi.specs.contracts.gcf_place as gcf_place
use Rattle.abi.specs.contracts.gcf_held as gcf_held
use Rattle.abi.specs.contracts.gcf_list as gcf_list
use Rattle.abi.specs.contracts.gcf_most as gcf_most
use Rattle.abi.specs.contracts.gcf_sweep_start as gcf_sweep_start
use Rattle.abi.specs.contracts.gcf_sweep_take as gcf_sweep_take
use Rattle.abi.specs.contracts.gcf_bench as gcf_bench
use Rattle.abi.specs.contracts.gcf_judge as gcf_judge
use Rattle.abi.specs.contracts.gcf_check_descriptors as gcf_check_descriptors
use Rattle.abi.specs.contracts.gcf_check_profile as gcf_check_profile
use Rattle.abi.specs.contracts.gcf_mend as gcf_mend
use Rattle.abi.specs.contracts.gcf_import as gcf_import
use Rattle.abi.specs.contracts.gcf_convert as gcf_convert
use Rattle.abi.specs.contracts.gcf_load as gcf_load
use Rattle.abi.specs.contracts.gcf_build_command as gcf_build_command
use Rattle.abi.specs.contracts.gcf_make_sense as gcf_make_sense
use Rattle.abi.specs.contracts.gcf_read_sense as gcf_read_sense

-- ---- base

pub least_decided : Decided least.ended (λ M 𝓤 𝓛. least.clauses 𝓛) (λ M 𝓤 𝓛. least.spec 𝓛)
least_decided x = decides x.𝓤 (λ o o' p q. (joined p q, refl))

pub difference_decided : Decided difference.ended (λ M 𝓤 𝓛. difference.clauses 𝓛) (λ M 𝓤 𝓛. difference.spec 𝓛)
difference_decided x = decides x.𝓤 (λ o o' p q. (joined p q, refl))

-- ---- fields

pub byte_decided : Decided byte.ended (λ M 𝓤 𝓛. byte.clauses 𝓛) (λ M 𝓤 𝓛. byte.spec 𝓛)
byte_decided x = decides x.𝓤 (λ o o' p q. (joined p q, refl))

pub get2_decided : Decided get2.ended (λ M 𝓤 𝓛. get2.clauses 𝓛) (λ M 𝓤 𝓛. get2.spec 𝓛)
get2_decided x = decides x.𝓤 (λ o o' p q. (joined p q, refl))

pub get3_decided : Decided get3.ended (λ M 𝓤 𝓛. get3.clauses 𝓛) (λ M 𝓤 𝓛. get3.spec 𝓛)
get3_decided x = decides x.𝓤 (λ o o' p q. (joined p q, refl))

pub get4_decided : Decided get4.ended (λ M 𝓤 𝓛. get4.clauses 𝓛) (λ M 𝓤 𝓛. get4.spec 𝓛)
get4_decided x = decides x.𝓤 (λ o o' p q. (joined p q, refl))

pub part_decided : DecidedAs part.ended (λ M 𝓤 𝓛. part.clauses 𝓛) (λ M 𝓤 𝓛. part.spec 𝓛) (λ κs r. seen r)
part_decided x = decides x.𝓤 (λ o o' p q. (same_part p q, refl))

-- ---- refusal

pub refusal_placed_decided : Decided refusal_placed.ended (λ M 𝓤 𝓛. refusal_placed.clauses 𝓛) (λ M 𝓤 𝓛. refusal_placed.spec 𝓛)
refusal_placed_decided x = decides x.𝓤 (λ o o' p q. (joined p q, refl))

-- ---- lent

pub made_refused_decided : Decided made_refused.ended (λ M 𝓤 𝓛. made_refused.clauses 𝓛) (λ M 𝓤 𝓛. made_refused.spec 𝓛)
made_refused_decided x = decides x.𝓤 (λ o o' p q. (joined p q, refl))

pub made_written_decided : Decided made_written.ended (λ M 𝓤 𝓛. made_written.clauses 𝓛) (λ M 𝓤 𝓛. made_written.spec 𝓛)
made_written_decided x = decides x.𝓤 (λ o o' p q. (joined p q, refl))

pub put_decided : Decided put.ended (λ M 𝓤 𝓛. put.clauses 𝓛) (λ M 𝓤 𝓛. put.spec 𝓛)
put_decided x = decides x.𝓤 (λ o o' p q. ((same p q).0, (same p q).1 & refl))

pub put2_decided : Decided put2.ended (λ M 𝓤 𝓛. put2.clauses 𝓛) (λ M 𝓤 𝓛. put2.spec 𝓛)
put2_decided x = decides x.𝓤 (λ o o' p q. ((same p q).0, (same p q).1 & refl))

pub put4_decided : Decided put4.ended (λ M 𝓤 𝓛. put4.clauses 𝓛) (λ M 𝓤 𝓛. put4.spec 𝓛)
put4_decided x = decides x.𝓤 (λ o o' p q. ((same p q).0, (same p q).1 & refl))

pub copy_decided : Decided copy.ended (λ M 𝓤 𝓛. copy.clauses 𝓛) (λ M 𝓤 𝓛. copy.spec 𝓛)
copy_decided x = decides x.𝓤 (λ o o' p q. ((same p q).0, (same p q).1 & refl))

pub note_decided : Decided note.ended (λ M 𝓤 𝓛. note.clauses 𝓛) (λ M 𝓤 𝓛. note.spec 𝓛)
note_decided = lent_decides.note_decided

pub clear_decided : Decided clear.ended (λ M 𝓤 𝓛. clear.clauses 𝓛) (λ M 𝓤 𝓛. clear.spec 𝓛)
clear_decided x = decides x.𝓤 (λ o o' p q. (refl, joined p q & refl))

pub clear_list_decided : Decided clear_list.ended (λ M 𝓤 𝓛. clear_list.clauses 𝓛) (λ M 𝓤 𝓛. clear_list.spec 𝓛)
clear_list_decided x = decides x.𝓤 (λ o o' p q. (refl, joined p q & refl))

-- ---- text

pub flags_reserved_decided : Decided flags_reserved.ended (λ M 𝓤 𝓛. flags_reserved.clauses 𝓛) (λ M 𝓤 𝓛. flags_reserved.spec 𝓛)
flags_reserved_decided x = decides x.𝓤 (λ o o' p q. (joined p q, refl))

pub flags_version_decided : Decided flags_version.ended (λ M 𝓤 𝓛. flags_version.clauses 𝓛) (λ M 𝓤 𝓛. flags_version.spec 𝓛)
flags_version_decided x = decides x.𝓤 (λ o o' p q. (joined p q, refl))

pub flags_persistent_decided : Decided flags_persistent.ended (λ M 𝓤 𝓛. flags_persistent.clauses 𝓛) (λ M 𝓤 𝓛. flags_persistent.spec 𝓛)
flags_persistent_decided x = decides x.𝓤 (λ o o' p q. (joined p q, refl))

pub flags_current_decided : Decided flags_current.ended (λ M 𝓤 𝓛. flags_current.clauses 𝓛) (λ M 𝓤 𝓛. flags_current.spec 𝓛)
flags_current_decided x = decides x.𝓤 (λ o o' p q. (joined p q, refl))

pub flags_odd_decided : Decided flags_odd.ended (λ M 𝓤 𝓛. flags_odd.clauses 𝓛) (λ M 𝓤 𝓛. flags_odd.spec 𝓛)
flags_odd_decided x = decides x.𝓤 (λ o o' p q. (joined p q, refl))

pub flags_fault_decided : Decided flags_fault_fn.ended (λ M 𝓤 𝓛. flags_fault_fn.clauses 𝓛) (λ M 𝓤 𝓛. flags_fault_fn.spec 𝓛)
flags_fault_decided x = decides x.𝓤 (λ o o' p q. (joined p q, refl))

pub command_fault_decided : Decided command_fault_fn.ended (λ M 𝓤 𝓛. command_fault_fn.clauses 𝓛) (λ M 𝓤 𝓛. command_fault_fn.spec 𝓛)
command_fault_decided x = decides x.𝓤 (λ o o' p q. (joined p q, refl))

pub command_read_decided : Decided command_read.ended (λ M 𝓤 𝓛. command_read.clauses 𝓛) (λ M 𝓤 𝓛. command_read.spec 𝓛)
command_read_decided x = decides x.𝓤 (λ o o' p q. (joined p q, refl))

pub command_build_decided : Decided command_build.ended (λ M 𝓤 𝓛. command_build.clauses 𝓛) (λ M 𝓤 𝓛. command_build.spec 𝓛)
command_build_decided x = decides x.𝓤 (λ o o' p q. (ap (λ (z : Outcome). z.made) (joined p q), refl & refl & refl & refl & ap (λ (z : Outcome). z.buffer) (joined p q) & refl))

pub header_new_decided : Decided header_new.ended (λ M 𝓤 𝓛. header_new.clauses 𝓛) (λ M 𝓤 𝓛. header_new.spec 𝓛)
header_new_decided = text_decides.new_decided

-- ---- profiles

pub profiles_current_decided : Decided profiles_current.ended (λ M 𝓤 𝓛. profiles_current.clauses 𝓛) (λ M 𝓤 𝓛. profiles_current.spec 𝓛)
profiles_current_decided x = decides x.𝓤 (λ o o' p q. ((λ i. record { 0 = joined p q i }), refl))

pub profiles_fault_decided : Decided profiles_fault_fn.ended (λ M 𝓤 𝓛. profiles_fault_fn.clauses 𝓛) (λ M 𝓤 𝓛. profiles_fault_fn.spec 𝓛)
profiles_fault_decided x = decides x.𝓤 (λ o o' p q. (joined p q, refl))

pub profiles_has_decided : Decided profiles_has.ended (λ M 𝓤 𝓛. profiles_has.clauses 𝓛) (λ M 𝓤 𝓛. profiles_has.spec 𝓛)
profiles_has_decided x = decides x.𝓤 (λ o o' p q. (joined p q, refl))

-- ---- layout

pub feature_count_decided : Decided feature_count_here.ended (λ M 𝓤 𝓛. feature_count_here.clauses 𝓛) (λ M 𝓤 𝓛. feature_count_here.spec 𝓛)
feature_count_decided x = decides x.𝓤 (λ o o' p q. (joined p q, refl))

pub profile_count_decided : Decided profile_count_here.ended (λ M 𝓤 𝓛. profile_count_here.clauses 𝓛) (λ M 𝓤 𝓛. profile_count_here.spec 𝓛)
profile_count_decided x = decides x.𝓤 (λ o o' p q. (joined p q, refl))

pub profiles_behind_decided : Decided profiles_behind_fn.ended (λ M 𝓤 𝓛. profiles_behind_fn.clauses 𝓛) (λ M 𝓤 𝓛. profiles_behind_fn.spec 𝓛)
profiles_behind_decided x = decides x.𝓤 (λ o o' p q. (joined p q, refl))

pub bodies_at_decided : Decided bodies_at_fn.ended (λ M 𝓤 𝓛. bodies_at_fn.clauses 𝓛) (λ M 𝓤 𝓛. bodies_at_fn.spec 𝓛)
bodies_at_decided x = decides x.𝓤 (λ o o' p q. (joined p q, refl))

pub flags_at_decided : Decided flags_at_fn.ended (λ M 𝓤 𝓛. flags_at_fn.clauses 𝓛) (λ M 𝓤 𝓛. flags_at_fn.spec 𝓛)
flags_at_decided x = decides x.𝓤 (λ o o' p q. ((λ i. record { 0 = joined p q i }), refl))

pub length_at_decided : Decided length_at.ended (λ M 𝓤 𝓛. length_at.clauses 𝓛) (λ M 𝓤 𝓛. length_at.spec 𝓛)
length_at_decided x = decides x.𝓤 (λ o o' p q. (joined p q, refl))

pub offset_at_decided : Decided offset_at.ended (λ M 𝓤 𝓛. offset_at.clauses 𝓛) (λ M 𝓤 𝓛. offset_at.spec 𝓛)
offset_at_decided x = decides x.𝓤 (λ o o' p q. (joined p q, refl))

pub feature_at_decided : Decided feature_at_fn.ended (λ M 𝓤 𝓛. feature_at_fn.clauses 𝓛) (λ M 𝓤 𝓛. feature_at_fn.spec 𝓛)
feature_at_decided x = decides x.𝓤 (λ o o' p q. ((λ i. record { 0 = joined p q i }), refl))

pub put_counts_decided : Decided put_counts.ended (λ M 𝓤 𝓛. put_counts.clauses 𝓛) (λ M 𝓤 𝓛. put_counts.spec 𝓛)
put_counts_decided x = decides x.𝓤 (λ o o' p q. ((same p q).0, (same p q).1 & refl))

pub profiles_part_decided : DecidedAs profiles_part_fn.ended (λ M 𝓤 𝓛. profiles_part_fn.clauses 𝓛) (λ M 𝓤 𝓛. profiles_part_fn.spec 𝓛) (λ κs r. seen r)
profiles_part_decided x = decides x.𝓤 (λ o o' p q. (same_part p q, refl))

-- ---- sheet

pub flags_rule_decided : Decided flags_rule_fn.ended (λ M 𝓤 𝓛. flags_rule_fn.clauses 𝓛) (λ M 𝓤 𝓛. flags_rule_fn.spec 𝓛)
flags_rule_decided x = decides x.𝓤 (λ o o' p q. (joined p q, refl))

pub end_before_decided : Decided end_before_fn.ended (λ M 𝓤 𝓛. end_before_fn.clauses 𝓛) (λ M 𝓤 𝓛. end_before_fn.spec 𝓛)
end_before_decided x = decides x.𝓤 (λ o o' p q. (joined p q, refl))

pub first_from_decided : Decided first_from_law.ended (λ M 𝓤 𝓛. first_from_law.clauses 𝓛) (λ M 𝓤 𝓛. first_from_law.spec 𝓛)
first_from_decided x = decides x.𝓤 (λ o o' p q. (joined p q, refl))

pub next_from_decided : Decided next_from_fn.ended (λ M 𝓤 𝓛. next_from_fn.clauses 𝓛) (λ M 𝓤 𝓛. next_from_fn.spec 𝓛)
next_from_decided x = decides x.𝓤 (λ o o' p q. (joined p q, refl))

pub check_decided : Decided check.ended (λ M 𝓤 𝓛. check.clauses 𝓛) (λ M 𝓤 𝓛. check.spec 𝓛)
check_decided = sheet_decides.check_decided

-- ---- load

pub load_decided : Decided load.ended (λ M 𝓤 𝓛. load.clauses 𝓛) (λ M 𝓤 𝓛. load.spec 𝓛)
load_decided x = decides x.𝓤 (λ o o' p q. (ap (λ (z : Outcome). z.made) (joined p q), refl & refl & refl & refl & ap (λ (z : Outcome). z.buffer) (joined p q) & refl))

-- ---- convert

pub convert_decided : Decided convert.ended (λ M 𝓤 𝓛. convert.clauses 𝓛) (λ M 𝓤 𝓛. convert.spec 𝓛)
convert_decided x = decides x.𝓤 (λ o o' p q. (ap (λ (z : Outcome). z.made) (joined p q), refl & refl & refl & ap (λ (z : Outcome). z.buffer) (joined p q) & refl))

-- ---- responder

pub send_decided : Decided send.ended (λ M 𝓤 𝓛. send.clauses 𝓛) (λ M 𝓤 𝓛. send.spec 𝓛)
send_decided x = decides x.𝓤 (λ o o' p q. (ap (λ (z : Outcome). z.made) (joined p q), refl & refl & refl & refl & refl & ap (λ (z : Outcome). z.buffer) (joined p q) & refl))

pub size_decided : Decided size.ended (λ M 𝓤 𝓛. size.clauses 𝓛) (λ M 𝓤 𝓛. size.spec 𝓛)
size_decided x = decides x.𝓤 (λ o o' p q. (joined p q, refl))

pub send_sized_decided : Decided send_sized.ended (λ M 𝓤 𝓛. send_sized.clauses 𝓛) (λ M 𝓤 𝓛. send_sized.spec 𝓛)
send_sized_decided x = decides x.𝓤 (λ o o' p q. (ap (λ (z : Outcome). z.made) (joined p q), refl & refl & refl & refl & refl & refl & refl & ap (λ (z : Outcome). z.buffer) (joined p q) & refl))

pub respond_accepted_decided : Decided respond_accepted.ended (λ M 𝓤 𝓛. respond_accepted.clauses 𝓛) (λ M 𝓤 𝓛. respond_accepted.spec 𝓛)
respond_accepted_decided x = decides x.𝓤 (λ o o' p q. (ap (λ (z : Outcome). z.made) (joined p q), refl & refl & refl & ap (λ (z : Outcome). z.buffer) (joined p q) & refl))

pub respond_decided : Decided respond.ended (λ M 𝓤 𝓛. respond.clauses 𝓛) (λ M 𝓤 𝓛. respond.spec 𝓛)
respond_decided x = decides x.𝓤 (λ o o' p q. (ap (λ (z : Outcome). z.made) (joined p q), refl & refl & refl & ap (λ (z : Outcome). z.buffer) (joined p q) & refl))

-- ---- reading

pub number_at_decided : Decided number_at.ended (λ M 𝓤 𝓛. number_at.clauses 𝓛) (λ M 𝓤 𝓛. number_at.spec 𝓛)
number_at_decided x = decides x.𝓤 (λ o o' p q. ((λ i. record { 0 = joined p q i }), refl))

pub reading_flags_at_decided : Decided reading_flags_at.ended (λ M 𝓤 𝓛. reading_flags_at.clauses 𝓛) (λ M 𝓤 𝓛. reading_flags_at.spec 𝓛)
reading_flags_at_decided x = decides x.𝓤 (λ o o' p q. ((λ i. record { 0 = joined p q i }), refl))

pub reading_length_at_decided : Decided reading_length_at.ended (λ M 𝓤 𝓛. reading_length_at.clauses 𝓛) (λ M 𝓤 𝓛. reading_length_at.spec 𝓛)
reading_length_at_decided x = decides x.𝓤 (λ o o' p q. (joined p q, refl))

pub next_at_decided : Decided next_at_fn.ended (λ M 𝓤 𝓛. next_at_fn.clauses 𝓛) (λ M 𝓤 𝓛. next_at_fn.spec 𝓛)
next_at_decided x = decides x.𝓤 (λ o o' p q. (joined p q, refl))

pub body_at_decided : DecidedAs body_at.ended (λ M 𝓤 𝓛. body_at.clauses 𝓛) (λ M 𝓤 𝓛. body_at.spec 𝓛) (λ κs r. seen r)
body_at_decided x = decides x.𝓤 (λ o o' p q. (same_part p q, refl))

pub scan_decided : Decided scan.ended (λ M 𝓤 𝓛. scan.clauses 𝓛) (λ M 𝓤 𝓛. scan.spec 𝓛)
scan_decided x = decides x.𝓤 (λ o o' p q. (joined p q, refl))

pub stops_decided : Decided stops.ended (λ M 𝓤 𝓛. stops.clauses 𝓛) (λ M 𝓤 𝓛. stops.spec 𝓛)
stops_decided x = decides x.𝓤 (λ o o' p q. (joined p q, refl))

pub place_of_decided : Decided place_of.ended (λ M 𝓤 𝓛. place_of.clauses 𝓛) (λ M 𝓤 𝓛. place_of.spec 𝓛)
place_of_decided x = decides x.𝓤 (λ o o' p q. (joined p q, refl))

pub read_decided : Decided read.ended (λ M 𝓤 𝓛. read.clauses 𝓛) (λ M 𝓤 𝓛. read.spec 𝓛)
read_decided x = decides x.𝓤 (λ o o' p q. (joined p q, refl))

pub complete_decided : Decided complete.ended (λ M 𝓤 𝓛. complete.clauses 𝓛) (λ M 𝓤 𝓛. complete.spec 𝓛)
complete_decided x = decides x.𝓤 (λ o o' p q. (joined p q, refl))

pub complete_number_decided : Decided complete_number.ended (λ M 𝓤 𝓛. complete_number.clauses 𝓛) (λ M 𝓤 𝓛. complete_number.spec 𝓛)
complete_number_decided x = decides x.𝓤 (λ o o' p q. (joined p q, refl))

pub judge_decided : Decided judge.ended (λ M 𝓤 𝓛. judge.clauses 𝓛) (λ M 𝓤 𝓛. judge.spec 𝓛)
judge_decided = reading_decides.judge_decided

pub held_decided : DecidedAs held.ended (λ M 𝓤 𝓛. held.clauses 𝓛) (λ M 𝓤 𝓛. held.spec 𝓛) (λ κs r. seen r)
held_decided = reading_decides.held_decided

-- ---- sweep

pub most_decided : Decided most.ended (λ M 𝓤 𝓛. most.clauses 𝓛) (λ M 𝓤 𝓛. most.spec 𝓛)
most_decided x = decides x.𝓤 (λ o o' p q. (joined p q, refl))

pub sweep_start_decided : Decided sweep_start.ended (λ M 𝓤 𝓛. sweep_start.clauses 𝓛) (λ M 𝓤 𝓛. sweep_start.spec 𝓛)
sweep_start_decided x = decides x.𝓤 (λ o o' p q. (joined p q, refl))

pub sweep_take_decided : Decided sweep_take.ended (λ M 𝓤 𝓛. sweep_take.clauses 𝓛) (λ M 𝓤 𝓛. sweep_take.spec 𝓛)
sweep_take_decided x = decides x.𝓤 (λ o o' p q. (ap (λ (z : Turn). z.step) (joined p q), refl & refl & ap (λ (z : Turn). z.buffer) (joined p q) & refl))

pub take_response_decided : Decided take_response.ended (λ M 𝓤 𝓛. take_response.clauses 𝓛) (λ M 𝓤 𝓛. take_response.spec 𝓛)
take_response_decided x = decides x.𝓤 (λ o o' p q. (
  ap (λ (z : Turn). z.step.refusal) (joined p q),
  ap (λ (z : Turn). z.step.sweep) (joined p q) & refl & ap (λ (z : Turn). z.buffer) (joined p q) & refl,
))

-- ---- listing

pub list_decided : Decided list.ended (λ M 𝓤 𝓛. list.clauses 𝓛) (λ M 𝓤 𝓛. list.spec 𝓛)
list_decided x = decides x.𝓤 (λ o o' p q. ((same p q).0, refl & (same p q).1 & refl))

-- ---- descriptor

pub stands_decided : Decided stands.ended (λ M 𝓤 𝓛. stands.clauses 𝓛) (λ M 𝓤 𝓛. stands.spec 𝓛)
stands_decided x = decides x.𝓤 (λ o o' p q. (joined p q, refl))

-- ---- meanings

pub put_words_decided : Decided put_words.ended (λ M 𝓤 𝓛. put_words.clauses 𝓛) (λ M 𝓤 𝓛. put_words.spec 𝓛)
put_words_decided x = decides x.𝓤 (λ o o' p q. ((same p q).0, refl & (same p q).1 & refl))

-- ---- bench

response : {a b : bench_specs.Buffers} → a ≡ b → a.response ≡ b.response
response p = ap (λ (z : bench_specs.Buffers). z.response) p

collected : {a b : bench_specs.Buffers} → a ≡ b → a.collected ≡ b.collected
collected p = ap (λ (z : bench_specs.Buffers). z.collected) p

starts : {a b : bench_specs.Buffers} → a ≡ b → a.starts ≡ b.starts
starts p = ap (λ (z : bench_specs.Buffers). z.starts) p

pub bench_decided : Decided bench.ended (λ M 𝓤 𝓛. bench.clauses 𝓛) (λ M 𝓤 𝓛. bench.spec 𝓛)
bench_decided x = decides x.𝓤 (λ o o' p q. (
  ap (λ (z : bench_specs.Ending). z.reply) (joined p q),
  refl & refl & refl & refl & response (ap (λ (z : bench_specs.Ending). z.buffers) (joined p q)) & collected (ap (λ (z : bench_specs.Ending). z.buffers) (joined p q)) & starts (ap (λ (z : bench_specs.Ending). z.buffers) (joined p q)) & refl,
))

-- ---- checks

pub check_descriptors_decided : Decided check_descriptors.ended (λ M 𝓤 𝓛. check_descriptors.clauses 𝓛) (λ M 𝓤 𝓛. check_descriptors.spec 𝓛)
check_descriptors_decided x = decides x.𝓤 (λ o o' p q. (joined p q, refl))

pub fault_at_decided : Decided fault_at.ended (λ M 𝓤 𝓛. fault_at.clauses 𝓛) (λ M 𝓤 𝓛. fault_at.spec 𝓛)
fault_at_decided x = decides x.𝓤 (λ o o' p q. (joined p q, refl))

pub wrong_number_decided : Decided wrong_number_fn.ended (λ M 𝓤 𝓛. wrong_number_fn.clauses 𝓛) (λ M 𝓤 𝓛. wrong_number_fn.spec 𝓛)
wrong_number_decided x = decides x.𝓤 (λ o o' p q. (joined p q, refl))

pub check_profile_decided : Decided check_profile.ended (λ M 𝓤 𝓛. check_profile.clauses 𝓛) (λ M 𝓤 𝓛. check_profile.spec 𝓛)
check_profile_decided x = decides x.𝓤 (λ o o' p q. (said_injective o.0 o'.0 (joined p q), refl))

pub check_feature_decided : Decided check_feature.ended (λ M 𝓤 𝓛. check_feature.clauses 𝓛) (λ M 𝓤 𝓛. check_feature.spec 𝓛)
check_feature_decided x = decides x.𝓤 (λ o o' p q. (said_injective o.0 o'.0 (joined p q), refl))

-- ---- legal

pub row_of_decided : Decided row_of.ended (λ M 𝓤 𝓛. row_of.clauses 𝓛) (λ M 𝓤 𝓛. row_of.spec 𝓛)
row_of_decided x = decides x.𝓤 (λ o o' p q. (joined p q, refl))

pub wrong_length_decided : Decided wrong_length_fn.ended (λ M 𝓤 𝓛. wrong_length_fn.clauses 𝓛) (λ M 𝓤 𝓛. wrong_length_fn.spec 𝓛)
wrong_length_decided x = decides x.𝓤 (λ o o' p q. (joined p q, refl))

pub mask_at_decided : Decided mask_at.ended (λ M 𝓤 𝓛. mask_at.clauses 𝓛) (λ M 𝓤 𝓛. mask_at.spec 𝓛)
mask_at_decided x = decides x.𝓤 (λ o o' p q. (joined p q, refl))

pub reserved_fault_decided : Decided reserved_fault.ended (λ M 𝓤 𝓛. reserved_fault.clauses 𝓛) (λ M 𝓤 𝓛. reserved_fault.spec 𝓛)
reserved_fault_decided x = decides x.𝓤 (λ o o' p q. (joined p q, refl))

pub cue_fault_decided : Decided cue_fault.ended (λ M 𝓤 𝓛. cue_fault.clauses 𝓛) (λ M 𝓤 𝓛. cue_fault.spec 𝓛)
cue_fault_decided x = decides x.𝓤 (λ o o' p q. (joined p q, refl))

-- ---- mend

pub mend_decided : Decided mend.ended (λ M 𝓤 𝓛. mend.clauses 𝓛) (λ M 𝓤 𝓛. mend.spec 𝓛)
mend_decided x = decides x.𝓤 (λ o o' p q. (
  ap (λ (z : mend_specs.Outcome). z.answer) (joined p q),
  refl & ap (λ (z : mend_specs.Outcome). z.copy) (joined p q) & ap (λ (z : mend_specs.Outcome). z.list) (joined p q) & refl,
))

-- ---- capture and import

pub capture_check_decided : Decided capture_check.ended (λ M 𝓤 𝓛. capture_check.clauses 𝓛) (λ M 𝓤 𝓛. capture_check.spec 𝓛)
capture_check_decided x = decides x.𝓤 (λ o o' p q. (joined p q, refl))

pub import_decided : Decided import.ended (λ M 𝓤 𝓛. import.clauses 𝓛) (λ M 𝓤 𝓛. import.spec 𝓛)
import_decided x = decides x.𝓤 (λ o o' p q. (ap (λ (z : Outcome). z.made) (joined p q), refl & ap (λ (z : Outcome). z.buffer) (joined p q) & refl))

-- ---- rom

pub rom_respond_accepted_decided : Decided rom_respond_accepted.ended (λ M 𝓤 𝓛. rom_respond_accepted.clauses 𝓛) (λ M 𝓤 𝓛. rom_respond_accepted.spec 𝓛)
rom_respond_accepted_decided x = decides x.𝓤 (λ o o' p q. (ap (λ (z : Outcome). z.made) (joined p q), refl & refl & ap (λ (z : Outcome). z.buffer) (joined p q) & refl))

pub rom_respond_decided : Decided rom_respond.ended (λ M 𝓤 𝓛. rom_respond.clauses 𝓛) (λ M 𝓤 𝓛. rom_respond.spec 𝓛)
rom_respond_decided x = decides x.𝓤 (λ o o' p q. (ap (λ (z : Outcome). z.made) (joined p q), refl & refl & ap (λ (z : Outcome). z.buffer) (joined p q) & refl))

-- ---- sense

pub sense_make_decided : Decided sense_make.ended (λ M 𝓤 𝓛. sense_make.clauses 𝓛) (λ M 𝓤 𝓛. sense_make.spec 𝓛)
sense_make_decided = sense_decides.make_decided

pub sense_read_decided : Decided sense_read.ended (λ M 𝓤 𝓛. sense_read.clauses 𝓛) (λ M 𝓤 𝓛. sense_read.spec 𝓛)
sense_read_decided x = decides x.𝓤 (λ o o' p q. (heard_injective o.0 o'.0 (joined p q), refl))

-- ---- hex

pub hex_spell_decided : Decided hex_spell.ended (λ M 𝓤 𝓛. hex_spell.clauses 𝓛) (λ M 𝓤 𝓛. hex_spell.spec 𝓛)
hex_spell_decided x = decides x.𝓤 (λ o o' p q. (ap (λ (z : hex.Outcome). z.told) (joined p q), refl & ap (λ (z : hex.Outcome). z.buffer) (joined p q) & refl))

-- ---- abi: what is left in the buffers, and what is told

number : {B : Type 0} {a b : Left B} → a ≡ b → a.number ≡ b.number
number {B} p = ap (λ (z : Left B). z.number) p

buffers : {B : Type 0} {a b : Left B} → a ≡ b → a.buffers ≡ b.buffers
buffers {B} p = ap (λ (z : Left B). z.buffers) p

told : {B : Type 0} {a b : Left B} → a ≡ b → a.told ≡ b.told
told {B} p = ap (λ (z : Left B). z.told) p

pub gcf_check_sheet_decided : Decided gcf_check_sheet.ended (λ M 𝓤 𝓛. gcf_check_sheet.clauses 𝓛) (λ M 𝓤 𝓛. gcf_check_sheet.spec 𝓛)
gcf_check_sheet_decided x = decides x.𝓤 (λ o o' p q. (number (joined p q), refl & refl & told (joined p q) & refl))

pub gcf_respond_decided : Decided gcf_respond.ended (λ M 𝓤 𝓛. gcf_respond.clauses 𝓛) (λ M 𝓤 𝓛. gcf_respond.spec 𝓛)
gcf_respond_decided x = decides x.𝓤 (λ o o' p q. (number (joined p q), refl & refl & refl & buffers (joined p q) & told (joined p q) & refl))

pub gcf_respond_accepted_decided : Decided gcf_respond_accepted.ended (λ M 𝓤 𝓛. gcf_respond_accepted.clauses 𝓛) (λ M 𝓤 𝓛. gcf_respond_accepted.spec 𝓛)
gcf_respond_accepted_decided x = decides x.𝓤 (λ o o' p q. (number (joined p q), refl & refl & refl & buffers (joined p q) & told (joined p q) & refl))

pub gcf_check_image_decided : Decided gcf_check_image.ended (λ M 𝓤 𝓛. gcf_check_image.clauses 𝓛) (λ M 𝓤 𝓛. gcf_check_image.spec 𝓛)
gcf_check_image_decided x = decides x.𝓤 (λ o o' p q. (number (joined p q), refl & told (joined p q) & refl))

pub gcf_respond_image_decided : Decided gcf_respond_image.ended (λ M 𝓤 𝓛. gcf_respond_image.clauses 𝓛) (λ M 𝓤 𝓛. gcf_respond_image.spec 𝓛)
gcf_respond_image_decided x = decides x.𝓤 (λ o o' p q. (number (joined p q), refl & refl & buffers (joined p q) & told (joined p q) & refl))

pub gcf_respond_image_accepted_decided : Decided gcf_respond_image_accepted.ended (λ M 𝓤 𝓛. gcf_respond_image_accepted.clauses 𝓛) (λ M 𝓤 𝓛. gcf_respond_image_accepted.spec 𝓛)
gcf_respond_image_accepted_decided x = decides x.𝓤 (λ o o' p q. (number (joined p q), refl & refl & buffers (joined p q) & told (joined p q) & refl))

pub gcf_read_decided : Decided gcf_read.ended (λ M 𝓤 𝓛. gcf_read.clauses 𝓛) (λ M 𝓤 𝓛. gcf_read.spec 𝓛)
gcf_read_decided x = decides x.𝓤 (λ o o' p q. (number (joined p q), refl & refl & refl & told (joined p q) & refl))

pub gcf_held_decided : Decided gcf_held.ended (λ M 𝓤 𝓛. gcf_held.clauses 𝓛) (λ M 𝓤 𝓛. gcf_held.spec 𝓛)
gcf_held_decided x = decides x.𝓤 (λ o o' p q. ((same p q).0, refl & refl & refl & (same p q).1 & refl))

pub gcf_words_decided : Decided gcf_words.ended (λ M 𝓤 𝓛. gcf_words.clauses 𝓛) (λ M 𝓤 𝓛. gcf_words.spec 𝓛)
gcf_words_decided x = decides x.𝓤 (λ o o' p q. ((same p q).0, refl & (same p q).1 & refl))

pub gcf_list_decided : Decided gcf_list.ended (λ M 𝓤 𝓛. gcf_list.clauses 𝓛) (λ M 𝓤 𝓛. gcf_list.spec 𝓛)
gcf_list_decided x = decides x.𝓤 (λ o o' p q. ((same p q).0, refl & (same p q).1 & refl))

pub gcf_stops_decided : Decided gcf_stops.ended (λ M 𝓤 𝓛. gcf_stops.clauses 𝓛) (λ M 𝓤 𝓛. gcf_stops.spec 𝓛)
gcf_stops_decided x = decides x.𝓤 (λ o o' p q. (refl, refl & refl & refl & refl & joined p q & refl))

pub gcf_next_decided : Decided gcf_next.ended (λ M 𝓤 𝓛. gcf_next.clauses 𝓛) (λ M 𝓤 𝓛. gcf_next.spec 𝓛)
gcf_next_decided x = decides x.𝓤 (λ o o' p q. (ap (λ (z : Bool × List ℕ). z.0) (joined p q), refl & refl & ap (λ (z : Bool × List ℕ). z.1) (joined p q) & refl))

pub gcf_place_decided : Decided gcf_place.ended (λ M 𝓤 𝓛. gcf_place.clauses 𝓛) (λ M 𝓤 𝓛. gcf_place.spec 𝓛)
gcf_place_decided x = decides x.𝓤 (λ o o' p q. (joined p q, refl))

pub gcf_most_decided : Decided gcf_most.ended (λ M 𝓤 𝓛. gcf_most.clauses 𝓛) (λ M 𝓤 𝓛. gcf_most.spec 𝓛)
gcf_most_decided x = decides x.𝓤 (λ o o' p q. (joined p q, refl))

pub gcf_sweep_start_decided : Decided gcf_sweep_start.ended (λ M 𝓤 𝓛. gcf_sweep_start.clauses 𝓛) (λ M 𝓤 𝓛. gcf_sweep_start.spec 𝓛)
gcf_sweep_start_decided x = decides x.𝓤 (λ o o' p q. (joined p q, refl))

pub gcf_sweep_take_decided : Decided gcf_sweep_take.ended (λ M 𝓤 𝓛. gcf_sweep_take.clauses 𝓛) (λ M 𝓤 𝓛. gcf_sweep_take.spec 𝓛)
gcf_sweep_take_decided x = decides x.𝓤 (λ o o' p q. (ap (λ (z : Turn). z.step) (joined p q), refl & refl & ap (λ (z : Turn). z.buffer) (joined p q) & refl))

pub gcf_bench_decided : Decided gcf_bench.ended (λ M 𝓤 𝓛. gcf_bench.clauses 𝓛) (λ M 𝓤 𝓛. gcf_bench.spec 𝓛)
gcf_bench_decided x = decides x.𝓤 (λ o o' p q. (
  number (joined p q),
  refl & refl & refl & refl & response (buffers (joined p q)) & collected (buffers (joined p q)) & starts (buffers (joined p q)) & told (joined p q) & refl,
))

pub gcf_judge_decided : Decided gcf_judge.ended (λ M 𝓤 𝓛. gcf_judge.clauses 𝓛) (λ M 𝓤 𝓛. gcf_judge.spec 𝓛)
gcf_judge_decided x = decides x.𝓤 (λ o o' p q. (number (joined p q), refl & refl & refl & refl & buffers (joined p q) & told (joined p q) & refl))

pub gcf_check_descriptors_decided : Decided gcf_check_descriptors.ended (λ M 𝓤 𝓛. gcf_check_descriptors.clauses 𝓛) (λ M 𝓤 𝓛. gcf_check_descriptors.spec 𝓛)
gcf_check_descriptors_decided x = decides x.𝓤 (λ o o' p q. (number (joined p q), refl & told (joined p q) & refl))

pub gcf_check_profile_decided : Decided gcf_check_profile.ended (λ M 𝓤 𝓛. gcf_check_profile.clauses 𝓛) (λ M 𝓤 𝓛. gcf_check_profile.spec 𝓛)
gcf_check_profile_decided x = decides x.𝓤 (λ o o' p q. (number (joined p q), refl & refl & told (joined p q) & refl))

pub gcf_mend_decided : Decided gcf_mend.ended (λ M 𝓤 𝓛. gcf_mend.clauses 𝓛) (λ M 𝓤 𝓛. gcf_mend.spec 𝓛)
gcf_mend_decided x = decides x.𝓤 (λ o o' p q. (
  number (joined p q),
  refl & ap (λ (z : List ℕ × List ℕ). z.0) (buffers (joined p q)) & ap (λ (z : List ℕ × List ℕ). z.1) (buffers (joined p q)) & told (joined p q) & refl,
))

pub gcf_import_decided : Decided gcf_import.ended (λ M 𝓤 𝓛. gcf_import.clauses 𝓛) (λ M 𝓤 𝓛. gcf_import.spec 𝓛)
gcf_import_decided x = decides x.𝓤 (λ o o' p q. (number (joined p q), refl & buffers (joined p q) & told (joined p q) & refl))

pub gcf_convert_decided : Decided gcf_convert.ended (λ M 𝓤 𝓛. gcf_convert.clauses 𝓛) (λ M 𝓤 𝓛. gcf_convert.spec 𝓛)
gcf_convert_decided x = decides x.𝓤 (λ o o' p q. (number (joined p q), refl & refl & refl & buffers (joined p q) & told (joined p q) & refl))

pub gcf_load_decided : Decided gcf_load.ended (λ M 𝓤 𝓛. gcf_load.clauses 𝓛) (λ M 𝓤 𝓛. gcf_load.spec 𝓛)
gcf_load_decided x = decides x.𝓤 (λ o o' p q. (number (joined p q), refl & refl & refl & refl & buffers (joined p q) & told (joined p q) & refl))

pub gcf_build_command_decided : Decided gcf_build_command.ended (λ M 𝓤 𝓛. gcf_build_command.clauses 𝓛) (λ M 𝓤 𝓛. gcf_build_command.spec 𝓛)
gcf_build_command_decided x = decides x.𝓤 (λ o o' p q. (number (joined p q), refl & refl & refl & refl & buffers (joined p q) & told (joined p q) & refl))

pub gcf_make_sense_decided : Decided gcf_make_sense.ended (λ M 𝓤 𝓛. gcf_make_sense.clauses 𝓛) (λ M 𝓤 𝓛. gcf_make_sense.spec 𝓛)
gcf_make_sense_decided x = decides x.𝓤 (λ o o' p q. (number (joined p q), refl & buffers (joined p q) & told (joined p q) & refl))

pub gcf_read_sense_decided : Decided gcf_read_sense.ended (λ M 𝓤 𝓛. gcf_read_sense.clauses 𝓛) (λ M 𝓤 𝓛. gcf_read_sense.spec 𝓛)
gcf_read_sense_decided x = decides x.𝓤 (λ o o' p q. (number (joined p q), refl & told (joined p q) & refl))
