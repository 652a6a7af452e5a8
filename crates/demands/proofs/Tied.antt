-- The demands and promises over the functions' own contracts, as the toolchain generates them: every outcome that a function's contract allows is what
-- the demand says. The arguments have the names of the function's head (Named.antt), r is the result, and a name with a prime what stands there at exit.
-- The functions below these are tied in Ground.antt, the exported ones in Exported.antt. Assumes nothing.
use mathlib.Core.Path.{◌≡◌}
use mathlib.Core.Path.{sym, ap, subst, ◌∙◌}
use mathlib.Core.Bool.{Bool}
use mathlib.Core.List.{List}
use Prim.Native.Nat.{min}
use Rattle.base.proofs.Promise.{Promised, promises, by}
use Rattle.reading.proofs.Lies.{Lies}
use Rattle.reading.proofs.Promised as reading_promised
use Rattle.layout.specs.Layout.{stored}
use Rattle.sheet.specs.contracts.check as check
use Rattle.lent.specs.Maker.{outcome}
use Rattle.convert.specs.contracts.convert as convert
use Rattle.load.proofs.Promised.{Loads, loads_so}
use Rattle.load.specs.contracts.load as load
use Rattle.responder.specs.contracts.send as send
use Rattle.responder.specs.contracts.size as size
use Rattle.responder.specs.contracts.send_sized as send_sized
use Rattle.responder.specs.contracts.respond_accepted as respond_accepted
use Rattle.responder.specs.contracts.respond as respond
use Rattle.rom.specs.contracts.respond_accepted as rom_respond_accepted
use Rattle.rom.specs.contracts.respond as rom_respond
use Rattle.reading.specs.contracts.scan as scan
use Rattle.reading.proofs.Stopped.{Stops, stops_so}
use Rattle.reading.proofs.Rest.{Stood, stood_so}
use Rattle.reading.specs.declared.Stop.{Stop}
use Rattle.reading.specs.contracts.stops as stops
use Rattle.descriptor.proofs.Promised.{Steps, steps}
use Rattle.descriptor.specs.contracts.stands as stands
use Rattle.reading.specs.contracts.place_of as place_of
use Rattle.reading.specs.contracts.read as read
use Rattle.reading.specs.contracts.held as held
use Rattle.text.specs.contracts.most as most
use Rattle.sweep.specs.contracts.Sweep.start as sweep_start
use Rattle.sweep.specs.contracts.Sweep.take as sweep_take
use Rattle.sweep.specs.contracts.take_response as take_response
use Rattle.listing.specs.contracts.list as list
use Rattle.sweep.specs.Sweep.{step, turn}
use Rattle.bench.specs.Bench as bench_specs
use Rattle.bench.specs.contracts.bench as bench
use Rattle.needs.specs.Judge.{said}
use Rattle.refusal.specs.declared.Refusal.{Refusal}
use Rattle.text.specs.Drive.{Desc}
use Rattle.text.specs.Reading.{desc_at}
use Rattle.checks.specs.Rules.{desc_fault}
use Rattle.reading.specs.Places.{reported}
use Rattle.checks.proofs.Found.{Breaks, desc_breaks}
use Rattle.checks.specs.contracts.check_descriptors as check_descriptors
use Rattle.checks.specs.contracts.fault_at as fault_at
use Rattle.needs.specs.contracts.Wrong.number as wrong_number_fn
use Rattle.needs.specs.contracts.check_profile as check_profile
use Rattle.needs.specs.contracts.check_feature as check_feature
use Rattle.needs.proofs.Singly.{Judged, judged_so}
use Rattle.capture.specs.contracts.check as capture_check
use Rattle.import.specs.contracts.import as import
use Rattle.sense.specs.Sense.{heard}
use Rattle.sense.specs.contracts.make as sense_make
use Rattle.sense.specs.contracts.read as sense_read
use Rattle.hex_text.specs.Text as hex
use Rattle.hex_text.specs.contracts.spell as hex_spell
use Rattle.demands.proofs.Spells.{Spells, spells}
use Rattle.demands.proofs.Sheets.{Checks, checks}
use Rattle.demands.proofs.Images.{Images, images, ImagesOnce, images_once}
use Rattle.demands.proofs.Sending.{Answers, demand2, Trusts, trusts, Serves, serves, Sizes, sizes, ServesSized, serves_sized}
use Rattle.demands.proofs.Readings.{Reads, reads, Scans, scans}
use Rattle.demands.proofs.Listings.{Lists, lists}
use Rattle.demands.proofs.Steps.{Starts, starts, Takes, takes}
use Rattle.demands.proofs.Sweeping.{Benches, benches}
use Rattle.demands.proofs.Checking.{Finds, finds}
use Rattle.needs.proofs.Promised.{Judges, judges, Tells, tells}
use Rattle.demands.proofs.Capturing.{Captures, captures}
use Rattle.demands.proofs.Importing.{Imports, imports}
use Rattle.demands.proofs.Converting.{Converts, converts}
use Rattle.demands.proofs.Senses.{Makes, makes_sense, Senses, senses}
use Rattle.demands.proofs.Named.{named}

-- ---- sheet

pub check_tied : Promised check.ended (λ M 𝓤 𝓛. check.clauses 𝓛) (λ M 𝓤 𝓛. check.spec 𝓛) (named (λ _ lay s r _ _. Checks (stored lay s.now) r))
check_tied x = promises x.𝓤 (λ o. by (Checks _) (checks _))

-- ---- convert

pub convert_tied : Promised convert.ended (λ M 𝓤 𝓛. convert.clauses 𝓛) (λ M 𝓤 𝓛. convert.spec 𝓛)
    (named (λ _ to lay s out r _ _ _ out'. Converts to (stored lay s.now) out.now (outcome r out')))
convert_tied x = promises x.𝓤 (λ o. by (Converts _ _ _) (converts _ _ _))

-- ---- load

pub load_tied : Promised load.ended (λ M 𝓤 𝓛. load.clauses 𝓛) (λ M 𝓤 𝓛. load.spec 𝓛)
    (named (λ _ lay s features profiles out r _ _ _ _ out'. Loads features.now profiles.now (stored lay s.now) out.now (outcome r out')))
load_tied x = promises x.𝓤 (λ o. by (Loads _ _ _ _) (loads_so _ _ _ _))

-- ---- responder

pub send_tied : Promised send.ended (λ M 𝓤 𝓛. send.clauses 𝓛) (λ M 𝓤 𝓛. send.spec 𝓛)
    (named (λ _ lay s rt sfn a out r _ _ _ _ _ out'. Serves (stored lay s.now) rt sfn.0 a out.now (outcome r out')))
send_tied x = promises x.𝓤 (λ o. by (Serves _ _ _ _ _) (serves _ _ _ _ _))

pub size_tied : Promised size.ended (λ M 𝓤 𝓛. size.clauses 𝓛) (λ M 𝓤 𝓛. size.spec 𝓛) (named (λ _ lay s rt sfn r _ _ _ _. Sizes (stored lay s.now) rt sfn.0 r))
size_tied x = promises x.𝓤 (λ o. by (Sizes _ _ _) (sizes _ _ _))

pub send_sized_tied : Promised send_sized.ended (λ M 𝓤 𝓛. send_sized.clauses 𝓛) (λ M 𝓤 𝓛. send_sized.spec 𝓛)
    (named (λ _ lay s rt sfn a from size out r _ _ _ _ _ _ _ out'. ServesSized (stored lay s.now) rt sfn.0 a from size out.now
    (outcome r out')))
send_sized_tied x = promises x.𝓤 (λ o. by (ServesSized _ _ _ _ _ _ _) (serves_sized _ _ _ _ _ _ _))

pub respond_accepted_tied : Promised respond_accepted.ended (λ M 𝓤 𝓛. respond_accepted.clauses 𝓛) (λ M 𝓤 𝓛. respond_accepted.spec 𝓛)
    (named (λ _ lay s command out r _ _ _ out'. Trusts (stored lay s.now) command.now out.now (outcome r out')))
respond_accepted_tied x = promises x.𝓤 (λ o. by (Trusts _ _ _) (trusts _ _ _))

pub respond_tied : Promised respond.ended (λ M 𝓤 𝓛. respond.clauses 𝓛) (λ M 𝓤 𝓛. respond.spec 𝓛)
    (named (λ _ lay s command out r _ _ _ out'. Answers (stored lay s.now) command.now out.now (outcome r out')))
respond_tied x = promises x.𝓤 (λ o. by (Answers _ _ _) (demand2 _ _ _))

-- ---- reading

pub scan_tied : Promised scan.ended (λ M 𝓤 𝓛. scan.clauses 𝓛) (λ M 𝓤 𝓛. scan.spec 𝓛)
    (named (λ _ limit rt sfn s r _ _ _ _. Scans limit rt sfn.0 s.now r))
scan_tied x = promises x.𝓤 (λ o. by (Scans _ _ _ _) (scans _ _ _ _))

pub read_tied : Promised read.ended (λ M 𝓤 𝓛. read.clauses 𝓛) (λ M 𝓤 𝓛. read.spec 𝓛) (named (λ _ rt sfn s r _ _ _. Reads 65534 rt sfn.0 s.now r))
read_tied x = promises x.𝓤 (λ o. by (Reads _ _ _ _) (reads _ _ _ _))

pub stands_tied : Promised stands.ended (λ M 𝓤 𝓛. stands.clauses 𝓛) (λ M 𝓤 𝓛. stands.spec 𝓛) (named (λ _ s at r _ _. Steps s.now at r))
stands_tied x = promises x.𝓤 (λ o. by (Steps _ _) (steps _ _))

pub stops_tied : Promised stops.ended (λ M 𝓤 𝓛. stops.clauses 𝓛) (λ M 𝓤 𝓛. stops.spec 𝓛)
    (named (λ _ limit rt sfn s r _ _ _ _. Stops limit rt sfn.0 s.now r.at r.feature.0))
stops_tied x = promises x.𝓤 (λ o. by (λ (t : Stop). Stops _ _ _ _ t.at t.feature.0) (stops_so _ _ _ _))

pub place_of_tied : Promised place_of.ended (λ M 𝓤 𝓛. place_of.clauses 𝓛) (λ M 𝓤 𝓛. place_of.spec 𝓛) (named (λ _ feature s r _ _. Stood feature.0 s.now r))
place_of_tied x = promises x.𝓤 (λ o. by (Stood _ _) (stood_so _ _))

pub held_tied : Promised held.ended (λ M 𝓤 𝓛. held.clauses 𝓛) (λ M 𝓤 𝓛. held.spec 𝓛) (named (λ _ feature fresh kept r _ _ _. Lies feature.0 fresh kept r))
held_tied = reading_promised.held_tied

-- ---- sweep

pub most_tied : Promised most.ended (λ M 𝓤 𝓛. most.clauses 𝓛) (λ M 𝓤 𝓛. most.spec 𝓛) (named (λ _ allocation r _. r ≡ min allocation 65534))
most_tied x = promises x.𝓤 (λ o e. e)

pub sweep_start_tied : Promised sweep_start.ended (λ M 𝓤 𝓛. sweep_start.clauses 𝓛) (λ M 𝓤 𝓛. sweep_start.spec 𝓛) (named (λ _ rt allocation r _ _. Starts rt allocation r))
sweep_start_tied x = promises x.𝓤 (λ o. by (Starts _ _) (starts _ _))

pub sweep_take_tied : Promised sweep_take.ended (λ M 𝓤 𝓛. sweep_take.clauses 𝓛) (λ M 𝓤 𝓛. sweep_take.spec 𝓛)
    (named (λ _ self response out r _ _ out'. Takes self response.now out.now (turn r out')))
sweep_take_tied x = promises x.𝓤 (λ o. by (Takes _ _ _) (takes _ _ _))

pub take_response_tied : Promised take_response.ended (λ M 𝓤 𝓛. take_response.clauses 𝓛) (λ M 𝓤 𝓛. take_response.spec 𝓛)
    (named (λ _ «record» response out r record' _ out'. Takes «record».now response.now out.now (turn (step r record') out')))
take_response_tied x = promises x.𝓤 (λ o. by (Takes _ _ _) (takes _ _ _))

-- ---- listing

pub list_tied : Promised list.ended (λ M 𝓤 𝓛. list.clauses 𝓛) (λ M 𝓤 𝓛. list.spec 𝓛) (named (λ _ s out r _ out'. Lists s.now out.now r out'))
list_tied x = promises x.𝓤 (λ o. lists)

-- ---- bench

pub bench_tied : Promised bench.ended (λ M 𝓤 𝓛. bench.clauses 𝓛) (λ M 𝓤 𝓛. bench.spec 𝓛)
    (named (λ _ lay s rt a response collected starts r _ _ _ _ response' collected' starts'. Benches (stored lay s.now) rt a (bench_specs.buffers response.now collected.now starts.now)
    (bench_specs.ending r (bench_specs.buffers response' collected' starts'))))
bench_tied x = promises x.𝓤 (λ o. by (Benches _ _ _ _) (benches _ _ _ _))

-- ---- checks

pub check_descriptors_tied : Promised check_descriptors.ended (λ M 𝓤 𝓛. check_descriptors.clauses 𝓛) (λ M 𝓤 𝓛. check_descriptors.spec 𝓛) (named (λ _ s r _. Finds s.now r))
check_descriptors_tied x = promises x.𝓤 (λ o. by (Finds _) (finds _))

-- of one descriptor, whatever the others are: the first rule that it breaks among any descriptors that have 0003h or not, as the call says
fault_breaks : (removable : Bool) (d : Desc) (r : Refusal) → r ≡ desc_fault removable d → (ds : List Desc) → reported 3 ds ≡ removable → Breaks ds d r.number
fault_breaks removable d r e ds q = subst (λ (k : Refusal). Breaks ds d k.number) (ap (λ (b : Bool). desc_fault b d) q ∙ sym e) (desc_breaks ds d)

pub fault_at_tied : Promised fault_at.ended (λ M 𝓤 𝓛. fault_at.clauses 𝓛) (λ M 𝓤 𝓛. fault_at.spec 𝓛)
    (named (λ _ removable s at r _ _ _. (ds : List Desc) → reported 3 ds ≡ removable → Breaks ds (desc_at s.now at) r.number))
fault_at_tied x = promises x.𝓤 (λ o e. fault_breaks _ _ _ e)

pub wrong_number_tied : Promised wrong_number_fn.ended (λ M 𝓤 𝓛. wrong_number_fn.clauses 𝓛) (λ M 𝓤 𝓛. wrong_number_fn.spec 𝓛) (named (λ _ self r _. Tells self r))
wrong_number_tied x = promises x.𝓤 (λ o. by (Tells _) (tells _))

pub check_profile_tied : Promised check_profile.ended (λ M 𝓤 𝓛. check_profile.clauses 𝓛) (λ M 𝓤 𝓛. check_profile.spec 𝓛) (named (λ _ profile s r _ _. Judges profile.0 s.now (said r)))
check_profile_tied x = promises x.𝓤 (λ o. by (Judges _ _) (judges _ _))

pub check_feature_tied : Promised check_feature.ended (λ M 𝓤 𝓛. check_feature.clauses 𝓛) (λ M 𝓤 𝓛. check_feature.spec 𝓛) (named (λ _ profile feature s r _ _ _. Judged profile.0 feature.0 s.now (said r)))
check_feature_tied x = promises x.𝓤 (λ o. by (Judged _ _ _) (judged_so _ _ _))

-- ---- capture and import

pub capture_check_tied : Promised capture_check.ended (λ M 𝓤 𝓛. capture_check.clauses 𝓛) (λ M 𝓤 𝓛. capture_check.spec 𝓛) (named (λ _ s r _. Captures s.now r))
capture_check_tied x = promises x.𝓤 (λ o. by (Captures _) (captures _))

pub import_tied : Promised import.ended (λ M 𝓤 𝓛. import.clauses 𝓛) (λ M 𝓤 𝓛. import.spec 𝓛) (named (λ _ response sheet r _ sheet'. Imports response.now sheet.now (outcome r sheet')))
import_tied x = promises x.𝓤 (λ o. by (Imports _ _) (imports _ _))

-- ---- rom

pub rom_respond_accepted_tied : Promised rom_respond_accepted.ended (λ M 𝓤 𝓛. rom_respond_accepted.clauses 𝓛) (λ M 𝓤 𝓛. rom_respond_accepted.spec 𝓛)
    (named (λ _ image command out r _ _ out'. ImagesOnce image.now command.now out.now (outcome r out')))
rom_respond_accepted_tied x = promises x.𝓤 (λ o. by (ImagesOnce _ _ _) (images_once _ _ _))

pub rom_respond_tied : Promised rom_respond.ended (λ M 𝓤 𝓛. rom_respond.clauses 𝓛) (λ M 𝓤 𝓛. rom_respond.spec 𝓛)
    (named (λ _ image command out r _ _ out'. Images image.now command.now out.now (outcome r out')))
rom_respond_tied x = promises x.𝓤 (λ o. by (Images _ _ _) (images _ _ _))

-- ---- sense

pub sense_make_tied : Promised sense_make.ended (λ M 𝓤 𝓛. sense_make.clauses 𝓛) (λ M 𝓤 𝓛. sense_make.spec 𝓛) (named (λ _ number out r _ out'. Makes number out.now (outcome r out')))
sense_make_tied x = promises x.𝓤 (λ o. by (Makes _ _) (makes_sense _ _))

pub sense_read_tied : Promised sense_read.ended (λ M 𝓤 𝓛. sense_read.clauses 𝓛) (λ M 𝓤 𝓛. sense_read.spec 𝓛) (named (λ _ s r _. Senses s.now (heard r)))
sense_read_tied x = promises x.𝓤 (λ o. by (Senses _) (senses _))

-- ---- hex

pub hex_spell_tied : Promised hex_spell.ended (λ M 𝓤 𝓛. hex_spell.clauses 𝓛) (λ M 𝓤 𝓛. hex_spell.spec 𝓛) (named (λ _ text out r _ out'. Spells text.now out.now (hex.outcome r out')))
hex_spell_tied x = promises x.𝓤 (λ o. by (Spells _ _) (spells _ _))
