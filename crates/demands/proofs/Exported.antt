-- The exported functions over their own contracts: what each leaves shows in told an outcome of which the demand's property holds, the one that
-- Tied.antt ties to the function behind it. Assumes nothing.
use mathlib.Core.Path.{◌≡◌}
use mathlib.Core.List.{List}
use Prim.Native.Nat.{ℕ, ◌<◌, min}
use lib.ListN.{length, take}
use Rattle.lent.specs.Wrote.{Wrote}
use Rattle.lent.proofs.Laws.{room_left}
use Rattle.layout.specs.Layout.{stored}
use Rattle.bench.specs.Bench as bench
use Rattle.sweep.specs.Sweep.{turn}
use Rattle.abi.specs.Left.{layout_of, left}
use Rattle.abi.specs.Left as abi
use Rattle.abi.specs.contracts.gcf_check_sheet as gcf_check_sheet
use Rattle.abi.specs.contracts.gcf_respond as gcf_respond
use Rattle.abi.specs.contracts.gcf_respond_accepted as gcf_respond_accepted
use Rattle.abi.specs.contracts.gcf_check_image as gcf_check_image
use Rattle.abi.specs.contracts.gcf_respond_image as gcf_respond_image
use Rattle.abi.specs.contracts.gcf_respond_image_accepted as gcf_respond_image_accepted
use Rattle.reading.specs.declared.Stop.{Stop}
use Rattle.reading.proofs.Stopped.{Stops, stops_so}
use Rattle.reading.proofs.Rest.{Stood, stood_so}
use Rattle.abi.specs.contracts.gcf_read as gcf_read
use Rattle.abi.specs.contracts.gcf_stops as gcf_stops
use Rattle.abi.specs.contracts.gcf_next as gcf_next
use Rattle.abi.specs.contracts.gcf_words as gcf_words
use Rattle.descriptor.proofs.Promised.{Steps, steps}
use Rattle.meanings.proofs.Promised.{Says, says_so}
use Rattle.meanings.specs.contracts.put_words as put_words
use Rattle.abi.specs.contracts.gcf_place as gcf_place
use Rattle.abi.specs.contracts.gcf_held as gcf_held
use Rattle.abi.specs.contracts.gcf_list as gcf_list
use Rattle.abi.specs.contracts.gcf_most as gcf_most
use Rattle.abi.specs.contracts.gcf_sweep_start as gcf_sweep_start
use Rattle.abi.specs.contracts.gcf_sweep_take as gcf_sweep_take
use Rattle.abi.specs.contracts.gcf_bench as gcf_bench
use Rattle.judge.proofs.Promised as judge
use Rattle.abi.specs.contracts.gcf_judge as gcf_judge
use Rattle.abi.specs.contracts.gcf_check_descriptors as gcf_check_descriptors
use Rattle.abi.specs.contracts.gcf_check_profile as gcf_check_profile
use Rattle.abi.specs.contracts.gcf_mend as gcf_mend
use Rattle.mend.proofs.Promised.{Mends, mends_so}
use Rattle.abi.specs.contracts.gcf_import as gcf_import
use Rattle.abi.specs.contracts.gcf_convert as gcf_convert
use Rattle.abi.specs.contracts.gcf_load as gcf_load
use Rattle.abi.specs.contracts.gcf_build_command as gcf_build_command
use Rattle.abi.specs.contracts.gcf_make_sense as gcf_make_sense
use Rattle.load.proofs.Promised.{Loads, loads_so}
use Rattle.command.proofs.Promised.{Builds, builds}
use Rattle.abi.specs.contracts.gcf_read_sense as gcf_read_sense
use Rattle.base.proofs.Promise.{Promised, promises, by, Shows, shows}
use Rattle.reading.proofs.Promised.{Holds, holds}
use Rattle.demands.proofs.Sheets.{Checks, checks}
use Rattle.demands.proofs.Images.{ChecksImage, checks_image, Images, images, ImagesOnce, images_once}
use Rattle.demands.proofs.Sending.{Answers, demand2, Trusts, trusts}
use Rattle.demands.proofs.Readings.{Reads, reads}
use Rattle.demands.proofs.Listings.{Lists, lists}
use Rattle.demands.proofs.Steps.{Starts, starts, Takes, takes}
use Rattle.demands.proofs.Sweeping.{Benches, benches}
use Rattle.demands.proofs.Checking.{Finds, finds}
use Rattle.needs.proofs.Promised.{Judges, judges}
use Rattle.demands.proofs.Importing.{Imports, imports}
use Rattle.demands.proofs.Converting.{Converts, converts}
use Rattle.demands.proofs.Senses.{Makes, makes_sense, Senses, senses}
use Rattle.demands.proofs.Named.{named}

-- ---- the box

pub gcf_check_sheet_tied : Promised gcf_check_sheet.ended (λ M 𝓤 𝓛. gcf_check_sheet.clauses 𝓛) (λ M 𝓤 𝓛. gcf_check_sheet.spec 𝓛)
    (named (λ _ columns sheet told r _ _ told'. Shows (Checks (stored (layout_of columns) sheet.now)) abi.show_verdict (left r tt told')))
gcf_check_sheet_tied x = promises x.𝓤 (λ o. shows _ (checks _))

pub gcf_respond_tied : Promised gcf_respond.ended (λ M 𝓤 𝓛. gcf_respond.clauses 𝓛) (λ M 𝓤 𝓛. gcf_respond.spec 𝓛)
    (named (λ _ columns sheet command response told r _ _ _ response' told'. Shows (Answers (stored (layout_of columns) sheet.now) command.now response.now) abi.show_made
    (left r response' told')))
gcf_respond_tied x = promises x.𝓤 (λ o. shows _ (demand2 _ _ _))

pub gcf_respond_accepted_tied : Promised gcf_respond_accepted.ended (λ M 𝓤 𝓛. gcf_respond_accepted.clauses 𝓛) (λ M 𝓤 𝓛. gcf_respond_accepted.spec 𝓛)
    (named (λ _ columns sheet command response told r _ _ _ response' told'. Shows (Trusts (stored (layout_of columns) sheet.now) command.now response.now) abi.show_made
    (left r response' told')))
gcf_respond_accepted_tied x = promises x.𝓤 (λ o. shows _ (trusts _ _ _))

pub gcf_check_image_tied : Promised gcf_check_image.ended (λ M 𝓤 𝓛. gcf_check_image.clauses 𝓛) (λ M 𝓤 𝓛. gcf_check_image.spec 𝓛)
    (named (λ _ image told r _ told'. Shows (ChecksImage image.now) abi.show_verdict (left r tt told')))
gcf_check_image_tied x = promises x.𝓤 (λ o. shows _ (checks_image _))

pub gcf_respond_image_tied : Promised gcf_respond_image.ended (λ M 𝓤 𝓛. gcf_respond_image.clauses 𝓛) (λ M 𝓤 𝓛. gcf_respond_image.spec 𝓛)
    (named (λ _ image command response told r _ _ response' told'. Shows (Images image.now command.now response.now) abi.show_made
    (left r response' told')))
gcf_respond_image_tied x = promises x.𝓤 (λ o. shows _ (images _ _ _))

pub gcf_respond_image_accepted_tied : Promised gcf_respond_image_accepted.ended (λ M 𝓤 𝓛. gcf_respond_image_accepted.clauses 𝓛) (λ M 𝓤 𝓛. gcf_respond_image_accepted.spec 𝓛)
    (named (λ _ image command response told r _ _ response' told'. Shows (ImagesOnce image.now command.now response.now) abi.show_made
    (left r response' told')))
gcf_respond_image_accepted_tied x = promises x.𝓤 (λ o. shows _ (images_once _ _ _))

-- ---- the driver

pub gcf_read_tied : Promised gcf_read.ended (λ M 𝓤 𝓛. gcf_read.clauses 𝓛) (λ M 𝓤 𝓛. gcf_read.spec 𝓛)
    (named (λ _ rt sfn response told r _ _ _ told'. Shows (Reads 65534 rt sfn.0 response.now) abi.show_read (left r tt told')))
gcf_read_tied x = promises x.𝓤 (λ o. shows _ (reads _ _ _ _))

pub gcf_stops_tied : Promised gcf_stops.ended (λ M 𝓤 𝓛. gcf_stops.clauses 𝓛) (λ M 𝓤 𝓛. gcf_stops.spec 𝓛)
    (named (λ _ most rt sfn response told _ _ _ _ _ told'. Shows (λ (t : Stop). Stops most rt sfn.0 response.now t.at t.feature.0) abi.show_stop told'))
gcf_stops_tied x = promises x.𝓤 (λ o. shows _ (stops_so _ _ _ _))

pub gcf_next_tied : Promised gcf_next.ended (λ M 𝓤 𝓛. gcf_next.clauses 𝓛) (λ M 𝓤 𝓛. gcf_next.spec 𝓛)
    (named (λ _ place response told r _ _ told'. Shows (Steps response.now place) abi.show_next (r, told')))
gcf_next_tied x = promises x.𝓤 (λ o. shows _ (steps _ _))

pub gcf_place_tied : Promised gcf_place.ended (λ M 𝓤 𝓛. gcf_place.clauses 𝓛) (λ M 𝓤 𝓛. gcf_place.spec 𝓛) (named (λ _ feature response r _ _. Stood feature.0 response.now r))
gcf_place_tied x = promises x.𝓤 (λ o. by (Stood _ _) (stood_so _ _))

-- A part of which P holds stands in the buffer e, which was d, as far as there is room; where the count r is below the buffer's length, it is whole.
pub record Copies (P : List ℕ → Type 0) (d : List ℕ) (r : ℕ) (e : List ℕ) : Type 0 where
  pub part : List ℕ
  pub fine : P part
  pub wrote : Wrote d 0 part r e
  pub whole : r < length d → (r ≡ length part) × P (take r e)

copies : {P : List ℕ → Type 0} {d : List ℕ} {r : ℕ} {e : List ℕ} (part : List ℕ) → P part → Wrote d 0 part r e → Copies P d r e
copies {P} part p w = record { part = part; fine = p; wrote = w; whole = λ h. ((room_left w h).0, by P p (room_left w h).1) }

pub gcf_held_tied : Promised gcf_held.ended (λ M 𝓤 𝓛. gcf_held.clauses 𝓛) (λ M 𝓤 𝓛. gcf_held.spec 𝓛)
    (named (λ _ feature fresh kept descriptor r _ _ _ descriptor'. Copies (Holds feature.0 fresh.now kept.now) descriptor.now r descriptor'))
gcf_held_tied x = promises x.𝓤 (λ o. copies _ (holds _ _ _))

pub put_words_tied : Promised put_words.ended (λ M 𝓤 𝓛. put_words.clauses 𝓛) (λ M 𝓤 𝓛. put_words.spec 𝓛) (named (λ _ number out r _ out'. Copies (Says number) out.now r out'))
put_words_tied x = promises x.𝓤 (λ o. copies _ (says_so _))

pub gcf_words_tied : Promised gcf_words.ended (λ M 𝓤 𝓛. gcf_words.clauses 𝓛) (λ M 𝓤 𝓛. gcf_words.spec 𝓛) (named (λ _ number text r _ text'. Copies (Says number) text.now r text'))
gcf_words_tied x = promises x.𝓤 (λ o. copies _ (says_so _))

pub gcf_list_tied : Promised gcf_list.ended (λ M 𝓤 𝓛. gcf_list.clauses 𝓛) (λ M 𝓤 𝓛. gcf_list.spec 𝓛) (named (λ _ response text r _ text'. Lists response.now text.now r text'))
gcf_list_tied x = promises x.𝓤 (λ o. lists)

-- ---- the sweep

pub gcf_most_tied : Promised gcf_most.ended (λ M 𝓤 𝓛. gcf_most.clauses 𝓛) (λ M 𝓤 𝓛. gcf_most.spec 𝓛) (named (λ _ allocation r _. r ≡ min allocation 65534))
gcf_most_tied x = promises x.𝓤 (λ o e. e)

pub gcf_sweep_start_tied : Promised gcf_sweep_start.ended (λ M 𝓤 𝓛. gcf_sweep_start.clauses 𝓛) (λ M 𝓤 𝓛. gcf_sweep_start.spec 𝓛)
    (named (λ _ rt allocation r _ _. Starts rt allocation r))
gcf_sweep_start_tied x = promises x.𝓤 (λ o. by (Starts _ _) (starts _ _))

pub gcf_sweep_take_tied : Promised gcf_sweep_take.ended (λ M 𝓤 𝓛. gcf_sweep_take.clauses 𝓛) (λ M 𝓤 𝓛. gcf_sweep_take.spec 𝓛)
    (named (λ _ sweep response out r _ _ out'. Takes sweep response.now out.now (turn r out')))
gcf_sweep_take_tied x = promises x.𝓤 (λ o. by (Takes _ _ _) (takes _ _ _))

pub gcf_bench_tied : Promised gcf_bench.ended (λ M 𝓤 𝓛. gcf_bench.clauses 𝓛) (λ M 𝓤 𝓛. gcf_bench.spec 𝓛)
    (named (λ _ columns sheet rt allocation response collected starts told r _ _ _ _ response' collected' starts' told'. Shows
    (Benches (stored (layout_of columns) sheet.now) rt allocation (bench.buffers response.now collected.now starts.now))
    abi.show_benched
    (left r (bench.buffers response' collected' starts') told')))
gcf_bench_tied x = promises x.𝓤 (λ o. shows _ (benches _ _ _ _))

pub gcf_judge_tied : Promised gcf_judge.ended (λ M 𝓤 𝓛. gcf_judge.clauses 𝓛) (λ M 𝓤 𝓛. gcf_judge.spec 𝓛)
    (named (λ _ columns sheet command response due told r _ _ _ _ due' told'. Shows (judge.Judges (stored (layout_of columns) sheet.now) command.now response.now due.now) abi.show_judgement
    (left r due' told')))
gcf_judge_tied x = promises x.𝓤 (λ o. shows _ (judge.judges _ _ _ _))

-- ---- the checks and the import

pub gcf_check_descriptors_tied : Promised gcf_check_descriptors.ended (λ M 𝓤 𝓛. gcf_check_descriptors.clauses 𝓛) (λ M 𝓤 𝓛. gcf_check_descriptors.spec 𝓛)
    (named (λ _ response told r _ told'. Shows (Finds response.now) abi.show_finding (left r tt told')))
gcf_check_descriptors_tied x = promises x.𝓤 (λ o. shows _ (finds _))

pub gcf_check_profile_tied : Promised gcf_check_profile.ended (λ M 𝓤 𝓛. gcf_check_profile.clauses 𝓛) (λ M 𝓤 𝓛. gcf_check_profile.spec 𝓛)
    (named (λ _ profile response told r _ _ told'. Shows (Judges profile.0 response.now) abi.show_judged (left r tt told')))
gcf_check_profile_tied x = promises x.𝓤 (λ o. shows _ (judges _ _))

pub gcf_mend_tied : Promised gcf_mend.ended (λ M 𝓤 𝓛. gcf_mend.clauses 𝓛) (λ M 𝓤 𝓛. gcf_mend.spec 𝓛)
    (named (λ _ response copy changes told r _ copy' changes' told'. Shows (Mends response.now copy.now changes.now) abi.show_mended (left r (copy', changes') told')))
gcf_mend_tied x = promises x.𝓤 (λ o. shows _ (mends_so _ _ _))

pub gcf_import_tied : Promised gcf_import.ended (λ M 𝓤 𝓛. gcf_import.clauses 𝓛) (λ M 𝓤 𝓛. gcf_import.spec 𝓛)
    (named (λ _ response sheet told r _ sheet' told'. Shows (Imports response.now sheet.now) abi.show_made (left r sheet' told')))
gcf_import_tied x = promises x.𝓤 (λ o. shows _ (imports _ _))

pub gcf_convert_tied : Promised gcf_convert.ended (λ M 𝓤 𝓛. gcf_convert.clauses 𝓛) (λ M 𝓤 𝓛. gcf_convert.spec 𝓛)
    (named (λ _ columns sheet to out told r _ _ _ out' told'. Shows (Converts (layout_of to) (stored (layout_of columns) sheet.now) out.now) abi.show_made (left r out' told')))
gcf_convert_tied x = promises x.𝓤 (λ o. shows _ (converts _ _ _))

-- ---- loading

pub gcf_load_tied : Promised gcf_load.ended (λ M 𝓤 𝓛. gcf_load.clauses 𝓛) (λ M 𝓤 𝓛. gcf_load.spec 𝓛)
    (named (λ _ columns sheet features profiles loaded told r _ _ _ _ loaded' told'. Shows (Loads features.now profiles.now (stored (layout_of columns) sheet.now) loaded.now) abi.show_made (left r loaded' told')))
gcf_load_tied x = promises x.𝓤 (λ o. shows _ (loads_so _ _ _ _))

-- ---- a command

pub gcf_build_command_tied : Promised gcf_build_command.ended (λ M 𝓤 𝓛. gcf_build_command.clauses 𝓛) (λ M 𝓤 𝓛. gcf_build_command.spec 𝓛)
    (named (λ _ length rt sfn allocation command told r _ _ _ _ command' told'. Shows (Builds length rt sfn.0 allocation command.now) abi.show_made (left r command' told')))
gcf_build_command_tied x = promises x.𝓤 (λ o. shows _ (builds _ _ _ _ _))

-- ---- sense

pub gcf_make_sense_tied : Promised gcf_make_sense.ended (λ M 𝓤 𝓛. gcf_make_sense.clauses 𝓛) (λ M 𝓤 𝓛. gcf_make_sense.spec 𝓛)
    (named (λ _ number sense told r _ sense' told'. Shows (Makes number sense.now) abi.show_made (left r sense' told')))
gcf_make_sense_tied x = promises x.𝓤 (λ o. shows _ (makes_sense _ _))

pub gcf_read_sense_tied : Promised gcf_read_sense.ended (λ M 𝓤 𝓛. gcf_read_sense.clauses 𝓛) (λ M 𝓤 𝓛. gcf_read_sense.spec 𝓛)
    (named (λ _ sense told r _ told'. Shows (Senses sense.now) abi.show_sensed (left r tt told')))
gcf_read_sense_tied x = promises x.𝓤 (λ o. shows _ (senses _))
