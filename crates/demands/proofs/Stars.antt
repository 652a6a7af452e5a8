-- The starred lines of the paper: one table, one theorem. Assumes nothing.
use mathlib.Core.Path.{◌≡◌, refl}
use Rattle.base.specs.Lists.{each, flat, keep, All}
use Rattle.fields.specs.Field.{field, spell}
use Rattle.refusal.specs.First.{◌if◌else◌, pick_zero, ◌or_else◌, first_of, unless, placed}
use Rattle.text.specs.Flags as flags
use Rattle.command.specs.Command.{opcode_of, rt_of, sfn_of, allocation_of, command_fault, command_length, command_bytes, packet}
use Rattle.text.specs.Drive.{profile_bytes}
use Rattle.text.specs.Response.{bytes, feature0, all, wants, selected, current_profile, header, data_length, full, sent}
use Rattle.layout.specs.Layout as layout
use Rattle.profiles.specs.Profiles as profiles
use Rattle.sheet.specs.Check.{number_before, end_before_entry, flags_rule, entry_rule, entry_fault, counted, verdict}
use Rattle.sheet.specs.Meaning.{desc, meaning}
use Rattle.lent.specs.Maker.{refusing, making, makes}
use Rattle.responder.specs.Answer.{answered}
use Rattle.demands.specs.Recorder.{sheet_e, sheet_e', command}
use Rattle.text.specs.Reading as text
use Rattle.sweep.specs.Sweep as sweep
use Rattle.bench.specs.Bench as bench
use Rattle.reading.specs.Completed as completed
use Rattle.base.specs.Pick as pick
use Rattle.needs.specs.Required as required
use Rattle.needs.specs.Judge as judge
use Rattle.demands.specs.Star.{Star, shown, asked, swept_numbers, swept, judged_numbers, stars}

-- a definition gives what the paper says
abbrev pub Holds : Star → Type 0
Holds r = r.gives ≡ r.paper

pub starred : All Holds stars
unfolding each flat keep field spell ◌if◌else◌ pick_zero ◌or_else◌ first_of placed opcode_of rt_of sfn_of allocation_of command_fault command_length profile_bytes bytes feature0 all wants selected current_profile header data_length full sent layout.features layout.profiles layout.number_place layout.flags_place layout.length_place layout.offset_place layout.number layout.flags layout.body_length layout.offset layout.profiles_in profiles.profile_number profiles.profile_current profiles.profile_last profiles.listed profiles.profiles_of profiles.lists profiles.record_rule profiles.record_fault profiles.records_fault number_before end_before_entry flags_rule flags.flags_giving entry_rule entry_fault counted verdict desc meaning unless refusing making makes answered sheet_e sheet_e' command command_bytes packet shown asked swept_numbers swept judged_numbers stars text.stated_length text.stated_profile text.header_rule text.head_rule text.number_at text.flags_at text.length_at text.desc_at text.head_fault text.walk text.walked text.read_fault text.last_number sweep.start_rule sweep.fresh sweep.started sweep.cut sweep.wholes_of sweep.changed sweep.take_fault sweep.ends_sweep sweep.held_profile sweep.advanced sweep.ended_now sweep.left_by sweep.taking sweep.stepped bench.zeros bench.failing bench.succeeding bench.filled bench.round_fault bench.rounded bench.rounds bench.first_fault bench.benched text.wholes completed.complete_fault pick.pick required.columns required.column_of required.has_table required.required required.marked judge.is_too_long judge.line_wrong judge.desc_wrong judge.line_of judge.desc_of judge.wrong_of judge.wrong_in judge.lowest_from judge.lowest_in judge.lowest judge.judge_fault judge.judged
starred = (refl, (refl, (refl, (refl, (refl, (refl, (refl, (refl, (refl, (refl, (refl, (refl, tt))))))))))))
