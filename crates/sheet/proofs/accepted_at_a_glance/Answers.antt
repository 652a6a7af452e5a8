-- `sheet::accepted_at_a_glance` meets its contract.
use mathlib.Core.Path.{refl, sym, ◌∙◌}
use borrow.Author.Rules.{rules}
use Rattle.refusal.proofs.First.{tests}
use mathlib.Core.Bool.{true, false}
use Rattle.sheet.specs.inner.Glance.{glanced}
use Rattle.sheet.proofs.Glance.{glanced_columns}
use Rattle.sheet.proofs.accepted_at_a_glance.Goals as goal

pub returns-then-n-lt32 : goal.returns-then-n-lt32
unfolding glanced
returns-then-n-lt32 c = search tests

pub enum_told-1 : goal.enum_told-1
unfolding glanced
enum_told-1 c = search rules

pub enum_told-in-Columns : goal.enum_told-in-Columns
unfolding glanced
enum_told-in-Columns c = search rules

pub all_sound-requires : goal.all_sound-requires
unfolding glanced
all_sound-requires c = search rules

pub returns-then-not-all_sound : goal.returns-then-not-all_sound
returns-then-not-all_sound c = glanced_columns _ _ _ false _ c.in-Columns.is c.if-n-lt32.false (sym (c.if-not-all_sound.true) ∙ c.all_sound.ensures) refl

pub all_follow-requires : goal.all_follow-requires
unfolding glanced
all_follow-requires c = search rules

pub returns-in-Rows : goal.returns-in-Rows
unfolding glanced
returns-in-Rows c = rw c.in-Rows.is (search tests)

pub returns-else-not-all_sound : goal.returns-else-not-all_sound
returns-else-not-all_sound c = glanced_columns _ _ _ true _ c.in-Columns.is c.if-n-lt32.false (sym (c.if-not-all_sound.false) ∙ c.all_sound.ensures) c.all_follow.ensures
