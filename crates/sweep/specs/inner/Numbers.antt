-- A step in the numbers of a scan. Assumes nothing: these are definitions.
use Rattle.std.specs.Prelude.{Bool, ℕ, ◌+◌, ◌-◌, ltb, eqb}
use Rattle.refusal.specs.declared.Refusal.{Refusal}
use Rattle.text.specs.Response.{header_length, most}
use Rattle.refusal.specs.First.{refuse, accept, ◌if◌else◌, ◌or_else◌}
use Rattle.reading.specs.declared.Scanned.{Scanned}
use Rattle.sweep.specs.declared.Sweep.{Sweep}
use Rattle.sweep.specs.Sweep.{start_rule}

-- 21, 22, 26: what a record refuses whatever the response
unfoldable pub closed_rule : Sweep → Refusal
closed_rule w =
    start_rule w.rt w.allocation or_else
    refuse 26 if w.ended else
    refuse 26 if ltb 65535 w.commands else
    accept

-- 28: a cut response of so many bytes
unfoldable pub short_rule : (complete : Bool) (received most : ℕ) → Refusal
short_rule complete received most =
    accept if complete else
    refuse 28 if ltb received most else
    accept

-- 45: with so many commands so far, another profile than the one that is held
unfoldable pub profile_rule : (commands held profile : ℕ) → Refusal
profile_rule commands held profile =
    accept if eqb commands 0 else
    accept if eqb profile held else
    refuse 45

-- 23, 27: a cut response with so many whole descriptors, the last numbered last
unfoldable pub cut_rule : (complete : Bool) (count last : ℕ) → Refusal
cut_rule complete count last =
    accept if complete else
    refuse 23 if eqb count 0 else
    refuse 27 if eqb last 65535 else
    accept

-- 24: no room for size bytes behind those collected
unfoldable pub space_rule : (collected size room : ℕ) → Refusal
space_rule collected size room = refuse 24 if ltb room (collected + size) else accept

-- what an open record refuses of a scan: the reading's, then 28, 45, 23, 27, 24
unfoldable pub scan_rule : Sweep → Scanned → (received room : ℕ) → Refusal
scan_rule w x received room =
    x.reading.refusal or_else
    short_rule x.reading.complete received (most w.allocation) or_else
    profile_rule w.commands w.profile.0 x.reading.profile.0 or_else
    cut_rule x.reading.complete x.reading.count x.last.0 or_else
    space_rule w.collected (x.reading.end - header_length) room
