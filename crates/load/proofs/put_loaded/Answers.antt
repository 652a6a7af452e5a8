-- `load::put_loaded` meets its contract: a copy, and two walks that set bytes in it.
use Rattle.layout.specs.Layout.{stored}
use Rattle.load.proofs.Put.{copied, set_room, put_all}
use Rattle.load.proofs.put_loaded.Goals as goal

pub set_profiles-requires : goal.set_profiles-requires
set_profiles-requires c = let g = c in
    let w = g in
    let a = w.args in
    set_room a.features.now (stored a.lay a.s.now) w.requires.0 w.feature_count-n.ensures (copied w.requires.1 w.place.ensures) g.set_features.ensures
    c.profiles_behind.ensures c.profiles_part.ensures.holds

pub returns : goal.returns
returns c = let g = c in
    let w = g in
    let a = w.args in
    put_all a.features.now a.profiles.now (stored a.lay a.s.now) w.feature_count-n.ensures (copied w.requires.1 w.place.ensures) g.set_features.ensures
    c.profiles_behind.ensures c.profiles_part.ensures.holds c.set_profiles.ensures
