-- No sweep is shorter (request 12): "Under demand 3's premises show that no list of starting numbers, used with the same RT and the same allocation length
-- on the same sheet, receives every wanted descriptor whole in fewer commands." What a list receives, the least count and what is said of a sweep
-- are in crates/bench/specs/Fewest.antt; `benched` is the contract of `bench::bench`. Assumes nothing.
use mathlib.Core.Path.{◌≡◌, refl}
use mathlib.Core.List.{List, map}
use Prim.Native.Nat.{ℕ, ◌≤◌, ◌<◌}
use native.Mathlib.Omega.{arith}
use Rattle.base.specs.Lists.{each, flat, keep, Bytes}
use Rattle.base.proofs.Promise.{Promised, promises, by}
use Rattle.fields.specs.Field.{field, spell}
use Rattle.text.specs.Drive.{Desc, profile_bytes}
use Rattle.text.specs.Response.{feature0, all, wants, selected}
use Rattle.text.specs.Packing.{size}
use Rattle.layout.specs.Layout as layout
use Rattle.profiles.specs.Profiles as profiles
use Rattle.layout.specs.Layout.{Sheet, stored}
use Rattle.sheet.specs.Check.{Accepted}
use Rattle.sheet.specs.Meaning.{desc, meaning}
use Rattle.sheet.proofs.Meaning.{meaning_fine}
use Rattle.bench.specs.Bench.{Buffers, buffers, ending, benched}
use Rattle.bench.specs.Swept.{room, Premises}
use Rattle.bench.specs.Fewest.{ReceivedBy, ReceivesAll, fewest_from, fewest, Fewest}
use Rattle.bench.proofs.Fewest as bench_fewest
use Rattle.bench.specs.contracts.bench as bench
use Rattle.demands.specs.Recorder.{sheet_e}
use Rattle.demands.proofs.Sweeping.{demand3, bytes_e, accepted_e}
use Rattle.demands.proofs.Named.{named}

pub no_shorter : (s : Sheet) (rt a : ℕ) (b : Buffers) → Bytes s.bytes → Accepted s → Premises (meaning s) rt a b
    → Fewest (meaning s) rt a (benched s rt a b)
no_shorter s rt a b w ok p = bench_fewest.fewest_commands (meaning_fine s w ok).sound rt a p.kind p.eight p (demand3 s rt a b w ok p)

-- The same of every outcome that the contract of `bench::bench` allows.
pub bench_no_shorter : Promised bench.ended (λ M 𝓤 𝓛. bench.clauses 𝓛) (λ M 𝓤 𝓛. bench.spec 𝓛)
    (named (λ _ lay s rt a response collected starts r _ _ _ _ response' collected' starts'. Bytes s.now → Accepted (stored lay s.now)
    → Premises (meaning (stored lay s.now)) rt a (buffers response.now collected.now starts.now)
    → Fewest (meaning (stored lay s.now)) rt a (ending r (buffers response' collected' starts'))))
bench_no_shorter x = promises x.𝓤 (λ o e w ok p. by (Fewest _ _ _) (no_shorter _ _ _ _ w ok p) e)

-- ---- that the premises matter

-- A descriptor of more than C - 8 bytes is received by no list of starts at all.
pub too_long : (s : Sheet) (rt a : ℕ) → Bytes s.bytes → Accepted s → rt < 2 → 8 ≤ a
    → (d : Desc) → room a < size d → (starts : List ℕ) → ReceivedBy (meaning s) rt a starts d → ⊥
too_long s rt a w ok two eight = bench_fewest.too_long (meaning_fine s w ok).sound rt a two eight

-- So with sheet E and allocation length 19: 0000h has 12 bytes, and C - 8 is 11.
pub none_for_e : (starts : List ℕ) → ReceivesAll (meaning sheet_e) 0 19 starts → ⊥
unfolding each flat keep field spell profile_bytes feature0 all wants selected layout.features layout.profiles layout.number_place layout.flags_place layout.length_place layout.offset_place layout.number layout.flags layout.body_length layout.offset layout.profiles_in profiles.profile_number profiles.profile_current profiles.listed profiles.profiles_of desc meaning sheet_e
none_for_e starts c = too_long sheet_e 0 19 bytes_e accepted_e (omega arith) (omega arith) (feature0 (meaning sheet_e).profiles) (omega arith) starts c.0

-- The manual's counts for sheet E: with allocation length 20 four commands, with 28 and 43 two, with 44 one.
pub fewest_e : (fewest (room 20) (map size (selected 0 0 (meaning sheet_e))) ≡ 4)
    × (fewest (room 28) (map size (selected 0 0 (meaning sheet_e))) ≡ 2)
    × (fewest (room 43) (map size (selected 0 0 (meaning sheet_e))) ≡ 2)
    × (fewest (room 44) (map size (selected 0 0 (meaning sheet_e))) ≡ 1)
unfolding fewest_from each flat keep field spell profile_bytes feature0 all wants selected layout.features layout.profiles layout.number_place layout.flags_place layout.length_place layout.offset_place layout.number layout.flags layout.body_length layout.offset layout.profiles_in profiles.profile_number profiles.profile_current profiles.listed profiles.profiles_of desc meaning sheet_e
fewest_e = (refl, refl, refl, refl)
