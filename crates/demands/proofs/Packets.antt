-- Request 14: "Accept 10 or 12, ignore the pads, and show once over the length that the answer depends only on bytes 0 to 8. Give the driver a builder of either
-- length from RT, SFN and allocation length, all other bits 0, whose commands the box understands as exactly those three." `built` is the contract of
-- `Command::build`. Assumes nothing.
use mathlib.Core.Path.{◌≡◌, sym, ap, ◌∙◌}
use mathlib.Core.List.{List}
use Prim.Native.Nat.{ℕ, ◌≤◌, ◌<◌}
use lib.ListN.{take}
use Rattle.base.specs.Lists.{Bytes}
use Rattle.base.proofs.Promise.{Promised, promises, by, both, all_three, Twice}
use Rattle.refusal.specs.declared.Refusal.{Refusal}
use Rattle.refusal.specs.First.{accept, unless, ◌or_else◌}
use Rattle.lent.specs.declared.Made.{Made}
use Rattle.lent.specs.Maker as maker
use Rattle.text.specs.declared.Reading.{Reading}
use Rattle.text.specs.Response.{sent}
use Rattle.command.specs.declared.Command.{Command}
use Rattle.command.specs.Command.{rt_of, sfn_of, allocation_of, command_fault, command_of, SameAsked}
use Rattle.command.proofs.Same.{same_rt, same_sfn, same_allocation, same_fault}
use Rattle.command.proofs.Promised.{Commands, commands, Understood, understood, Builds, builds}
use Rattle.command.specs.contracts.Command.fault as command_fault_fn
use Rattle.command.specs.contracts.Command.read as command_read
use Rattle.command.specs.contracts.Command.build as command_build
use Rattle.layout.specs.Layout.{Sheet, stored}
use Rattle.sheet.specs.Check.{verdict}
use Rattle.sheet.specs.Meaning.{meaning}
use Rattle.responder.specs.Answer.{answered}
use Rattle.responder.specs.Trusting.{trusting, trusting_command}
use Rattle.responder.specs.contracts.respond as respond
use Rattle.responder.specs.contracts.respond_accepted as respond_accepted
use Rattle.reading.specs.Places.{descs}
use Rattle.reading.specs.contracts.read as read
use Rattle.capture.specs.Capture.{captured, capture_fault}
use Rattle.rom.specs.Rom.{image_answered}
use Rattle.rom.specs.Image.{image_requested, image_commanded}
use Rattle.rom.specs.contracts.respond as rom_respond
use Rattle.rom.specs.contracts.respond_accepted as rom_respond_accepted
use Rattle.abi.specs.Left.{layout_of, Left, left, show_made}
use Rattle.abi.specs.contracts.gcf_respond as gcf_respond
use Rattle.abi.specs.contracts.gcf_respond_accepted as gcf_respond_accepted
use Rattle.abi.specs.contracts.gcf_respond_image as gcf_respond_image
use Rattle.abi.specs.contracts.gcf_respond_image_accepted as gcf_respond_image_accepted
use Rattle.demands.proofs.Sending.{Answers, demand2}
use Rattle.demands.proofs.Readings.{ReadBack, Reads, reads}
use Rattle.demands.proofs.EndToEnd.{read_back}
use Rattle.demands.proofs.Named.{named, saying, Both, AllThree}

-- ---- bytes 0 to 8 alone count, whichever of the two lengths a command has

-- whatever f makes of its refusal, RT, Starting Feature Number and allocation length
same_asked : {A : Type 0} {c e : List ℕ} → SameAsked c e → (f : Refusal → (rt sfn a : ℕ) → A)
    → f (command_fault c) (rt_of c) (sfn_of c) (allocation_of c) ≡ f (command_fault e) (rt_of e) (sfn_of e) (allocation_of e)
same_asked {c = c} {e = e} same f = rw (same_fault c e same, same_rt c e same, same_sfn c e same, same_allocation c e same)

module _ {c e : List ℕ} (same : SameAsked c e) where
  same_answered : (s : Sheet) (d : List ℕ) → answered s c d ≡ answered s e d
  unfolding answered
  same_answered s d = same_asked same (λ r rt sfn a. maker.makes (verdict s or_else r) 12 (sent rt sfn a (meaning s)) d)

  same_trusted : (s : Sheet) (d : List ℕ) → trusting_command s c d ≡ trusting_command s e d
  unfolding trusting_command
  same_trusted s d = same_asked same (λ r rt sfn a. unless r (maker.refusing d) (trusting s rt sfn a d))

  same_image : (i d : List ℕ) → image_answered i c d ≡ image_answered i e d
  unfolding image_answered
  same_image i d = same_asked same (λ r rt sfn a. maker.makes (capture_fault i or_else r) 12 (sent rt sfn a (captured (descs i))) d)

  same_image_accepted : (i d : List ℕ) → image_commanded i c d ≡ image_commanded i e d
  unfolding image_commanded
  same_image_accepted i d = same_asked same (λ r rt sfn a. unless r (maker.refusing d) (image_requested i rt sfn a d))

-- Two calls of an engine that answers from s, with the commands c and c' and the buffers d and d', which leave o and o': where the commands have the same bytes 0 to 8, each 10
-- bytes or 12 long, and all else is the same, the same is left: number, place, count, and every byte.
abbrev Alike : {S L : Type 0} (s s' : S) (c c' d d' : List ℕ) (o o' : L) → Type 0
Alike s s' c c' d d' o o' = s ≡ s' → SameAsked c c' → d ≡ d' → o ≡ o'

alike : {S L : Type 0} {s s' : S} {c c' d d' : List ℕ} {o o' : L} (f : S → List ℕ → List ℕ → L) → (SameAsked c c' → f s' c d' ≡ f s' c' d') → o ≡ f s c d → o' ≡ f s' c' d' → Alike s s' c c' d d' o o'
alike {c = c} f same e e' is-s is_c is-d = e ∙ rw (is-s, is-d) (same is_c) ∙ sym e'

-- the sheet engine, in either layout, and its unchecked entry
pub respond_alike : Twice respond.ended (λ M 𝓤 𝓛. respond.clauses 𝓛)
    (λ x o y p. saying x o (λ _ lay s command out r _ _ _ out'. saying y p (λ _ lay₂ s₂ command₂ out₂ r₂ _ _ _ out₂'.
    Alike (stored lay s.now) (stored lay₂ s₂.now) command.now command₂.now out.now out₂.now (maker.outcome r out') (maker.outcome r₂ out₂'))))
respond_alike x κs args g o p = both x.𝓤 (alike answered (λ same. same_answered same _ _))

pub respond_accepted_alike : Twice respond_accepted.ended (λ M 𝓤 𝓛. respond_accepted.clauses 𝓛)
    (λ x o y p. saying x o (λ _ lay s command out r _ _ _ out'. saying y p (λ _ lay₂ s₂ command₂ out₂ r₂ _ _ _ out₂'.
    Alike (stored lay s.now) (stored lay₂ s₂.now) command.now command₂.now out.now out₂.now (maker.outcome r out') (maker.outcome r₂ out₂'))))
respond_accepted_alike x κs args g o p = both x.𝓤 (alike trusting_command (λ same. same_trusted same _ _))

-- the image engine, and its unchecked entry
pub rom_respond_alike : Twice rom_respond.ended (λ M 𝓤 𝓛. rom_respond.clauses 𝓛)
    (λ x o y p. saying x o (λ _ image command out r _ _ out'. saying y p (λ _ image₂ command₂ out₂ r₂ _ _ out₂'.
    Alike image.now image₂.now command.now command₂.now out.now out₂.now (maker.outcome r out') (maker.outcome r₂ out₂'))))
rom_respond_alike x κs args g o p = both x.𝓤 (alike image_answered (λ same. same_image same _ _))

pub rom_respond_accepted_alike : Twice rom_respond_accepted.ended (λ M 𝓤 𝓛. rom_respond_accepted.clauses 𝓛)
    (λ x o y p. saying x o (λ _ image command out r _ _ out'. saying y p (λ _ image₂ command₂ out₂ r₂ _ _ out₂'.
    Alike image.now image₂.now command.now command₂.now out.now out₂.now (maker.outcome r out') (maker.outcome r₂ out₂'))))
rom_respond_accepted_alike x κs args g o p = both x.𝓤 (alike image_commanded (λ same. same_image_accepted same _ _))

-- the same of the exported functions, with what they tell
told_alike : {S : Type 0} {s s' : S} {c c' d d' : List ℕ} {o o' : Left (List ℕ)} (f : S → List ℕ → List ℕ → maker.Outcome) → (SameAsked c c' → f s' c d' ≡ f s' c' d')
    → o ≡ show_made (f s c d) → o' ≡ show_made (f s' c' d') → Alike s s' c c' d d' o o'
told_alike f same e e' is-s is_c is-d = e ∙ rw (is-s, is-d) (ap show_made (same is_c)) ∙ sym e'

pub gcf_respond_alike : Twice gcf_respond.ended (λ M 𝓤 𝓛. gcf_respond.clauses 𝓛)
    (λ x o y p. saying x o (λ _ columns sheet command response told r _ _ _ response' told'. saying y p (λ _ columns₂ sheet₂ command₂ response₂ told₂ r₂ _ _ _ response₂' told₂'.
    Alike (stored (layout_of columns) sheet.now) (stored (layout_of columns₂) sheet₂.now) command.now command₂.now response.now response₂.now (left r response' told') (left r₂ response₂' told₂'))))
gcf_respond_alike x κs args g o p = both x.𝓤 (told_alike answered (λ same. same_answered same _ _))

pub gcf_respond_accepted_alike : Twice gcf_respond_accepted.ended (λ M 𝓤 𝓛. gcf_respond_accepted.clauses 𝓛)
    (λ x o y p. saying x o (λ _ columns sheet command response told r _ _ _ response' told'. saying y p (λ _ columns₂ sheet₂ command₂ response₂ told₂ r₂ _ _ _ response₂' told₂'.
    Alike (stored (layout_of columns) sheet.now) (stored (layout_of columns₂) sheet₂.now) command.now command₂.now response.now response₂.now (left r response' told') (left r₂ response₂' told₂'))))
gcf_respond_accepted_alike x κs args g o p = both x.𝓤 (told_alike trusting_command (λ same. same_trusted same _ _))

pub gcf_respond_image_alike : Twice gcf_respond_image.ended (λ M 𝓤 𝓛. gcf_respond_image.clauses 𝓛)
    (λ x o y p. saying x o (λ _ image command response told r _ _ response' told'. saying y p (λ _ image₂ command₂ response₂ told₂ r₂ _ _ response₂' told₂'.
    Alike image.now image₂.now command.now command₂.now response.now response₂.now (left r response' told') (left r₂ response₂' told₂'))))
gcf_respond_image_alike x κs args g o p = both x.𝓤 (told_alike image_answered (λ same. same_image same _ _))

pub gcf_respond_image_accepted_alike : Twice gcf_respond_image_accepted.ended (λ M 𝓤 𝓛. gcf_respond_image_accepted.clauses 𝓛)
    (λ x o y p. saying x o (λ _ image command response told r _ _ response' told'. saying y p (λ _ image₂ command₂ response₂ told₂ r₂ _ _ response₂' told₂'.
    Alike image.now image₂.now command.now command₂.now response.now response₂.now (left r response' told') (left r₂ response₂' told₂'))))
gcf_respond_image_accepted_alike x κs args g o p = both x.𝓤 (told_alike image_commanded (λ same. same_image_accepted same _ _))

-- ---- the three functions of a command

pub command_fault_tied : Promised command_fault_fn.ended (λ M 𝓤 𝓛. command_fault_fn.clauses 𝓛) (λ M 𝓤 𝓛. command_fault_fn.spec 𝓛) (named (λ _ bytes r _. (r ≡ command_fault bytes.now) × Commands bytes.now r))
command_fault_tied x = promises x.𝓤 (λ o e. (e, by (Commands _) (commands _) e))

pub command_read_tied : Promised command_read.ended (λ M 𝓤 𝓛. command_read.clauses 𝓛) (λ M 𝓤 𝓛. command_read.spec 𝓛) (named (λ _ bytes r _. (r ≡ command_of bytes.now) × Understood bytes.now r.rt r.sfn.0 r.allocation))
unfolding command_of
command_read_tied x = promises x.𝓤 (λ o e. (e, by (λ (c : Command). Understood x.args.0.now c.rt c.sfn.0 c.allocation) (understood x.args.0.now) e))

pub command_build_tied : Promised command_build.ended (λ M 𝓤 𝓛. command_build.clauses 𝓛) (λ M 𝓤 𝓛. command_build.spec 𝓛)
    (named (λ _ length rt sfn allocation out r _ _ _ _ out'. Builds length rt sfn.0 allocation out.now (maker.outcome r out')))
command_build_tied x = promises x.𝓤 (λ o. by (Builds _ _ _ _ _) (builds _ _ _ _ _))

-- what was answered to a command that asks for these, read
read_asked : {s : Sheet} {c d : List ℕ} {o : maker.Outcome} {rt sfn a : ℕ} {received : List ℕ} {r : Reading} → rt_of c ≡ rt → sfn_of c ≡ sfn → allocation_of c ≡ a → Answers s c d o
    → o.made.refusal.number ≡ 0 → Reads 65534 rt sfn received r → Bytes s.bytes → 8 ≤ a → received ≡ take o.made.count o.buffer → ReadBack (meaning s) 65534 rt sfn a received r
read_asked is-rt is-sfn is-a answers z reads b eight there = rw (is-rt, is-sfn, is-a) at (read_back answers z reads b (rw is-a eight) (sym is-rt) (sym is-sfn) there)

-- ---- a command that was built: `build` is called, then another function with the bytes that it wrote

-- the command c is what `build` wrote, which answered m and left the buffer d; the two numbers have 16 bits, as their types say
pub record Handed (m : Made) (d : List ℕ) (sfn a : ℕ) (c : List ℕ) : Type 0 where
  pub zero : m.refusal.number ≡ 0
  pub there : c ≡ take m.count d
  pub low : sfn < 65536
  pub short : a < 65536

module _ {n rt sfn a : ℕ} {was d c : List ℕ} {m : Made} (h : Handed m d sfn a c) (promised : Builds n rt sfn a was (maker.outcome m d)) where
  is_wrote : c ≡ take n d
  is_wrote = h.there ∙ ap (λ (k : ℕ). take k d) (promised.stands h.zero).0

  is_fine : command_fault c ≡ accept
  is_fine = ap command_fault is_wrote ∙ promised.accepted h.zero

  is_command : command_of c ≡ record { rt = rt; sfn = record { 0 = sfn }; allocation = a }
  is_command = ap command_of is_wrote ∙ promised.understood h.zero h.low h.short

  -- so whatever is made of the command's refusal and of what it asks for is made of these
  is_asked : {A : Type 0} (f : Refusal → (rt sfn a : ℕ) → A) → f (command_fault c) (rt_of c) (sfn_of c) (allocation_of c) ≡ f accept rt sfn a
  unfolding command_of
  is_asked f = ap (λ (r : Refusal). f r (rt_of c) (sfn_of c) (allocation_of c)) is_fine ∙ ap (λ (k : Command). f accept k.rt k.sfn.0 k.allocation) is_command

-- `fault` refuses nothing of it
pub build_fault : Both command_build.ended (λ M 𝓤 𝓛. command_build.clauses 𝓛) command_fault_fn.ended (λ M 𝓤 𝓛. command_fault_fn.clauses 𝓛)
    (λ x o y p. saying x o (λ _ length rt sfn allocation out r _ _ _ _ out'.
    saying y p (λ _ bytes₂ r₂ _.
    Handed r out' sfn.0 allocation bytes₂.now → r₂ ≡ accept)))
build_fault x κs args g o p = both x.𝓤 (λ e f h. f ∙ is_fine h (by (Builds _ _ _ _ _) (builds _ _ _ _ _) e))

-- `read` understands it as exactly those three
pub build_read : Both command_build.ended (λ M 𝓤 𝓛. command_build.clauses 𝓛) command_read.ended (λ M 𝓤 𝓛. command_read.clauses 𝓛)
    (λ x o y p. saying x o (λ _ length rt sfn allocation out r _ _ _ _ out'.
    saying y p (λ _ bytes₂ r₂ _.
    Handed r out' sfn.0 allocation bytes₂.now → (r₂.rt ≡ rt) × (r₂.sfn ≡ sfn) × (r₂.allocation ≡ allocation))))
build_read x κs args g o p = both x.𝓤 (λ e f h. let k = f ∙ is_command h (by (Builds _ _ _ _ _) (builds _ _ _ _ _) e) in (ap (λ (z : Command). z.rt) k, ap (λ (z : Command). z.sfn) k, ap (λ (z : Command). z.allocation) k))

-- the image engine answers it with what is defined for those three
pub build_rom_respond : Both command_build.ended (λ M 𝓤 𝓛. command_build.clauses 𝓛) rom_respond.ended (λ M 𝓤 𝓛. rom_respond.clauses 𝓛)
    (λ x o y p. saying x o (λ _ length rt sfn allocation out r _ _ _ _ out'.
    saying y p (λ _ image₂ command₂ out₂ r₂ _ _ out₂'.
    Handed r out' sfn.0 allocation command₂.now
    → maker.outcome r₂ out₂' ≡ maker.makes (capture_fault image₂.now or_else accept) 12 (sent rt sfn.0 allocation (captured (descs image₂.now))) out₂.now)))
unfolding image_answered
build_rom_respond x κs args g o p = both x.𝓤 (λ e f h. f ∙ is_asked h (by (Builds _ _ _ _ _) (builds _ _ _ _ _) e) (λ r rt sfn a. maker.makes (capture_fault args.0.now or_else r) 12 (sent rt sfn a (captured (descs args.0.now))) args.1.1.0.now))

-- and so does the sheet engine
pub build_respond : Both command_build.ended (λ M 𝓤 𝓛. command_build.clauses 𝓛) respond.ended (λ M 𝓤 𝓛. respond.clauses 𝓛)
    (λ x o y p. saying x o (λ _ length rt sfn allocation out r _ _ _ _ out'.
    saying y p (λ _ lay₂ s₂ command₂ out₂ r₂ _ _ _ out₂'.
    Handed r out' sfn.0 allocation command₂.now
    → maker.outcome r₂ out₂' ≡ maker.makes (verdict (stored lay₂ s₂.now) or_else accept) 12 (sent rt sfn.0 allocation (meaning (stored lay₂ s₂.now))) out₂.now)))
unfolding answered
build_respond x κs args g o p = both x.𝓤 (λ e f h.
    let s : Sheet = stored args.0 args.1.0.now in
    f ∙ is_asked h (by (Builds _ _ _ _ _) (builds _ _ _ _ _) e) (λ r rt sfn a. maker.makes (verdict s or_else r) 12 (sent rt sfn a (meaning s)) args.1.1.1.0.now))

-- End to end: built, answered, read: the reading gives back what the sheet has for those three.
pub build_end_to_end : AllThree command_build.ended (λ M 𝓤 𝓛. command_build.clauses 𝓛) respond.ended (λ M 𝓤 𝓛. respond.clauses 𝓛) read.ended (λ M 𝓤 𝓛. read.clauses 𝓛)
    (λ x o y p z q. saying x o (λ _ length rt sfn allocation out r _ _ _ _ out'.
    saying y p (λ _ lay₂ s₂ command₂ out₂ r₂ _ _ _ out₂'.
    saying z q (λ _ rt₃ sfn₃ s₃ r₃ _ _ _.
    Handed r out' sfn.0 allocation command₂.now → r₂.refusal.number ≡ 0 → Bytes s₂.now → 8 ≤ allocation
    → rt₃ ≡ rt → sfn₃.0 ≡ sfn.0 → s₃.now ≡ take r₂.count out₂'
    → ReadBack (meaning (stored lay₂ s₂.now)) 65534 rt sfn.0 allocation s₃.now r₃))))
build_end_to_end x κs args g κs₂ args₂ g₂ o p q =
    all_three x.𝓤 (λ e fg h z b eight is-rt is-sfn.
    let k = by (Builds _ _ _ _ _) (builds _ _ _ _ _) e in
    read_asked (is_asked h k (λ v rt sfn a. rt)) (is_asked h k (λ v rt sfn a. sfn)) (is_asked h k (λ v rt sfn a. a))
    (by (Answers _ _ _) (demand2 _ _ _) fg.0) z (rw (is-rt, is-sfn) at (by (Reads _ _ _ _) (reads _ _ _ _) fg.1)) b eight)
