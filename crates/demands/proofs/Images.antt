-- The ROM way: "For RT 0, 1 and 2, any SFN and any allocation length, it must send what the sheet engine sends for the imported sheet", and "all of import's
-- [refusals] but 42, in import's order, then 9 to 12". `image_answered` is the contract of `rom::respond`, `answered` that of `responder::respond`, `imported` that of
-- `import::import`. Assumes nothing.
use mathlib.Core.Path.{◌≡◌, refl, sym, ap, ◌∙◌}
use mathlib.Core.Bool.{Bool, true, false}
use mathlib.Core.List.{List}
use Prim.Native.Nat.{ℕ, zero, suc}
use native.Mathlib.Omega.{arith}
use lib.Dec.{ltb}
use lib.ListN.{length, take}
use Rattle.base.specs.Lists.{Bytes}
use Rattle.base.proofs.Promise.{all_three}
use Rattle.refusal.specs.declared.Refusal.{Refusal}
use Rattle.refusal.specs.First.{refuse, accept, ◌if◌else◌, ◌or_else◌}
use Rattle.refusal.proofs.First.{or_else_none, unless_none, unless_fault}
use Rattle.lent.specs.Maker as maker
use Rattle.lent.proofs.Maker.{makes_fault, makes_number}
use Rattle.command.specs.Command.{command_fault, rt_of, sfn_of, allocation_of}
use Rattle.text.specs.Drive.{Drive}
use Rattle.text.specs.Response.{sent}
use Rattle.layout.specs.declared.Layout.TheVariants.{Rows}
use Rattle.layout.specs.Layout.{Sheet, sheet_size}
use Rattle.layout.specs.Layout as layout
use Rattle.sheet.specs.Check.{verdict}
use Rattle.responder.specs.Answer.{commanded, answered}
use Rattle.responder.proofs.Trusting as responder
use Rattle.responder.specs.contracts.respond as respond
use Rattle.reading.specs.Places.{descs}
use Rattle.capture.specs.Capture.{captured, capture_fault}
use Rattle.capture.specs.Lines.{LocatedAmong}
use Rattle.capture.proofs.Lines.{capture_located}
use Rattle.capture.proofs.Promised.{Refused, refused_is}
use Rattle.import.specs.Import.{sheet_from, imported}
use Rattle.import.proofs.Answers.{imported_zero}
use Rattle.import.specs.contracts.import as import
use Rattle.rom.specs.Rom.{image_answered}
use Rattle.rom.specs.Image.{image_commanded}
use Rattle.rom.proofs.Accepted as rom
use Rattle.rom.specs.contracts.respond as rom_respond
use Rattle.demands.proofs.Sending.{Leaves, leaves}
use Rattle.demands.proofs.Importing.{imported_accepted, imported_means, stored}
use Rattle.demands.proofs.Named.{saying, AllThree}

-- ---- one call

-- Of the number and place r of an image i: import's, but for 42; with the place of the profile or entry at fault; in plain numbers of its bytes each number
-- has its ground and its turn.
pub record ChecksImage (i : List ℕ) (r : Refusal) : Type 0 where
  pub exact : r ≡ capture_fault i
  pub located : LocatedAmong (descs i) r
  pub plain : Refused i r

pub checks_image : (i : List ℕ) → ChecksImage i (capture_fault i)
checks_image i = record { exact = refl; located = capture_located i; plain = refused_is i }

-- Of an outcome o of the image i, the command c and the buffer d: where import accepts the image, the sheet engine's answer from the imported sheet, refusal, count
-- and buffer; where it does not, import's number and place, and nothing changed.
pub record Images (i c d : List ℕ) (o : maker.Outcome) : Type 0 where
  pub exact : o ≡ image_answered i c d
  pub same : Bytes i → (capture_fault i).number ≡ 0 → o ≡ answered (sheet_from i) c d
  pub refuses : ((capture_fault i).number ≡ 0 → ⊥) → o ≡ maker.refusing d (capture_fault i)
  pub plain : Refused i (capture_fault i)
  pub left : Leaves (sent (rt_of c) (sfn_of c) (allocation_of c) (captured (descs i))) d o

module _ (i c d : List ℕ) where
  -- what both engines come to: 9 to 11, 12, or the bytes of the drive that the image describes
  abbrev of_drive : Drive → maker.Outcome
  of_drive m = maker.makes (command_fault c) 12 (sent (rt_of c) (sfn_of c) (allocation_of c) m) d

  from_sheet : Bytes i → (capture_fault i).number ≡ 0 → answered (sheet_from i) c d ≡ of_drive (captured (descs i))
  unfolding commanded
  from_sheet b e =
      responder.answered_after (sheet_from i) c d
      ∙ unless_none (verdict (sheet_from i)) (maker.refusing d) (commanded (sheet_from i) c d) (imported_accepted i b e)
      ∙ ap of_drive (imported_means i b e)

  pub images : Images i c d (image_answered i c d)
  unfolding image_answered
  images = record {
    exact = refl;
    same = λ b e. rom.answered_after i c d ∙ unless_none (capture_fault i) (maker.refusing d) (of_drive (captured (descs i))) e ∙ sym (from_sheet b e);
    refuses = λ h. rom.answered_after i c d ∙ unless_fault (capture_fault i) (maker.refusing d) (of_drive (captured (descs i))) h;
    plain = refused_is i;
    left = leaves (capture_fault i or_else command_fault c) 11 _ d;
  }

  -- From an image that was checked once.
  pub record ImagesOnce (o : maker.Outcome) : Type 0 where
    pub exact : o ≡ image_commanded i c d
    pub same : Bytes i → (capture_fault i).number ≡ 0 → o ≡ answered (sheet_from i) c d

  pub images_once : ImagesOnce (image_commanded i c d)
  images_once = record { exact = refl; same = λ b e. rom.image_accepted i b e c d ∙ sym (from_sheet b e) }

-- ---- three calls: `import` with a capture, `respond` with the sheet that it left, `rom::respond` with the capture as its image

-- where import answers 0 the two engines leave the same; where it refuses anything but the buffer, the ROM engine refuses it by that number and place
pub record Agrees (imports : Refusal) (sheet image : maker.Outcome) : Type 0 where
  pub same : imports.number ≡ 0 → image ≡ sheet
  pub refused : (imports.number ≡ 0 → ⊥) → (imports.number ≡ 42 → ⊥) → image.made.refusal ≡ imports

agree : (i d c e : List ℕ) → Bytes i → (o : maker.Outcome) → o ≡ imported i d → (s : Sheet) → s ≡ layout.stored Rows (take o.made.count o.buffer)
    → Agrees o.made.refusal (answered s c e) (image_answered i c e)
unfolding imported maker.refusing ◌if◌else◌
agree i d c e b o q s there = record {
  same = λ z.
      let w : (imported i d).made.refusal.number ≡ 0 = sym (ap (λ (x : maker.Outcome). x.made.refusal.number) q) ∙ z in
      let x : s ≡ sheet_from i = there ∙ ap (λ (y : maker.Outcome). layout.stored Rows (take y.made.count y.buffer)) q ∙ (stored i d b w).sheet in
      rw x ((images i c e).same b (imported_zero i d w).0);
  refused = λ h k. go (capture_fault i).number refl h k;
}
  where
    go : (n : ℕ) → (capture_fault i).number ≡ n → (o.made.refusal.number ≡ 0 → ⊥) → (o.made.refusal.number ≡ 42 → ⊥) → (image_answered i c e).made.refusal ≡ o.made.refusal
    go zero z h k = absurd (only (ltb (length d) (sheet_size (sheet_from i))) (ap (λ (x : maker.Outcome). x.made.refusal.number) q ∙ makes_number (capture_fault i) 42 (sheet_from i).bytes d ∙ ap (λ (r : Refusal). r.number) (or_else_none (capture_fault i) _ z)))
      where
        only : (x : Bool) → o.made.refusal.number ≡ (refuse 42 if x else accept).number → ⊥
        only true p = k p
        only false p = h p
    go (suc n) z h k =
        let f : (capture_fault i).number ≡ 0 → ⊥ = λ y. omega arith in
        ap (λ (x : maker.Outcome). x.made.refusal) ((images i c e).refuses f)
        ∙ sym (ap (λ (x : maker.Outcome). x.made.refusal) (q ∙ makes_fault (capture_fault i) 42 (sheet_from i).bytes d f))

pub rom_end_to_end : AllThree import.ended (λ M 𝓤 𝓛. import.clauses 𝓛) respond.ended (λ M 𝓤 𝓛. respond.clauses 𝓛) rom_respond.ended (λ M 𝓤 𝓛. rom_respond.clauses 𝓛)
    (λ x o y p z q. saying x o (λ _ response sheet r _ sheet'.
    saying y p (λ _ lay₂ s₂ command₂ out₂ r₂ _ _ _ out₂'.
    saying z q (λ _ image₃ command₃ out₃ r₃ _ _ out₃'.
    Bytes response.now → image₃.now ≡ response.now → layout.stored lay₂ s₂.now ≡ layout.stored Rows (take r.count sheet')
    → command₃.now ≡ command₂.now → out₃.now ≡ out₂.now
    → Agrees r.refusal (maker.outcome r₂ out₂') (maker.outcome r₃ out₃')))))
rom_end_to_end x κs args g κs₂ args₂ g₂ o p q =
    all_three x.𝓤 (λ e fg b is-image there is_command is-buffer.
    let a = agree x.args.0.now x.args.1.0.now args.1.1.0.now args.1.1.1.0.now b (maker.outcome o.0 o.1.1.0) e (layout.stored args.0 args.1.0.now) there in
    rw (fg.0, rw (is-image, is_command, is-buffer) at fg.1) a)
