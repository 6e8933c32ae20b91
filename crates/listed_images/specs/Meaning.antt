-- Images that mean the same.
use Rattle.std.specs.Prelude.{◌≡◌, ℕ}
use Rattle.lower_base.specs.Drafts.{step as step_of}
use Rattle.lower_base.specs.Drafts.Step.{Plain}
use Rattle.paris_code.specs.declared.instr.Instr.{Instr}
use Rattle.paris_code.specs.declared.program.Image.{Image}
use Rattle.paris_code.specs.Code.{CodeState, code, step}
use Rattle.paris_code.specs.Listing.{listing}
use Rattle.paris_code.specs.Plain.{IsPlain}
use Rattle.paris_code.specs.Shapes.{shapes_of}
use Rattle.paris_code.specs.Units.{IsAt}
use Rattle.plain_listings.specs.Contents.{HasWords}

-- an image whose listing determines what its code means: its names are names, and its numbers have 32 bits
pub record IsListable (image : Image) : Type 0 where
  pub plain : IsPlain image
  pub words : HasWords image

-- two images have the same sets and, but for where lists of coordinates are kept, the same instructions; from
-- each state one instruction of both, and any number, lead to the same
pub record MeansSame (one other : Image) : Type 0 where
  pub sets : shapes_of one ≡ shapes_of other
  pub same : (place : ℕ) (instr : Instr) → step_of instr ≡ Plain instr → IsAt one place instr → IsAt other place instr
  pub step : (s : CodeState) → step one s ≡ step other s
  pub code : (n : ℕ) (s : CodeState) → code one n s ≡ code other n s

-- the listing of such an image determines what its code means
abbrev pub DeterminesMeaning : Image → Image → Type 0
DeterminesMeaning one other = IsListable one → IsListable other → listing one ≡ listing other → MeansSame one other
