-- The states that are kept between runs.
use Rattle.std.specs.Prelude.{◌≡◌, ℕ, [], length, replicate, false, None}
use Rattle.paris_code.specs.declared.program.Image.{Image}
use Rattle.paris_code.specs.Code.{Rest, opening}
use Rattle.paris_code.specs.Memory.{BitMemory}
use Rattle.front_end.specs.declared.front.Front.{Front}
use Rattle.front_end.specs.declared.kept.Kept.{Kept}
use Rattle.front_end.specs.Fit.{IsPlace}
use Rattle.front_end.specs.Front.{State, state_of, joined, Fits}

-- the state stands at an instruction of the image behind its open calls, and has its registers
abbrev pub KeptFits : Image → Kept → Type 0
KeptFits image kept = IsPlace image kept.at kept.returns × (length kept.regs ≡ image.slots)

-- the first instruction, all registers 0, no open call, and the input has not ended
abbrev pub IsOpening : Image → Kept → Type 0
IsOpening image kept =
    (kept.at ≡ 0) × (kept.regs ≡ replicate image.slots 0) × (kept.returns ≡ []) × (kept.ended ≡ false)

-- the front end stands where the kept state does, with these turns, and fits the image
pub record GoesOnFrom (image : Image) (kept : Kept) (turns : ℕ) (front : Front) : Type 0 where
  pub fits : Fits image (state_of front)
  pub at : front.at ≡ kept.at
  pub registers : front.registers.items ≡ kept.regs
  pub returns : front.returns.items ≡ kept.returns
  pub turns_left : front.turns ≡ turns
  pub wanted : front.wanted ≡ None

-- the state is that in which a run of the code begins, whatever the bits and the input are
abbrev pub IsRunStart : Image → ℕ → State → Type 0
IsRunStart image turns s = (memory : BitMemory) (input : Rest) → joined s memory input [] ≡ opening image memory turns input

-- the front end stands there, fits the image and wants no answer
pub record Opens (image : Image) (turns : ℕ) (front : Front) : Type 0 where
  pub fits : Fits image (state_of front)
  pub start : IsRunStart image turns (state_of front)
  pub wanted : front.wanted ≡ None
