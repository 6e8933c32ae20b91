-- The laws: what is accepted has code, and nothing of it is left out.
use Rattle.std.specs.Prelude.{◌≡◌, ◌<◌, ◌^◌, ℕ, List, length}
use Rattle.cstar_base.specs.declared.operators.Winner.{Winner}
use Rattle.cstar_tree.specs.declared.typed.Typed.{Typed}
use Rattle.paris_code.specs.declared.program.Image.{Image}
use Rattle.paris_code.specs.Code.{opening}
use Rattle.paris_code.specs.Memory.{BitMemory}
use Rattle.source_meaning.specs.Programs.{meaning}
use Rattle.source_meaning.specs.State.{Rest}
use Rattle.code_follows.specs.Agreement.{AreBytes, ComesTo, mark_of}
use Rattle.code_lengths.specs.Agreement.{HasUnits}
use Rattle.cstar_compile.specs.Compiled.{IsCompiled}
use Rattle.cstar_top.specs.Accepted.{IsProgramOf}
use Rattle.proper_code.specs.Links.{KeepsWays}
use Rattle.scalar_texts.specs.Laws.{HasNoShapes}

-- the program of a text has the unit of each of its instances, whichever words stand in registers, and
-- from whichever register on
abbrev pub AcceptedProgramsHaveCode : Type 0
AcceptedProgramsHaveCode = (text : List ℕ) (typed : Typed) (words : List ℕ) (regs : ℕ) → IsProgramOf text typed → HasUnits typed words regs

-- what is compiled of it has as many units as there are instances
abbrev pub ImagesHaveEveryUnit : Type 0
ImagesHaveEveryUnit = (text : List ℕ) (typed : Typed) (image : Image) → IsProgramOf text typed → IsCompiled typed image → length image.units.items ≡ length typed.instances.items

-- what is compiled of it keeps the image rules on where control goes
abbrev pub AcceptedImagesKeepWays : Type 0
AcceptedImagesKeepWays = (text : List ℕ) (typed : Typed) (image : Image) → IsProgramOf text typed → IsCompiled typed image → KeepsWays image

-- What is compiled of a scalar text, one that declares no shape, comes to the end of the text's meaning.
abbrev pub ScalarImagesMeanTheirText : Type 0
ScalarImagesMeanTheirText =
    (text : List ℕ) (typed : Typed) (image : Image) → length text < 2 ^ 32 → IsProgramOf text typed → HasNoShapes typed → IsCompiled typed image →
    (memory : BitMemory) (input : List ℕ) (rest : Rest) (turns : ℕ) (winner : Winner) → AreBytes input →
    ComesTo image (opening image memory turns (record { bytes = input; mark = mark_of rest })) (meaning typed input rest turns winner)
