-- The code of a compiled program with parallel variables means its source.
use Rattle.std.specs.Prelude.{ℕ, List, ◌≡◌, ◌<◌}
use Rattle.cstar_base.specs.declared.operators.Winner.{Winner}
use Rattle.cstar_compile.specs.Compiled.{IsCompiled}
use Rattle.cstar_tree.specs.declared.typed.Typed.{Typed}
use Rattle.cstar_tree.specs.declared.typed.VarInfo.{VarInfo}
use Rattle.cstar_tree.specs.declared.typed.Variable.TheVariants as V
use Rattle.code_lengths.specs.Ready.{IsCodable}
use Rattle.paris_code.specs.declared.program.Image.{Image}
use Rattle.paris_code.specs.Code.{CodeState, opening}
use Rattle.paris_code.specs.Memory.{BitMemory, SameBits, field_number, fresh_memory}
use Rattle.paris_code.specs.Shapes.{shapes_of}
use Rattle.paris_code.specs.Sound.{IsSound}
use Rattle.source_meaning.specs.Programs.{Run, meaning}
use Rattle.source_meaning.specs.State as Source
use Rattle.source_meaning.specs.State.{State}
use Rattle.code_follows.specs.Agreement.{AreBytes, ComesTo, mark_of}
use Rattle.fields_follow.specs.Fields.{IsElement, file_field, positions_of}
use Rattle.fields_follow.specs.Fragment.{IsParallelProgram}

-- the memory of a new machine: all fields are 0, all positions are active, and this is the winner
abbrev pub IsNew : Image → Winner → BitMemory → Type 0
IsNew image winner m = SameBits (shapes_of image) m (record { bit = (fresh_memory (shapes_of image)).bit; winner = winner })

-- the memory has in the fields, at each position, the numbers that the variables have in the state
abbrev pub HasTheNumbers : Typed → Image → State → BitMemory → Type 0
HasTheNumbers t image st m =
    (k e set p : ℕ) (info : VarInfo) → IsElement t k info set e → p < positions_of t set → field_number m (file_field t image k e) p ≡ st.parallel (V.File k) e p

-- the code comes to the end of a run, and the memory then has the numbers of the final parallel variables
pub record ComesToAll (t : Typed) (image : Image) (s : CodeState) (run : Run) : Type 0 where
  pub to : ComesTo image s run
  pub numbers : HasTheNumbers t image run.final to.last.memory

-- For every input of bytes, every number of turns and every winner, the code that the compiler makes of such a
-- program, in an image that keeps the image rules, comes from a new memory to the end of the source's meaning, with
-- the turns that it leaves, the bytes that it prints and the numbers of its parallel variables.
abbrev pub ParallelCodeMeansSource : Type 0
ParallelCodeMeansSource =
    (t : Typed) (image : Image) → IsParallelProgram t → IsCodable t → IsCompiled t image → IsSound image →
    (memory : BitMemory) (input : List ℕ) (rest : Source.Rest) (turns : ℕ) (winner : Winner) → AreBytes input → IsNew image winner memory →
    ComesToAll t image (opening image memory turns (record { bytes = input; mark = mark_of rest })) (meaning t input rest turns winner)
