-- The code of a compiled program means its source.
use Rattle.std.specs.Prelude.{◌≡◌, ◌<◌, ◌^◌, ℕ, List}
use Rattle.std.specs.List.{All}
use Rattle.cstar_base.specs.declared.operators.Winner.{Winner}
use Rattle.cstar_compile.specs.Compiled.{IsCompiled}
use Rattle.cstar_tree.specs.declared.typed.Typed.{Typed}
use Rattle.code_lengths.specs.Ready.{IsCodable}
use Rattle.paris_code.specs.declared.program.Image.{Image}
use Rattle.paris_code.specs.Code as Machine
use Rattle.paris_code.specs.Code.{CodeEnd, CodeState, Ends, code, opening}
use Rattle.paris_code.specs.Memory.{BitMemory}
use Rattle.source_meaning.specs.Programs.{Done, End, EndsEarly, Run, meaning}
use Rattle.source_meaning.specs.State as Source
use Rattle.code_follows.specs.Fragment.{IsScalarProgram}

-- how the code ends where the source does, before the end of `main` and at all
abbrev pub end_of : Source.Early → CodeEnd
end_of (Source.Fault fault place position) = Machine.Fault fault place position
end_of Source.Stopped = Machine.Stopped
end_of Source.InputBroken = Machine.InputBroken

abbrev pub end_of_run : End → CodeEnd
end_of_run Done = Machine.Done
end_of_run (EndsEarly early) = end_of early

-- an input, as the code sees it
abbrev pub mark_of : Source.Rest → Machine.Mark
mark_of Source.InputEnds = Machine.End
mark_of Source.InputFails = Machine.Broken

-- the bytes of an input
abbrev pub AreBytes : List ℕ → Type 0
AreBytes bytes = All (λ (byte : ℕ). byte < 2 ^ 8) bytes

-- the code comes from a state to the end of a run, with its turns and its output
pub record ComesTo (image : Image) (s : CodeState) (run : Run) : Type 0 where
  pub steps : ℕ
  pub last : CodeState
  pub ends : (code image steps s).next ≡ Ends (end_of_run run.end) last
  pub turns : last.turns ≡ run.final.turns
  pub output : last.output ≡ run.final.output

-- For every input of bytes, every number of turns and every winner, the code that the compiler makes of such a program
-- comes to the end of the source's meaning, with the turns that it leaves and the bytes that it prints.
abbrev pub CodeMeansSource : Type 0
CodeMeansSource =
    (t : Typed) (image : Image) → IsScalarProgram t → IsCodable t → IsCompiled t image →
    (memory : BitMemory) (input : List ℕ) (rest : Source.Rest) (turns : ℕ) (winner : Winner) → AreBytes input →
    ComesTo image (opening image memory turns (record { bytes = input; mark = mark_of rest })) (meaning t input rest turns winner)
