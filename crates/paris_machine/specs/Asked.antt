-- What the front end is asked for when it comes to a parallel instruction.
use Rattle.std.specs.Prelude.{◌≡◌, ℕ, true, length}
use Rattle.paris_code.specs.declared.instr.Instr.{Instr}
use Rattle.paris_code.specs.declared.program.Image.{Image}
use Rattle.paris_code.specs.Kinds.{is_parallel}
use Rattle.paris_code.specs.Operands.{arguments_of, result_of}
use Rattle.paris_code.specs.Units.{IsAt}
use Rattle.front_end.specs.Front.{State}

-- a parallel instruction stands at the place, its arguments are there, and its result is wanted
abbrev pub IsAsked : Image → ℕ → State → Type 0
IsAsked image at s =
    (instr : Instr) × IsAt image at instr × (is_parallel instr ≡ true)
    × (length s.args ≡ length (arguments_of instr)) × (s.wanted ≡ result_of instr)
