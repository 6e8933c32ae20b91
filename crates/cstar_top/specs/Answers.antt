-- The statuses of the command, and the line that each answer puts.
use Rattle.std.specs.Prelude.{ℕ, ◌+◌, ◌/◌, ◌%◌, List, [], ◌∷◌, ◌++◌, Option, Some, None, codes, decimal}
use Rattle.cstar_base.specs.declared.faults.Fault.{Fault}
use Rattle.cstar_base.specs.declared.faults.RunFault.{RunFault}
use Rattle.cstar_base.specs.declared.operators.Place.{Place}
use Rattle.cstar_base.specs.Faults.{name_of, number_of, run_name_of, run_number_of}
use Rattle.cstar_top.specs.declared.answer.Answer.{Answer}
use Rattle.cstar_top.specs.declared.answer.Answer.TheVariants as A

-- the status that an answer ends the command with
abbrev pub status_of : Answer → ℕ
status_of A.Done = 0
status_of (A.Fault fault place position) = 1
status_of A.Usage = 2
status_of (A.Refused fault place) = 3
status_of (A.Stopped turns) = 4
status_of A.CannotRead = 5
status_of A.WriteFault = 6
status_of A.InputFault = 7
status_of A.Memory = 8
status_of A.CannotSave = 9

-- `FILE:LINE:COL: `
abbrev pub at_place : List ℕ → Place → List ℕ
at_place file place = file ++ codes ":" ++ decimal place.line ++ codes ":" ++ decimal place.col ++ codes ": "

-- ` at position N`, where a parallel operation failed
abbrev pub at_position : Option ℕ → List ℕ
at_position None = []
at_position (Some position) = codes " at position " ++ decimal position

-- a number below 100
abbrev pub two_digits : ℕ → List ℕ
two_digits number = (48 + number / 10) ∷ (48 + number % 10) ∷ []

-- `E05 Syntax`
unfoldable pub refusal_text : Fault → List ℕ
refusal_text fault = codes "E" ++ (two_digits (number_of fault) ++ (codes " " ++ name_of fault))

-- `F1 Index`
unfoldable pub fault_text : RunFault → List ℕ
fault_text fault = codes "F" ++ (decimal (run_number_of fault) ++ (codes " " ++ run_name_of fault))

abbrev pub usage_line : List ℕ
usage_line =
    codes "usage: cstar [--mode run|list|check|drill|asm|resume] [--workers N] [--turns N] [--finals] [--listing] [--seed N] [--winner high|low] [--save NAME] FILE\n"

-- the line that an answer puts, with the name of the file, or of the point that cannot be saved; nothing for a
-- command that went well, or whose output failed
unfoldable pub line_of : List ℕ → Answer → List ℕ
line_of file A.Done = []
line_of file (A.Fault fault place position) = at_place file place ++ fault_text fault ++ at_position position ++ codes "\n"
line_of file A.Usage = usage_line
line_of file (A.Refused fault place) = at_place file place ++ refusal_text fault ++ codes "\n"
line_of file (A.Stopped turns) = codes "stopped after " ++ decimal turns ++ codes " turns\n"
line_of file A.CannotRead = codes "cannot read " ++ file ++ codes "\n"
line_of file A.WriteFault = []
line_of file A.InputFault = codes "input fault\n"
line_of file A.Memory = codes "out of memory\n"
line_of name A.CannotSave = codes "cannot save " ++ name ++ codes "\n"
