-- Checks that are answered before instructions that wait are done.
use Rattle.std.specs.Prelude.{Bool, true, false, not, ◌&&◌, Option, List, [], ◌∷◌}
use Rattle.paris_code.specs.declared.instr.Instr.{Instr}
use Rattle.paris_code.specs.declared.instr.Instr.TheVariants as I
use Rattle.paris_code.specs.declared.operands.Field.{Field}
use Rattle.instruction_runs.specs.declared.deferring.Deferred.{Deferred}
use Rattle.instruction_runs.specs.Waiting.{leaves}

-- these write the context flags of their set
abbrev pub writes_context : Instr → Bool
writes_context (I.LoadContext a) = true
writes_context (I.SetContext set) = true
writes_context (I.LogandContextWithTest set) = true
writes_context (I.LogandcContextWithTest set) = true
writes_context _ = false

-- what is written leaves the fields that a check reads: one of the grid reads none. No other instruction passes; a check of
-- targets does not, since the address that follows it cannot wait.
abbrev pub leaves_read : Option Field → Instr → Bool
leaves_read writes (I.CheckGrid set place steps) = true
leaves_read writes (I.CheckDivisor place a) = leaves writes a
leaves_read writes _ = false

-- a check can pass one that waits and writes nothing that the check reads, neither a field nor a context flag
abbrev pub lets_pass : Deferred → Instr → Bool
lets_pass d instr = not (writes_context d.instr) && leaves_read d.writes instr

-- and so it can pass all; where none waits, any instruction can be done
abbrev pub can_pass : List Deferred → Instr → Bool
can_pass [] instr = true
can_pass (d ∷ rest) instr = lets_pass d instr && can_pass rest instr
