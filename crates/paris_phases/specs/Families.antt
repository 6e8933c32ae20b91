-- Which instructions are done alike.
use Rattle.std.specs.Prelude.{◌≡◌, ◌||◌, true}
use Rattle.paris_code.specs.declared.instr.Instr.{Instr}
use Rattle.paris_code.specs.Elementwise.{is_elementwise}
use Rattle.news_grid.specs.Places.{is_fetching}
use Rattle.phase_meaning.specs.Apply.{is_check, is_send}
use Rattle.reduce_scan.specs.Along.{is_folding}
use Rattle.paris_phases.specs.declared.families.Family.{Family}
use Rattle.paris_phases.specs.declared.families.Family.TheVariants as F

-- the instruction is one of the family
abbrev pub IsOf : Instr → Family → Type 0
IsOf instr F.Elementwise = (is_elementwise instr || is_check instr) ≡ true
IsOf instr F.Fetching = is_fetching instr ≡ true
IsOf instr F.Folding = is_folding instr ≡ true
IsOf instr F.Sending = is_send instr ≡ true
