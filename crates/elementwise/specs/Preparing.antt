-- What is found of an elementwise instruction once for all blocks.
use Rattle.std.specs.Prelude.{◌≡◌, ℕ, true, List}
use Rattle.paris_code.specs.declared.instr.Instr.{Instr}
use Rattle.paris_code.specs.Elementwise.{is_elementwise, destination, writes_always}
use Rattle.paris_code.specs.Shapes.{SetShape}
use Rattle.elementwise.specs.declared.preparing.Prepared.{Prepared}
use Rattle.elementwise.specs.Ways.{IsWayOf}

-- where the instruction writes, and a way to do it
pub record IsPrepared (shapes : List SetShape) (instr : Instr) (args : List ℕ) (prepared : Prepared) : Type 0 where
  pub elementwise : is_elementwise instr ≡ true
  pub run : prepared.to.run ≡ destination shapes instr
  pub always : prepared.to.always ≡ writes_always instr
  pub way : IsWayOf shapes instr args prepared.way
