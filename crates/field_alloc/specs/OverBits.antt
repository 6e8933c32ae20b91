-- What `place` makes of a program.
use Rattle.std.specs.Prelude.{◌≡◌}
use Rattle.paris_code.specs.declared.program.Program.{Program}
use Rattle.field_alloc.specs.Placed.{IsPlaced}

-- a program, and the same over bits
pub record IsOverBits (before after : Program) : Type 0 where
  pub placed : IsPlaced before after
  pub shapes : after.shapes ≡ before.shapes
  pub slots : after.slots ≡ before.slots
  pub depth : after.depth ≡ before.depth
