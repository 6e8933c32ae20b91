-- What the compiler makes of a typed program.
use Rattle.cstar_link.specs.Linked.{IsLinked}
use Rattle.cstar_tree.specs.declared.typed.Typed.{Typed}
use Rattle.field_alloc.specs.OverBits.{IsOverBits}
use Rattle.lower_stmt.specs.Lowered.{IsLowered}
use Rattle.paris_code.specs.declared.program.Image.{Image}
use Rattle.paris_code.specs.declared.program.Program.{Program}

-- an image is the link of a program over bits that describes a typed program
pub record IsCompiled (t : Typed) (image : Image) : Type 0 where
  pub before : Program
  pub after : Program
  pub lowered : IsLowered t before
  pub placed : IsOverBits before after
  pub linked : IsLinked after image
