-- The faults that stand in the bytes of a text.
use Rattle.std.specs.Prelude.{Bool, true, false}
use Rattle.cstar_base.specs.declared.faults.Fault.{Fault}
use Rattle.cstar_base.specs.declared.faults.Fault.TheVariants as F

abbrev pub is_lexical : Fault → Bool
is_lexical F.BadByte = true
is_lexical F.Open = true
is_lexical F.Wide = true
is_lexical F.Directive = true
is_lexical _ = false
