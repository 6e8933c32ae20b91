-- The faults that typing finds.
use Rattle.std.specs.Prelude.{Bool, true, false}
use Rattle.cstar_base.specs.declared.faults.Fault.{Fault}
use Rattle.cstar_base.specs.declared.faults.Fault.TheVariants as F

abbrev pub is_of_typing : Fault → Bool
is_of_typing F.Redeclared = true
is_of_typing F.Unknown = true
is_of_typing F.WrongKind = true
is_of_typing F.Extent = true
is_of_typing F.NoShape = true
is_of_typing F.OtherShape = true
is_of_typing F.ScalarWanted = true
is_of_typing F.ParallelWanted = true
is_of_typing F.IndexCount = true
is_of_typing F.Dot = true
is_of_typing F.NotAPlace = true
is_of_typing F.SendValue = true
is_of_typing F.SendOperator = true
is_of_typing F.Arguments = true
is_of_typing F.Return = true
is_of_typing F.Axis = true
is_of_typing F.LoopWord = true
is_of_typing F.Recursion = true
is_of_typing F.NoMain = true
is_of_typing F.Format = true
is_of_typing F.Constant = true
is_of_typing F.Space = true
is_of_typing F.Size = true
is_of_typing F.ArrayDecl = true
is_of_typing F.ArrayUse = true
is_of_typing _ = false
