-- The faults of a text, of a listing, of a saved point and of a run, by number and by name, as they are printed.
use Rattle.std.specs.Prelude.{ℕ, List, codes}
use Rattle.cstar_base.specs.declared.faults.Fault.{Fault}
use Rattle.cstar_base.specs.declared.faults.Fault.TheVariants as F
use Rattle.cstar_base.specs.declared.faults.RunFault.{RunFault}
use Rattle.cstar_base.specs.declared.faults.RunFault.TheVariants as R

-- a text's from 0, a listing's from 40, a saved point's from 50
abbrev pub number_of : Fault → ℕ
number_of F.NotBuilt = 0
number_of F.BadByte = 1
number_of F.Open = 2
number_of F.Wide = 3
number_of F.Directive = 4
number_of F.Syntax = 5
number_of F.Redeclared = 6
number_of F.Unknown = 7
number_of F.WrongKind = 8
number_of F.Extent = 9
number_of F.NoShape = 10
number_of F.OtherShape = 11
number_of F.ScalarWanted = 12
number_of F.ParallelWanted = 13
number_of F.IndexCount = 14
number_of F.Dot = 15
number_of F.NotAPlace = 16
number_of F.SendValue = 17
number_of F.SendOperator = 18
number_of F.Arguments = 19
number_of F.Return = 20
number_of F.Axis = 21
number_of F.LoopWord = 22
number_of F.Recursion = 23
number_of F.NoMain = 24
number_of F.Format = 25
number_of F.Constant = 26
number_of F.Depth = 27
number_of F.Space = 28
number_of F.Size = 29
number_of F.TooLong = 30
number_of F.ArrayDecl = 31
number_of F.ArrayUse = 32
number_of F.Listing = 40
number_of F.Target = 41
number_of F.Field = 42
number_of F.Stack = 43
number_of F.BackEdge = 44
number_of F.Set = 45
number_of F.Operands = 46
number_of F.CodeSpace = 47
number_of F.Slots = 48
number_of F.Point = 50
number_of F.State = 51

-- what stands behind the number
abbrev pub name_of : Fault → List ℕ
name_of F.NotBuilt = codes "NotBuilt"
name_of F.BadByte = codes "BadByte"
name_of F.Open = codes "Open"
name_of F.Wide = codes "Wide"
name_of F.Directive = codes "Directive"
name_of F.Syntax = codes "Syntax"
name_of F.Redeclared = codes "Redeclared"
name_of F.Unknown = codes "Unknown"
name_of F.WrongKind = codes "WrongKind"
name_of F.Extent = codes "Extent"
name_of F.NoShape = codes "NoShape"
name_of F.OtherShape = codes "OtherShape"
name_of F.ScalarWanted = codes "ScalarWanted"
name_of F.ParallelWanted = codes "ParallelWanted"
name_of F.IndexCount = codes "IndexCount"
name_of F.Dot = codes "Dot"
name_of F.NotAPlace = codes "NotAPlace"
name_of F.SendValue = codes "SendValue"
name_of F.SendOperator = codes "SendOperator"
name_of F.Arguments = codes "Arguments"
name_of F.Return = codes "Return"
name_of F.Axis = codes "Axis"
name_of F.LoopWord = codes "LoopWord"
name_of F.Recursion = codes "Recursion"
name_of F.NoMain = codes "NoMain"
name_of F.Format = codes "Format"
name_of F.Constant = codes "Constant"
name_of F.Depth = codes "Depth"
name_of F.Space = codes "Space"
name_of F.Size = codes "Size"
name_of F.TooLong = codes "TooLong"
name_of F.ArrayDecl = codes "ArrayDecl"
name_of F.ArrayUse = codes "ArrayUse"
name_of F.Listing = codes "Listing"
name_of F.Target = codes "Target"
name_of F.Field = codes "Field"
name_of F.Stack = codes "Stack"
name_of F.BackEdge = codes "BackEdge"
name_of F.Set = codes "Set"
name_of F.Operands = codes "Operands"
name_of F.CodeSpace = codes "Space"
name_of F.Slots = codes "Slots"
name_of F.Point = codes "Point"
name_of F.State = codes "State"

-- a run's
abbrev pub run_number_of : RunFault → ℕ
run_number_of R.Index = 1
run_number_of R.DivZero = 2

abbrev pub run_name_of : RunFault → List ℕ
run_name_of R.Index = codes "Index"
run_name_of R.DivZero = codes "DivZero"
