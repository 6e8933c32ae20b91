-- Which instructions the machine's phases do, and which the front end does.
use Rattle.std.specs.Prelude.{Bool, true, false}
use Rattle.paris_code.specs.declared.instr.Instr.{Instr}
use Rattle.paris_code.specs.declared.instr.Instr.TheVariants as I

-- the instructions on fields, contexts and tests are parallel; those on registers alone are not
abbrev pub is_parallel : Instr → Bool
is_parallel (I.Move _ _ _) = true
is_parallel (I.MoveConstant _ _) = true
is_parallel (I.MoveZeroAlways _) = true
is_parallel (I.MoveAlways _ _) = true
is_parallel (I.MyNewsCoordinate _ _) = true
is_parallel (I.MakeAddress _ _ _) = true
is_parallel (I.Operate _ _ _ _) = true
is_parallel (I.OperateConstant _ _ _ _) = true
is_parallel (I.Negate _ _) = true
is_parallel (I.Lognot _ _) = true
is_parallel (I.Compare _ _ _) = true
is_parallel (I.EqZero _) = true
is_parallel (I.NeZero _) = true
is_parallel (I.LoadTest _) = true
is_parallel (I.StoreTest _) = true
is_parallel (I.LoadContext _) = true
is_parallel (I.StoreContext _) = true
is_parallel (I.SetContext _) = true
is_parallel (I.LogandContextWithTest _) = true
is_parallel (I.LogandcContextWithTest _) = true
is_parallel (I.CheckTarget _ _ _) = true
is_parallel (I.CheckGrid _ _ _) = true
is_parallel (I.CheckDivisor _ _) = true
is_parallel (I.GetFromNews _ _ _ _) = true
is_parallel (I.GetFromNewsAlways _ _ _ _) = true
is_parallel (I.Get _ _ _) = true
is_parallel (I.SendWithOverwrite _ _ _ _) = true
is_parallel (I.SendWithCombiner _ _ _ _ _) = true
is_parallel (I.Global _ _ _) = true
is_parallel (I.Scan _ _ _ _ _ _ _ _) = true
is_parallel (I.ReadFromProcessor _ _ _ _) = true
is_parallel (I.WriteToProcessor _ _ _) = true
is_parallel _ = false
