-- The verdict on a whole text is right.
use Rattle.std.proofs.Common.{◌≤◌, List, length}
use Rattle.std.specs.declared.alloc.Global.{Global}
use Rattle.cstar_tree.specs.declared.token.Token.{Token}
use Rattle.grammar_parts.specs.Verdicts.{depth_at, syntax_at}
use Rattle.grammar_parts.proofs.Right.{is_right}
use Rattle.cstar_parser.specs.declared.fault.ParseFault.{ParseFault}
use Rattle.cstar_parser.specs.declared.fault.ParseFault.TheVariants.{Syntax, Depth, Memory}
use Rattle.cstar_parser.specs.Exact.{IsExactFault}
use Rattle.cstar_parser.specs.Outside.{IsVerdictFault}

pub exact_fault : (heap : Global) (tokens : List Token) (fault : ParseFault) → length tokens ≤ 1048576 → IsVerdictFault tokens fault → IsExactFault tokens fault
exact_fault heap tokens (Syntax k) few v = is_right heap tokens (syntax_at k) few v
exact_fault heap tokens (Depth k) few v = is_right heap tokens (depth_at k) few v
exact_fault heap tokens Memory few v = tt
