-- What is answered for the tokens of a whole text is right: a tree where no token of the text is too
-- deep, a fault of syntax at the first token with which no text goes on, where no token before it is too
-- deep, and one of depth at the first token that is.
use Rattle.std.specs.Prelude.{ℕ, ◌<◌, List, Result, Ok, Err}
use Rattle.cstar_tree.specs.declared.token.Token.{Token}
use Rattle.grammar_parts.specs.Hope.{IsFirstHopeless, IsTooDeep}
use Rattle.cstar_parser.specs.declared.fault.ParseFault.{ParseFault}
use Rattle.cstar_parser.specs.declared.fault.ParseFault.TheVariants.{Syntax, Depth, Memory}

abbrev pub IsExactFault : List Token → ParseFault → Type 0
IsExactFault tokens (Syntax k) = IsFirstHopeless tokens k × ((token : ℕ) → IsTooDeep tokens token → ⊥)
IsExactFault tokens (Depth k) = IsTooDeep tokens k × ((token : ℕ) → token < k → IsTooDeep tokens token → ⊥)
IsExactFault tokens Memory = Unit {0}

abbrev pub IsExact : {A : Type 0} → List Token → Result A ParseFault → Type 0
IsExact tokens (Ok _) = (token : ℕ) → IsTooDeep tokens token → ⊥
IsExact tokens (Err fault) = IsExactFault tokens fault
