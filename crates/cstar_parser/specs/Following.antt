-- The reader follows the verdict of the table of open parts: it goes on where the verdict does, and a
-- fault is the verdict.
use Rattle.std.specs.Prelude.{◌≡◌, ℕ, ◌+◌, ◌≤◌, true, List, [], ◌∷◌, Option, Some, Result, Ok, Err}
use Rattle.cstar_tree.specs.declared.token.Token.{Token}
use Rattle.cstar_tree.specs.declared.token.Kind.{Kind}
use Rattle.cstar_tree.specs.declared.token.Kind.TheVariants as K
use Rattle.cstar_tree.specs.declared.token.Mark.{Mark}
use Rattle.cstar_tree.specs.declared.token.Mark.TheVariants as M
use Rattle.cstar_tree.specs.Positions.{token_kind}
use Rattle.grammar_parts.specs.Actions.{IsReal, act, at_mark, type_action}
use Rattle.grammar_parts.specs.Parts.{Action, Part, before, is_taken, refuse, skip, take_it}
use Rattle.grammar_parts.specs.Parts as P
use Rattle.grammar_parts.specs.Verdicts.{Verdict, depth_at, syntax_at}
use Rattle.grammar_parts.specs.Verdicts as V
use Rattle.cstar_parser.specs.declared.fault.ParseFault.{ParseFault}
use Rattle.cstar_parser.specs.declared.fault.ParseFault.TheVariants.{Syntax, Depth, Memory}
use Rattle.cstar_parser.specs.declared.spot.Spot.{Spot}

-- ---- one token

-- the fault is at this position: one of syntax where the open part refuses what stands there, one of
-- depth where this holds too
abbrev pub StopsAt : List Token → Part → Type 0 → ℕ → ParseFault → Type 0
StopsAt tokens p too_many at (Syntax k) = (k ≡ at) × (act p (token_kind tokens at) ≡ refuse)
StopsAt tokens p too_many at (Depth k) = (k ≡ at) × too_many
StopsAt tokens p too_many at Memory = Unit {0}

-- a mark stands there, and as many levels are open as may be, or there are as many operators
abbrev pub IsLevelTooMany : List Token → Mark → ℕ → ℕ → Type 0
IsLevelTooMany tokens mark at open_levels = (token_kind tokens at ≡ Some (K.Mark mark)) × (100 ≤ open_levels)

abbrev pub IsOperatorTooMany : List Token → Mark → ℕ → ℕ → Type 0
IsOperatorTooMany tokens mark at operators = (token_kind tokens at ≡ Some (K.Mark mark)) × (1000 ≤ operators)

-- an operator there is one too many
abbrev pub IsOverfull : ℕ → ℕ → ParseFault → Type 0
IsOverfull at operators (Syntax k) = ⊥
IsOverfull at operators (Depth k) = (k ≡ at) × (1000 ≤ operators)
IsOverfull at operators Memory = Unit {0}

-- the word of an integer type with a size stands there, or none does
pub record IsSized (kind : Option Kind) : Type 0 where
  pub begins : act P.type kind ≡ before (act P.width_or_none kind) (P.shape_or_none ∷ [])
  pub real : IsReal (act P.width_or_none kind)

pub record IsUnsized (kind : Option Kind) : Type 0 where
  pub skipped : act P.width_or_none kind ≡ skip

-- a cast begins there: a bracket and a type
abbrev pub IsCast : List Token → ℕ → Type 0
IsCast tokens at = (token_kind tokens at ≡ Some (K.Mark M.LeftParen)) × (is_taken (type_action (token_kind tokens (at + 1))) ≡ true)

-- what an operand does in which no expression stands
abbrev pub plain_marks : Mark → Action
plain_marks M.Dot = take_it 1 (P.steps ∷ [])
plain_marks M.PositionsOf = take_it 0 (P.operands_of M.PositionsOf ∷ P.steps ∷ [])
plain_marks M.RankOf = take_it 0 (P.operands_of M.RankOf ∷ P.steps ∷ [])
plain_marks M.GetChar = take_it 0 (P.operands_of M.GetChar ∷ P.steps ∷ [])
plain_marks _ = refuse

abbrev pub plain_action : Option Kind → Action
plain_action (Some (K.Num _ _)) = take_it 0 (P.steps ∷ [])
plain_action kind = at_mark plain_marks refuse kind

-- ---- parts of a whole expression

-- the verdict goes on so, and it is this one there
pub record Goes (tokens : List Token) (open_levels at n : ℕ) (parts : List Part) (to m : ℕ) (left : List Part) : Type 0 where
  pub on : V.Goes tokens open_levels at n parts to m left

pub record Falls (tokens : List Token) (open_levels at n : ℕ) (parts : List Part) (v : Verdict) : Type 0 where
  pub to : V.Falls tokens open_levels at n parts v

-- the verdict is this fault; want of memory is none
abbrev pub Blames : List Token → ℕ → ℕ → ℕ → List Part → ParseFault → Type 0
Blames tokens open_levels at n parts (Syntax k) = Falls tokens open_levels at n parts (syntax_at k)
Blames tokens open_levels at n parts (Depth k) = Falls tokens open_levels at n parts (depth_at k)
Blames tokens open_levels at n parts Memory = Unit {0}

-- the reader follows the verdict, with these parts open before what is read and those left behind it
abbrev pub Follows : {A : Type 0} → List Token → ℕ → List Part → List Part → Spot → Spot → Result A ParseFault → Type 0
Follows tokens open_levels parts left old new (Ok _) = Goes tokens open_levels old.at old.operators parts new.at new.operators left
Follows tokens open_levels parts left old new (Err fault) = Blames tokens open_levels old.at old.operators parts fault
