-- The reader follows the verdict of the table of open parts outside whole expressions and types, where
-- no operators are counted.
use Rattle.std.specs.Prelude.{◌≡◌, ℕ, List, [], ◌++◌, Bool, ◌||◌, true, false, Option, Some, Result, Ok, Err}
use Rattle.cstar_tree.specs.declared.token.Token.{Token}
use Rattle.cstar_tree.specs.declared.token.Kind.{Kind}
use Rattle.cstar_tree.specs.declared.token.Kind.TheVariants as K
use Rattle.cstar_tree.specs.declared.token.Mark.TheVariants as M
use Rattle.grammar_parts.specs.Actions.{statement_action, unary_action}
use Rattle.grammar_parts.specs.Parts.{Part, is_taken, levels}
use Rattle.grammar_parts.specs.Verdicts.{Verdict, depth_at, read, syntax_at, verdict_at, verdict_on}
use Rattle.cstar_parser.specs.declared.fault.ParseFault.{ParseFault}
use Rattle.cstar_parser.specs.declared.fault.ParseFault.TheVariants.{Syntax, Depth, Memory}
use Rattle.cstar_parser.specs.declared.spot.Spot.{Spot}

-- the verdict goes on so, with these parts open before and those left behind, and it is this one there
pub record Passes (tokens : List Token) (open_levels at : ℕ) (parts : List Part) (to : ℕ) (left : List Part) : Type 0 where
  pub on : (outside : List Part) → levels outside ≡ open_levels → verdict_at tokens at [] 0 (parts ++ outside) ≡ verdict_at tokens to [] 0 (left ++ outside)

pub record Fails (tokens : List Token) (open_levels at : ℕ) (parts : List Part) (v : Verdict) : Type 0 where
  pub to : (outside : List Part) → levels outside ≡ open_levels → verdict_at tokens at [] 0 (parts ++ outside) ≡ v

-- the verdict is this fault; want of memory is none
abbrev pub Accuses : List Token → ℕ → ℕ → List Part → ParseFault → Type 0
Accuses tokens open_levels at parts (Syntax k) = Fails tokens open_levels at parts (syntax_at k)
Accuses tokens open_levels at parts (Depth k) = Fails tokens open_levels at parts (depth_at k)
Accuses tokens open_levels at parts Memory = Unit {0}

-- the reader follows the verdict
abbrev pub Traces : {A : Type 0} → List Token → ℕ → List Part → List Part → Spot → Spot → Result A ParseFault → Type 0
Traces tokens open_levels parts left old new (Ok _) = Passes tokens open_levels old.at parts new.at left
Traces tokens open_levels parts left old new (Err fault) = Accuses tokens open_levels old.at parts fault

-- whether a statement begins with what stands there
abbrev pub begins_statement : Option Kind → Bool
begins_statement kind = is_taken (statement_action kind) || is_taken (unary_action kind)

-- whether an `if` or a `where` does
abbrev pub is_branch : Option Kind → Bool
is_branch (Some (K.Mark M.If)) = true
is_branch (Some (K.Mark M.Where)) = true
is_branch _ = false

-- whether a `break`, a `continue` or a `return` does
abbrev pub is_jump : Option Kind → Bool
is_jump (Some (K.Mark M.Break)) = true
is_jump (Some (K.Mark M.Continue)) = true
is_jump (Some (K.Mark M.Return)) = true
is_jump _ = false

-- what is answered for a whole text is the verdict on it
abbrev pub IsVerdictFault : List Token → ParseFault → Type 0
IsVerdictFault tokens (Syntax k) = verdict_on tokens ≡ syntax_at k
IsVerdictFault tokens (Depth k) = verdict_on tokens ≡ depth_at k
IsVerdictFault tokens Memory = Unit {0}

abbrev pub IsVerdict : {A : Type 0} → List Token → Result A ParseFault → Type 0
IsVerdict tokens (Ok _) = verdict_on tokens ≡ read
IsVerdict tokens (Err fault) = IsVerdictFault tokens fault
