-- Which functions are called, and under which current shape.
use Rattle.std.specs.Prelude.{ℕ, Bool, true, false, List, [], ◌∷◌, ◌++◌, map, Option, Some, None}
use Rattle.cstar_tree.specs.declared.syntax.Declaration.{Declaration}
use Rattle.cstar_tree.specs.declared.syntax.Declarator.{Declarator}
use Rattle.cstar_tree.specs.declared.syntax.Expr.{Expr}
use Rattle.cstar_tree.specs.declared.syntax.Expr.TheOpen.{Expr-F}
use Rattle.cstar_tree.specs.declared.syntax.Expr.TheFolds.{fold-Expr}
use Rattle.cstar_tree.specs.declared.syntax.Block.{Block}
use Rattle.cstar_tree.specs.declared.syntax.Stmt.{Stmt}
use Rattle.cstar_tree.specs.declared.syntax.Stmt.TheOpen.{Block-F, Stmt-F}
use Rattle.cstar_tree.specs.declared.syntax.Stmt.TheFolds.{fold-Stmt}
use Rattle.cstar_tree.specs.declared.typed.ValueType.{ValueType}
use Rattle.cstar_tree.specs.BlockScopes.{behind_declarations, behind_declarator, behind_declarators, block_place}
use Rattle.cstar_tree.specs.Scopes.{Here, Meaning, a_function, a_shape, a_variable, meaning, shape_of, under, written_type}
use Rattle.cstar_tree.specs.SyntaxParts.{expressions_of, initial_values, parts_of, statements_of}
use Rattle.cstar_tree.specs.TypedParts.{concat, optional}

-- a call of a function, and the current shape at its place; under a `with` that names no shape it is
-- not typed
pub record Call : Type 0 where
  pub function : ℕ
  pub current : Option ℕ
  pub typed : Bool

abbrev pub call_of : Here → Option Meaning → List Call
call_of here None = []
call_of here (Some (a_shape s)) = []
call_of here (Some (a_function f)) = record { function = f; current = here.current; typed = true } ∷ []
call_of here (Some (a_variable v t)) = []

-- a call is met behind its arguments
abbrev pub call_step : Here → Expr-F (List Call) → List Call
call_step here (Expr-F.Call n arguments) = concat arguments.items ++ call_of here (meaning here n.word)
call_step here node = concat (parts_of node)

-- the calls of an expression, in text order
abbrev pub calls_in : Here → Expr → List Call
calls_in here = fold-Expr (List Call) (call_step here)

abbrev pub calls_in_each : Here → List Expr → List Call
calls_in_each here es = concat (map (calls_in here) es)

-- the calls of declarations: those of a length stand before the name, those of an initialiser behind
unfoldable pub calls_in_declarators : Here → Option ValueType → List Declarator → List Call
calls_in_declarators here ty [] = []
calls_in_declarators here ty (d ∷ ds) =
    calls_in_each here (optional d.length) ++ calls_in_each (behind_declarator here ty d) (initial_values d.initial) ++ calls_in_declarators (behind_declarator here ty d) ty ds

unfoldable pub calls_in_declarations : Here → List Declaration → List Call
calls_in_declarations here [] = []
calls_in_declarations here (d ∷ ds) =
    calls_in_declarators here (written_type here d.type_name) d.variables.items ++ calls_in_declarations (behind_declarators here (written_type here d.type_name) d.variables.items) ds

unfoldable pub at_each : Here → List (Here → List Call) → List Call
at_each here [] = []
at_each here (calls ∷ rest) = calls here ++ at_each here rest

abbrev pub untyped : List Call → List Call
untyped calls = map (λ (c : Call). record c { typed = false }) calls

abbrev pub within : Here → Option ℕ → (Here → List Call) → List Call
within here None calls = untyped (calls here)
within here (Some shape) calls = calls (under here shape)

abbrev pub statement_step : Stmt-F (Here → List Call) (Here → List Call) → Here → List Call
statement_step (Stmt-F.Block block) here = block (block_place here)
statement_step (Stmt-F.With p shape body) here = within here (shape_of here shape) body.value
statement_step (Stmt-F.Do p body test) here = body.value here ++ calls_in here test
statement_step node here = calls_in_each here (expressions_of node) ++ at_each here (statements_of node)

abbrev pub block_step : Block-F (Here → List Call) (Here → List Call) → Here → List Call
block_step block here = calls_in_declarations here block.declarations.items ++ at_each (behind_declarations here block.declarations.items) block.statements.items

-- the calls of a statement, and of a block in the scope of this place, in text order
abbrev pub calls_in_statement : Stmt → Here → List Call
calls_in_statement = fold-Stmt (Here → List Call) (Here → List Call) statement_step block_step

abbrev pub calls_in_block : Block → Here → List Call
calls_in_block block here = calls_in_declarations here block.declarations.items ++ at_each (behind_declarations here block.declarations.items) (map calls_in_statement block.statements.items)
