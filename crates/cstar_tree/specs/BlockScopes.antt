-- The variables of blocks: where each begins to be known.
use Rattle.std.specs.Prelude.{◌+◌, ℤ, pos, negsuc, List, [], ◌∷◌, true, Option, Some, None}
use Rattle.cstar_tree.specs.declared.syntax.Declaration.{Declaration}
use Rattle.cstar_tree.specs.declared.syntax.Declarator.{Declarator}
use Rattle.cstar_tree.specs.declared.syntax.Expr.{Expr}
use Rattle.cstar_tree.specs.declared.syntax.Stmt.{Stmt}
use Rattle.cstar_tree.specs.declared.typed.ValueType.{ValueType}
use Rattle.cstar_tree.specs.declared.typed.Variable.TheVariants as V
use Rattle.cstar_tree.specs.Constants.{constant_number}
use Rattle.cstar_tree.specs.Headers.{plain_type}
use Rattle.cstar_tree.specs.Scopes.{Here, VariableType, a_variable, declared, opened, written_type}
use Rattle.cstar_tree.specs.SyntaxParts.{locals_in}

abbrev pub with_length : ValueType → Option ℤ → Option VariableType
with_length ty None = None
with_length ty (Some (pos n)) = Some (record { value = ty; array = Some n })
with_length ty (Some (negsuc n)) = None

-- the type of a declared variable, where that which is written and the length of an array have no
-- fault; the length is a constant expression
abbrev pub declared_type : Here → Option ValueType → Option Expr → Option VariableType
declared_type here ty None = plain_type ty
declared_type here None (Some length) = None
declared_type here (Some ty) (Some length) = with_length ty (constant_number here length)

-- A variable is known behind its declarator: in its own initialiser, but not in its own length.
-- All variables of blocks are numbered over the whole function.
abbrev pub behind_declarator : Here → Option ValueType → Declarator → Here
behind_declarator here ty d = record here {
  names = declared here.names d.name.word (a_variable (V.Local here.locals) (declared_type here ty d.length));
  locals = here.locals + 1;
}

unfoldable pub behind_declarators : Here → Option ValueType → List Declarator → Here
behind_declarators here ty [] = here
behind_declarators here ty (d ∷ ds) = behind_declarators (behind_declarator here ty d) ty ds

unfoldable pub behind_declarations : Here → List Declaration → Here
behind_declarations here [] = here
behind_declarations here (d ∷ ds) = behind_declarations (behind_declarators here (written_type here d.type_name) d.variables.items) ds

-- the place of a block, in a scope of its own
abbrev pub block_place : Here → Here
block_place here = record here { names = opened here.names }

-- the place behind a statement: its own variables are not known there, but numbered
abbrev pub behind : Here → Stmt → Here
behind here s = record here { locals = here.locals + locals_in s }

-- the place of the body of a loop
abbrev pub in_loop : Here → Here
in_loop here = record here { loop = true }
