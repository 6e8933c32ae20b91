-- The variables that the blocks of a statement declare.
use Rattle.std.specs.Prelude.{List, [], ◌++◌, map}
use Rattle.cstar_tree.specs.declared.typed.LocalVar.{LocalVar}
use Rattle.cstar_tree.specs.declared.typed.TStmt.{TStmt}
use Rattle.cstar_tree.specs.declared.typed.TStmt.TheFolds.{fold-TStmt}
use Rattle.cstar_tree.specs.declared.typed.TStmt.TheOpen.{TStmt-F}
use Rattle.cstar_tree.specs.declared.typed.VarInfo.{VarInfo}
use Rattle.cstar_tree.specs.TypedParts.{concat, statements_of}

-- those that a statement declares itself
unfoldable pub declared_by : {A : Type 0} → TStmt-F A → List VarInfo
declared_by (TStmt-F.Block locals statements) = map (λ (local : LocalVar). local.info) locals.items
declared_by _ = []

unfoldable pub variables_step : TStmt-F (List VarInfo) → List VarInfo
variables_step node = declared_by node ++ concat (statements_of node)

-- its own and those of the statements in it, in the order of the text
abbrev pub variables_of : TStmt → List VarInfo
variables_of = fold-TStmt (List VarInfo) variables_step
