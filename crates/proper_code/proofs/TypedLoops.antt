-- What the rules of typing give statements has each `break` and each `continue` in a loop.
use Rattle.std.proofs.Common.{◌≡◌, ℕ, ◌+◌, Bool, false, List, [], ◌∷◌, Option, Vec, refl, sym, ◌∙◌, subst}
use Rattle.std.specs.List.{All}
use Rattle.std.proofs.lemmas.List.Elements.{All-nil, All-cons}
use Rattle.std.specs.declared.alloc.Global.{Global}
use mathlib.Core.Former.{Count}
use Rattle.cstar_tree.specs.declared.syntax.Block.{Block}
use Rattle.cstar_tree.specs.declared.syntax.Declaration.{Declaration}
use Rattle.cstar_tree.specs.declared.syntax.Declarator.{Declarator}
use Rattle.cstar_tree.specs.declared.syntax.Parameter.{Parameter}
use Rattle.cstar_tree.specs.declared.syntax.Stmt.{Stmt}
use Rattle.cstar_tree.specs.declared.typed.Instance.{Instance}
use Rattle.cstar_tree.specs.declared.typed.LocalVar.{LocalVar}
use Rattle.cstar_tree.specs.declared.typed.TStmt.{TStmt, Row_of-TStmt, end_of-TStmt, more_of-TStmt, items-the_row-TStmt, items_hidden-the_row-TStmt-0}
use Rattle.cstar_tree.specs.declared.typed.TStmt as R
use Rattle.cstar_tree.specs.declared.typed.ValueType.{ValueType}
use Rattle.cstar_tree.specs.BlockScopes.{behind_declarations, behind_declarator, behind_declarators}
use Rattle.cstar_tree.specs.Headers.{Program, Reached, Returns, behind_parameter, behind_parameters, header_place}
use Rattle.cstar_tree.specs.ProgramTypes.{IsBody, TypesInstance, TypesInstances}
use Rattle.cstar_tree.specs.ProgramTypes as Z
use Rattle.cstar_tree.specs.Scopes.{Here, written_type}
use Rattle.cstar_tree.specs.StatementTypes.{TypesBlock, TypesStatement, TypesStatements}
use Rattle.cstar_tree.specs.StatementTypes as Y
use Rattle.proper_code.specs.Loops.{AllLeaveLoops, ElseLeavesLoops, LeavesLoops, TypedFilesStayInLoops}

-- ---- blocks as they stand in nodes

unfoldable EachLeaves : Bool → List TStmt → Type 0
EachLeaves looped [] = Unit {0}
EachLeaves looped (s ∷ ss) = LeavesLoops looped s × EachLeaves looped ss

abbrev typed_statements : TStmt → (k : Count) × Row_of-TStmt k
typed_statements (R.Block' _ _ row) = (_, row)
typed_statements _ = (_, end_of-TStmt)

row_leaves : (looped : Bool) (k : Count) (row : Row_of-TStmt k) → EachLeaves looped (items-the_row-TStmt k row) → AllLeaveLoops looped row
unfolding AllLeaveLoops EachLeaves
row_leaves looped k end_of-TStmt all = tt
row_leaves looped k (more_of-TStmt s rest) all = (all.0, row_leaves looped _ rest all.1)

block_leaves : (looped : Bool) (locals : Vec LocalVar Global) (statements : Vec TStmt Global) → EachLeaves looped statements.items → LeavesLoops looped (R.Block locals statements)
unfolding LeavesLoops
block_leaves looped locals statements all =
    let row = typed_statements (R.Block locals statements) in
    row_leaves looped row.0 row.1 (subst (EachLeaves looped) (sym (items_hidden-the_row-TStmt-0 statements)) all)

-- ---- declarations leave a place in its loop

declarators_stay : (here : Here) (ty : Option ValueType) (ds : List Declarator) → (behind_declarators here ty ds).loop ≡ here.loop
unfolding behind_declarators
declarators_stay here ty [] = refl
declarators_stay here ty (d ∷ ds) = declarators_stay (behind_declarator here ty d) ty ds

declarations_stay : (here : Here) (ds : List Declaration) → (behind_declarations here ds).loop ≡ here.loop
unfolding behind_declarations
declarations_stay here [] = refl
declarations_stay here (d ∷ ds) = declarations_stay (behind_declarators here (written_type here d.type_name) d.variables.items) ds ∙ declarators_stay here (written_type here d.type_name) d.variables.items

parameters_stay : (here : Here) (number : ℕ) (ps : List Parameter) → (behind_parameters here number ps).loop ≡ here.loop
unfolding behind_parameters
parameters_stay here number [] = refl
parameters_stay here number (p ∷ ps) = parameters_stay (behind_parameter here number p) (number + 1) ps

-- ---- statements

module _ (program : Program) (returns : Returns) where
  mutual
    unfolding LeavesLoops ElseLeavesLoops EachLeaves

    statement_leaves : {here : Here} {s : Stmt} {f : TStmt} → TypesStatement program returns here s f → LeavesLoops here.loop f
    statement_leaves (Y.block_is {here = here} locals statements at) = block_leaves here.loop locals statements (parts_leave at)
    statement_leaves (Y.expression at) = tt
    statement_leaves Y.empty = tt
    statement_leaves (Y.if_alone second a test at) = (statement_leaves at, tt)
    statement_leaves (Y.if_else second third a b test at other) = (statement_leaves at, statement_leaves other)
    statement_leaves (Y.while body b test at) = statement_leaves at
    statement_leaves (Y.do_while body b at test) = statement_leaves at
    statement_leaves (Y.for body b first test step at) = statement_leaves at
    statement_leaves (Y.break loop) = loop
    statement_leaves (Y.continue loop) = loop
    statement_leaves Y.return_alone = tt
    statement_leaves (Y.return_value at is) = tt
    statement_leaves (Y.with body b is at) = statement_leaves at
    statement_leaves (Y.everywhere body b is at) = statement_leaves at
    statement_leaves (Y.where_alone second a is test parallel at) = (statement_leaves at, tt)
    statement_leaves (Y.where_else second third a b is test parallel at other) = (statement_leaves at, statement_leaves other)

    statements_leave : {here : Here} {ss : List Stmt} {ts : List TStmt} → TypesStatements program returns here ss ts → EachLeaves here.loop ts
    statements_leave Y.no_statement = tt
    statements_leave (Y.next_statement at more) = (statement_leaves at, statements_leave more)

    parts_leave : {here : Here} {block : Block} {locals : List LocalVar} {statements : List TStmt} → TypesBlock program returns here block locals statements → EachLeaves here.loop statements
    parts_leave {here = here} {statements = statements} (Y.block block declarations at) =
        subst (λ (looped : Bool). EachLeaves looped statements) (declarations_stay here block.declarations.items) (statements_leave at)

  body_leaves : {here : Here} {block : Block} {locals : List LocalVar} {statements : List TStmt} {body : TStmt} → TypesBlock program returns here block locals statements → IsBody locals statements body → LeavesLoops here.loop body
  body_leaves {here = here} at (Z.body ls ss locals_are statements_are) = block_leaves here.loop ls ss (subst (EachLeaves here.loop) (sym statements_are) (parts_leave at))

-- ---- files

abbrev Leaves : Instance → Type 0
Leaves i = LeavesLoops false i.body

instance_leaves : {program : Program} {shapes : List (List ℕ)} {r : Reached} {i : Instance} → TypesInstance program shapes r i → Leaves i
instance_leaves {program = program} {shapes = shapes} {r = r} {i = i} is =
    subst (λ (looped : Bool). LeavesLoops looped i.body) (parameters_stay (header_place shapes is.placed r) 0 is.placed.function.parameters.items) (body_leaves program _ is.block is.body)

instances_leave : {program : Program} {shapes : List (List ℕ)} {rs : List Reached} {is : List Instance} → TypesInstances program shapes rs is → All Leaves is
instances_leave Z.no_instance = All-nil Leaves
instances_leave (Z.next_instance {i = i} {is = is} own more) = All-cons Leaves i is (instance_leaves own) (instances_leave more)

pub files_stay : TypedFilesStayInLoops
files_stay tree typed file = instances_leave file.instances
