-- What the rules of typing give statements and declarations is shaped.
use Rattle.std.proofs.Common.{◌≡◌, ◌+◌, Bool, true, is_none, IfSome, List, [], ◌∷◌, ◌++◌, Option, Some, ap, ◌∙◌, sym, subst}
use Rattle.std.specs.List.{All}
use Rattle.std.proofs.lemmas.List.Elements.{All-nil, All-cons, All-head, All-tail}
use Rattle.cstar_tree.specs.declared.syntax.Block.{Block}
use Rattle.cstar_tree.specs.declared.syntax.Declaration.{Declaration}
use Rattle.cstar_tree.specs.declared.syntax.Declarator.{Declarator}
use Rattle.cstar_tree.specs.declared.syntax.Expr.{Expr}
use Rattle.cstar_tree.specs.declared.syntax.Initializer.{Initializer}
use Rattle.cstar_tree.specs.declared.syntax.Stmt.{Stmt}
use Rattle.cstar_tree.specs.declared.typed.LocalVar.{LocalVar}
use Rattle.cstar_tree.specs.declared.typed.TExpr.{TExpr}
use Rattle.cstar_tree.specs.declared.typed.TStmt.{TStmt}
use Rattle.cstar_tree.specs.declared.typed.ValueType.{ValueType}
use Rattle.cstar_tree.specs.declared.typed.VarInfo.{VarInfo}
use Rattle.cstar_tree.specs.declared.typed.Variable.TheVariants as V
use Rattle.cstar_tree.specs.BlockScopes.{behind_declarations, behind_declarator, behind_declarators, declared_type}
use Rattle.cstar_tree.specs.ExpressionTypes.{Types}
use Rattle.cstar_tree.specs.Headers.{Program, Returns}
use Rattle.cstar_tree.specs.Scopes.{Here, a_variable}
use Rattle.cstar_tree.specs.StatementTypes.{IsReturned, TypesBlock, TypesDeclarations, TypesEffectIf, TypesInitial, TypesLocal, TypesLocals, TypesStatement, TypesStatements, TypesTest, TypesTestIf}
use Rattle.cstar_tree.specs.StatementTypes as Y
use Rattle.code_lengths.specs.Shaped.{IsShaped}
use Rattle.code_lengths.specs.ShapedStatements.{AreShapedLocals, IsShapedElse, IsShapedInitial, IsShapedPart, IsShapedStatement}
use Rattle.shaped_trees.specs.Casts.{BlockNamesShapes, DeclarationNamesShapes, DeclaratorNamesShapes, ElseNamesShapes, ExpressionNamesShapes, StatementNamesShapes}
use Rattle.shaped_trees.specs.Places.{IsSound}
use Rattle.shaped_trees.proofs.Bringing.{fitted, fitted_shape}
use Rattle.shaped_trees.proofs.ExpressionShapes.{given}
use Rattle.shaped_trees.proofs.Known.{behind_it, behind_name, declarable, in_block, in_body, in_shape, in_whole, of_type}
use Rattle.shaped_trees.proofs.Rows.{block_of_statement, block_shaped}

module _ (program : Program) where
  -- ---- declarations

  shaped : {here : Here} {e : Expr} {t : TExpr} {has_value : Bool} → Types program here e t has_value → IsSound here → ExpressionNamesShapes e → IsShaped t
  shaped typed s w = let g = given program typed s w in g.shaped

  initial_shaped : {here : Here} {ty : ValueType} {i : Option Initializer} {f : Option TExpr} → TypesInitial program here ty i f → IsSound here → IfSome i (λ (i : Initializer). ExpressionNamesShapes i.value) → (info : VarInfo) → info.shape ≡ ty.shape → IsShapedInitial info f
  unfolding IsShapedInitial
  initial_shaped Y.no_initial s w info same = tt
  initial_shaped {ty = ty} (Y.initial typed at_hand takes fit) s w info same =
      let g = given program typed s w in
      (ap is_none same ∙ fitted_shape ty fit takes, fitted fit g)

  pub record Declares (behind_them : Here) (locals : List LocalVar) : Type 0 where
    pub sound : IsSound behind_them
    pub shaped : AreShapedLocals locals

  pub behind_one : (here : Here) (ty : ValueType) (d : Declarator) (local : LocalVar) → TypesLocal program here ty d local → IsSound here → IsSound (behind_declarator here (Some ty) d)
  behind_one here ty d local typed s =
      behind_name here d.name.word (a_variable (V.Local here.locals) (declared_type here (Some ty) d.length)) (here.locals + 1) s
      (of_type (V.Local here.locals) (declared_type here (Some ty) d.length) (λ given length is. declarable typed.declarable given length (sym typed.its_type ∙ is)))

  local_shaped : (here : Here) (ty : ValueType) (d : Declarator) (local : LocalVar) → TypesLocal program here ty d local → IsSound here → DeclaratorNamesShapes d → IsShapedInitial local.info local.initial
  unfolding DeclaratorNamesShapes
  local_shaped here ty d local typed s w =
      initial_shaped typed.initial (behind_one here ty d local typed s) w.1 local.info (ap (λ (info : VarInfo). info.shape) typed.info)

  locals_shaped : {here : Here} {ty : ValueType} {ds : List Declarator} {ls : List LocalVar} → TypesLocals program here ty ds ls → IsSound here → All DeclaratorNamesShapes ds → Declares (behind_declarators here (Some ty) ds) ls
  unfolding behind_declarators AreShapedLocals
  locals_shaped Y.no_variable s w = record { sound = s; shaped = tt }
  locals_shaped (Y.next_variable {here = here} {ty = ty} {d = d} {ds = ds} {l = l} {ls = ls} typed more) s w =
      let rest = locals_shaped more (behind_one here ty d l typed s) (All-tail DeclaratorNamesShapes d ds w) in
      record { sound = rest.sound; shaped = (local_shaped here ty d l typed s (All-head DeclaratorNamesShapes d ds w), rest.shaped) }

  both_shaped : (ls rest : List LocalVar) → AreShapedLocals ls → AreShapedLocals rest → AreShapedLocals (ls ++ rest)
  unfolding AreShapedLocals
  both_shaped [] rest a b = b
  both_shaped (l ∷ ls) rest a b = (a.0, both_shaped ls rest a.1 b)

  pub declarations_shaped : {here : Here} {ds : List Declaration} {ls : List LocalVar} → TypesDeclarations program here ds ls → IsSound here → All DeclarationNamesShapes ds → Declares (behind_declarations here ds) ls
  unfolding behind_declarations DeclarationNamesShapes AreShapedLocals
  declarations_shaped Y.no_declaration s w = record { sound = s; shaped = tt }
  declarations_shaped (Y.next_declaration {here = here} {ty = ty} {d = d} {ds = ds} {ls = ls} {rest = rest} is typed more) s w =
      let first = locals_shaped typed s (All-head DeclarationNamesShapes d ds w) in
      let others = declarations_shaped more first.sound (All-tail DeclarationNamesShapes d ds w) in
      record {
        sound = subst (λ (known : Option ValueType). IsSound (behind_declarations (behind_declarators here known d.variables.items) ds)) (sym is) others.sound;
        shaped = both_shaped ls rest first.shaped others.shaped;
      }

  -- ---- statements

  test_shaped : {here : Here} {e : Expr} {t : TExpr} → TypesTest program here e t → IsSound here → ExpressionNamesShapes e → IsShaped t
  test_shaped test s w = shaped test.typed s w

  effect_shaped : {here : Here} {e : Option Expr} {t : Option TExpr} → TypesEffectIf program here e t → IsSound here → IfSome e ExpressionNamesShapes → IsShapedPart t
  unfolding IsShapedPart
  effect_shaped Y.TypesEffectIf.absent s w = tt
  effect_shaped {here = here} (Y.TypesEffectIf.present typed) s w = shaped typed (in_whole here s) w

  test_if_shaped : {here : Here} {e : Option Expr} {t : Option TExpr} → TypesTestIf program here e t → IsSound here → IfSome e ExpressionNamesShapes → IsShapedPart t
  unfolding IsShapedPart
  test_if_shaped Y.TypesTestIf.absent s w = tt
  test_if_shaped (Y.TypesTestIf.present test) s w = test_shaped test s w

  returned_shaped : {here : Here} {e : Expr} {returns : Returns} {t f : TExpr} → IsReturned here returns t f → Types program here e t true → IsSound here → ExpressionNamesShapes e → IsShaped f
  returned_shaped (Y.returned at_hand takes fit) typed s w = let g = given program typed s w in fitted fit g

  module _ (returns : Returns) where
    mutual
      unfolding IsShapedStatement IsShapedPart IsShapedElse StatementNamesShapes ElseNamesShapes BlockNamesShapes

      pub statement_shaped : {here : Here} {stmt : Stmt} {t : TStmt} → TypesStatement program returns here stmt t → IsSound here → StatementNamesShapes stmt → IsShapedStatement t
      statement_shaped (Y.block_is {here = here} {block = block} locals statements typed) s w =
          let parts = parts_shaped typed (in_block here s) (block_of_statement block w) in
          block_shaped locals statements parts.0 parts.1
      statement_shaped (Y.expression {here = here} typed) s w = shaped typed (in_whole here s) w
      statement_shaped Y.empty s w = tt
      statement_shaped (Y.if_alone second a test typed) s w = (test_shaped test s w.0, statement_shaped typed s w.1, tt)
      statement_shaped (Y.if_else {here = here} second third a b test typed other) s w = (test_shaped test s w.0, statement_shaped typed s w.1, statement_shaped other (behind_it here _ s) w.2)
      statement_shaped (Y.while {here = here} body b test typed) s w = (test_shaped test s w.0, statement_shaped typed (in_body here s) w.1)
      statement_shaped (Y.do_while {here = here} body b typed test) s w = (statement_shaped typed (in_body here s) w.0, test_shaped test s w.1)
      statement_shaped (Y.for {here = here} body b first test step typed) s w = (effect_shaped first s w.0, test_if_shaped test s w.1, effect_shaped step s w.2, statement_shaped typed (in_body here s) w.3)
      statement_shaped (Y.break loop) s w = tt
      statement_shaped (Y.continue loop) s w = tt
      statement_shaped Y.return_alone s w = tt
      statement_shaped (Y.return_value typed is) s w = returned_shaped is typed s w
      statement_shaped (Y.with {here = here} {shape = shape} body b is typed) s w = statement_shaped typed (in_shape here shape s) w
      statement_shaped (Y.everywhere body b is typed) s w = statement_shaped typed s w
      statement_shaped (Y.where_alone second a is test parallel typed) s w = (shaped test s w.0, statement_shaped typed s w.1, tt)
      statement_shaped (Y.where_else {here = here} second third a b is test parallel typed other) s w = (shaped test s w.0, statement_shaped typed s w.1, statement_shaped other (behind_it here _ s) w.2)

      pub statements_shaped : {here : Here} {stmts : List Stmt} {ts : List TStmt} → TypesStatements program returns here stmts ts → IsSound here → All StatementNamesShapes stmts → All IsShapedStatement ts
      statements_shaped Y.no_statement s w = All-nil IsShapedStatement
      statements_shaped (Y.next_statement {here = here} {s = stmt} {t = t} {ss = stmts} {ts = ts} typed more) s w =
          All-cons IsShapedStatement t ts (statement_shaped typed s (All-head StatementNamesShapes stmt stmts w))
          (statements_shaped more (behind_it here _ s) (All-tail StatementNamesShapes stmt stmts w))

      pub parts_shaped : {here : Here} {block : Block} {locals : List LocalVar} {statements : List TStmt} → TypesBlock program returns here block locals statements → IsSound here → BlockNamesShapes block → AreShapedLocals locals × All IsShapedStatement statements
      parts_shaped (Y.block block declarations typed) s w =
          let declared = declarations_shaped declarations s w.0 in
          (declared.shaped, statements_shaped typed declared.sound w.1)
