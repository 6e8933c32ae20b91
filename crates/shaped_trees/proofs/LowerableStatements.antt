-- What the rules of typing give statements and declarations is lowerable.
use Rattle.std.proofs.Common.{◌≡◌, ℕ, Bool, true, false, is_none, is_some, IfSome, List, Option, Some, None, refl, ap, ◌∙◌, sym, subst}
use Rattle.std.specs.List.{All}
use Rattle.std.proofs.lemmas.List.Elements.{All-append, All-nil, All-cons, All-head, All-tail}
use Rattle.cstar_tree.specs.declared.syntax.Block.{Block}
use Rattle.cstar_tree.specs.declared.syntax.Declaration.{Declaration}
use Rattle.cstar_tree.specs.declared.syntax.Declarator.{Declarator}
use Rattle.cstar_tree.specs.declared.syntax.Expr.{Expr}
use Rattle.cstar_tree.specs.declared.syntax.Initializer.{Initializer}
use Rattle.cstar_tree.specs.declared.syntax.Stmt.{Stmt}
use Rattle.cstar_tree.specs.declared.typed.LocalVar.{LocalVar}
use Rattle.cstar_tree.specs.declared.typed.TExpr.{TExpr}
use Rattle.cstar_tree.specs.declared.typed.TStmt.{TStmt}
use Rattle.cstar_tree.specs.declared.typed.Typed.{Typed}
use Rattle.cstar_tree.specs.declared.typed.ValueType.{ValueType}
use Rattle.cstar_tree.specs.declared.typed.VarInfo.{VarInfo}
use Rattle.cstar_tree.specs.BlockScopes.{behind_declarations, behind_declarator, behind_declarators, block_place, in_loop}
use Rattle.cstar_tree.specs.ExpressionTypes.{Types}
use Rattle.cstar_tree.specs.Headers.{Program, Returns}
use Rattle.cstar_tree.specs.ProgramTypes.{TypesResult}
use Rattle.cstar_tree.specs.ProgramTypes as P
use Rattle.cstar_tree.specs.Scopes.{Here, VariableType, as_whole, under}
use Rattle.cstar_tree.specs.StatementTypes.{IsDeclarable, IsReturned, TypesBlock, TypesDeclarations, TypesEffectIf, TypesInitial, TypesLocal, TypesLocals, TypesStatement, TypesStatements, TypesTest, TypesTestIf}
use Rattle.cstar_tree.specs.StatementTypes as Y
use Rattle.cstar_tree.specs.Typed.{type_of}
use Rattle.shaped_trees.specs.Casts.{BlockNamesShapes, DeclarationNamesShapes, DeclaratorNamesShapes, ElseNamesShapes, ExpressionNamesShapes, StatementNamesShapes}
use Rattle.code_lengths.specs.Lowerable.{InField, IsLowerable, IsValueFor}
use Rattle.code_lengths.specs.LowerableStatements.{IsLowerableElse, IsLowerableLocal, IsLowerableStatement, IsTest}
use Rattle.shaped_trees.specs.Places.{IsInside, IsSound}
use Rattle.shaped_trees.proofs.ExpressionShapes.{given}
use Rattle.shaped_trees.proofs.Known.{behind_it, in_block, in_body, in_shape, in_whole}
use Rattle.shaped_trees.proofs.LowerableExpressions.{lowers}
use Rattle.shaped_trees.proofs.Rows.{block_lowerable, block_of_statement}
use Rattle.shaped_trees.proofs.Standing.{IsPart, as_part, part_fitted, value_for}
use Rattle.shaped_trees.proofs.StatementShapes.{behind_one}

-- what is given back is for the result
result_value : {t : Typed} {here : Here} {returns : Returns} {word : List ℕ} {result : Option VarInfo} {e f : TExpr} →
    IsReturned here returns e f → TypesResult word returns result → IsPart t e → IfSome result (λ (info : VarInfo). IsValueFor t info.shape f)
result_value (Y.returned {ty = ty} at_hand takes fit) P.result p = value_for ty fit p takes

returned_lowerable : {t : Typed} {here : Here} {returns : Returns} {e f : TExpr} → IsReturned here returns e f → IsPart t e → IsLowerable t f
returned_lowerable (Y.returned at_hand takes fit) p = let brought = part_fitted fit p in brought.lowerable

module _ (program : Program) (typed : Typed) where
  -- a place of a statement
  pub record IsPlace (here : Here) : Type 0 where
    pub sound : IsSound here
    pub inside : IsInside program typed here
    pub not_whole : here.whole ≡ false

  value : {here : Here} {e : Expr} {t : TExpr} → Types program here e t true → IsPlace here → ExpressionNamesShapes e → IsPart typed t
  value at p w = as_part p.not_whole (given program at p.sound w) (lowers program typed at p.sound p.inside w)

  -- ---- declarations

  -- a variable with an initialiser is no array
  no_array : {variable : VariableType} {initial : Option Initializer} → IsDeclarable variable initial → is_some initial ≡ true → variable.array ≡ None
  no_array Y.plain is = refl
  no_array (Y.array shape least most) is = absurd (cc)

  initial_lowerable : {here : Here} {variable : VariableType} {i : Option Initializer} {f : Option TExpr} → IsDeclarable variable i → TypesInitial program here variable.value i f → IsPlace here →
      IfSome i (λ (i : Initializer). ExpressionNamesShapes i.value) → IfSome f (λ (e : TExpr). (variable.array ≡ None) × IsValueFor typed variable.value.shape e × IsLowerable typed e)
  initial_lowerable allowed Y.no_initial p w = tt
  initial_lowerable {variable = variable} allowed (Y.initial at at_hand takes fit) p w =
      let g = value at p w in
      let brought = part_fitted fit g in
      (no_array allowed refl, value_for variable.value fit g takes, brought.lowerable)

  behind_name_place : (here : Here) (ty : ValueType) (d : Declarator) (local : LocalVar) → TypesLocal program here ty d local → IsPlace here → IsPlace (behind_declarator here (Some ty) d)
  behind_name_place here ty d local at p =
      record { sound = behind_one program here ty d local at p.sound; inside = record { around = p.inside.around; instances = p.inside.instances }; not_whole = p.not_whole }

  local_lowerable : (here : Here) (ty : ValueType) (d : Declarator) (local : LocalVar) → TypesLocal program here ty d local → IsPlace here → DeclaratorNamesShapes d → IsLowerableLocal typed local
  unfolding DeclaratorNamesShapes
  local_lowerable here ty d local at p w =
      subst (λ (info : VarInfo). IfSome local.initial (λ (e : TExpr). (info.array ≡ None) × IsValueFor typed info.shape e × IsLowerable typed e)) (sym at.info)
      (initial_lowerable at.declarable at.initial (behind_name_place here ty d local at p) w.1)

  record Declares (behind_them : Here) (locals : List LocalVar) : Type 0 where
    place : IsPlace behind_them
    lowerable : All (IsLowerableLocal typed) locals

  locals_lowerable : {here : Here} {ty : ValueType} {ds : List Declarator} {ls : List LocalVar} → TypesLocals program here ty ds ls → IsPlace here → All DeclaratorNamesShapes ds → Declares (behind_declarators here (Some ty) ds) ls
  unfolding behind_declarators
  locals_lowerable Y.no_variable p w = record { place = p; lowerable = All-nil (IsLowerableLocal typed) }
  locals_lowerable (Y.next_variable {here = here} {ty = ty} {d = d} {ds = ds} {l = l} {ls = ls} at more) p w =
      let rest = locals_lowerable more (behind_name_place here ty d l at p) (All-tail DeclaratorNamesShapes d ds w) in
      record { place = rest.place; lowerable = All-cons (IsLowerableLocal typed) l ls (local_lowerable here ty d l at p (All-head DeclaratorNamesShapes d ds w)) rest.lowerable }

  declared : {here : Here} {ds : List Declaration} {ls : List LocalVar} → TypesDeclarations program here ds ls → IsPlace here → All DeclarationNamesShapes ds → Declares (behind_declarations here ds) ls
  unfolding behind_declarations DeclarationNamesShapes
  declared Y.no_declaration p w = record { place = p; lowerable = All-nil (IsLowerableLocal typed) }
  declared (Y.next_declaration {here = here} {ty = ty} {d = d} {ds = ds} {ls = ls} {rest = rest} is at more) p w =
      let first = locals_lowerable at p (All-head DeclarationNamesShapes d ds w) in
      let others = declared more first.place (All-tail DeclarationNamesShapes d ds w) in
      record {
        place = subst (λ (known : Option ValueType). IsPlace (behind_declarations (behind_declarators here known d.variables.items) ds)) (sym is) others.place;
        lowerable = All-append (IsLowerableLocal typed) ls rest first.lowerable others.lowerable;
      }

  pub declarations_lowerable : {here : Here} {ds : List Declaration} {ls : List LocalVar} → TypesDeclarations program here ds ls → IsPlace here → All DeclarationNamesShapes ds → All (IsLowerableLocal typed) ls
  declarations_lowerable at p w = let d = declared at p w in d.lowerable

  -- ---- statements

  test_lowerable : {here : Here} {e : Expr} {t : TExpr} → TypesTest program here e t → IsPlace here → ExpressionNamesShapes e → IsTest typed t
  test_lowerable test p w =
      let g = value test.typed p w in
      ((g.gives, g.shaped.kept ∙ ap is_none test.is_scalar), g.lowerable)

  whole_lowerable : {here : Here} {e : Expr} {t : TExpr} {has_value : Bool} → Types program (as_whole here) e t has_value → IsPlace here → ExpressionNamesShapes e → IsLowerable typed t
  whole_lowerable {here = here} at p w =
      let g = lowers program typed at (in_whole here p.sound) (record { around = p.inside.around; instances = p.inside.instances }) w in
      g.lowerable

  effect_lowerable : {here : Here} {e : Option Expr} {t : Option TExpr} → TypesEffectIf program here e t → IsPlace here → IfSome e ExpressionNamesShapes → IfSome t (IsLowerable typed)
  effect_lowerable Y.TypesEffectIf.absent p w = tt
  effect_lowerable (Y.TypesEffectIf.present at) p w = whole_lowerable at p w

  test_if_lowerable : {here : Here} {e : Option Expr} {t : Option TExpr} → TypesTestIf program here e t → IsPlace here → IfSome e ExpressionNamesShapes → IfSome t (IsTest typed)
  test_if_lowerable Y.TypesTestIf.absent p w = tt
  test_if_lowerable (Y.TypesTestIf.present test) p w = test_lowerable test p w

  where_lowerable : {here : Here} {e : Expr} {t : TExpr} {of : ℕ} → Types program here e t true → (type_of t).shape ≡ Some of → IsPlace here → ExpressionNamesShapes e → InField typed t × IsLowerable typed t
  where_lowerable at parallel p w =
      let g = value at p w in
      ((g.gives, g.shaped.kept ∙ ap is_none parallel), g.lowerable)

  place_of_block : (here : Here) → IsPlace here → IsPlace (block_place here)
  place_of_block here p = record { sound = in_block here p.sound; inside = record { around = p.inside.around; instances = p.inside.instances }; not_whole = p.not_whole }

  place_of_body : (here : Here) → IsPlace here → IsPlace (in_loop here)
  place_of_body here p = record { sound = in_body here p.sound; inside = record { around = p.inside.around; instances = p.inside.instances }; not_whole = p.not_whole }

  place_behind : (here : Here) (locals : ℕ) → IsPlace here → IsPlace (record here { locals = locals })
  place_behind here locals p = record { sound = behind_it here locals p.sound; inside = record { around = p.inside.around; instances = p.inside.instances }; not_whole = p.not_whole }

  place_under : (here : Here) (shape : ℕ) → IsPlace here → IsPlace (under here shape)
  place_under here shape p = record { sound = in_shape here shape p.sound; inside = record { around = p.inside.around; instances = p.inside.instances }; not_whole = p.not_whole }

  module _ {returns : Returns} {word : List ℕ} {result : Option VarInfo} (r : TypesResult word returns result) where
    mutual
      unfolding IsLowerableStatement IsLowerableElse StatementNamesShapes ElseNamesShapes BlockNamesShapes

      pub statement_lowerable : {here : Here} {stmt : Stmt} {t : TStmt} → TypesStatement program returns here stmt t → IsPlace here → StatementNamesShapes stmt → IsLowerableStatement typed result t
      statement_lowerable (Y.block_is {here = here} {block = block} locals statements at) p w =
          let parts = parts_lowerable at (place_of_block here p) (block_of_statement block w) in
          block_lowerable typed result locals statements parts.0 parts.1
      statement_lowerable (Y.expression at) p w = whole_lowerable at p w
      statement_lowerable Y.empty p w = tt
      statement_lowerable (Y.if_alone second a test at) p w = (test_lowerable test p w.0, statement_lowerable at p w.1, tt)
      statement_lowerable (Y.if_else {here = here} second third a b test at other) p w = (test_lowerable test p w.0, statement_lowerable at p w.1, statement_lowerable other (place_behind here _ p) w.2)
      statement_lowerable (Y.while {here = here} body b test at) p w = (test_lowerable test p w.0, statement_lowerable at (place_of_body here p) w.1)
      statement_lowerable (Y.do_while {here = here} body b at test) p w = (statement_lowerable at (place_of_body here p) w.0, test_lowerable test p w.1)
      statement_lowerable (Y.for {here = here} body b first test step at) p w =
          (effect_lowerable first p w.0, test_if_lowerable test p w.1, effect_lowerable step p w.2, statement_lowerable at (place_of_body here p) w.3)
      statement_lowerable (Y.break loop) p w = tt
      statement_lowerable (Y.continue loop) p w = tt
      statement_lowerable Y.return_alone p w = tt
      statement_lowerable (Y.return_value at is) p w = let g = value at p w in (result_value is r g, returned_lowerable is g)
      statement_lowerable (Y.with {here = here} {shape = shape} body b is at) p w = statement_lowerable at (place_under here shape p) w
      statement_lowerable (Y.everywhere body b is at) p w = statement_lowerable at p w
      statement_lowerable (Y.where_alone second a is test parallel at) p w =
          let t = where_lowerable test parallel p w.0 in
          (t.0, t.1, statement_lowerable at p w.1, tt)
      statement_lowerable (Y.where_else {here = here} second third a b is test parallel at other) p w =
          let t = where_lowerable test parallel p w.0 in
          (t.0, t.1, statement_lowerable at p w.1, statement_lowerable other (place_behind here _ p) w.2)

      pub statements_lowerable : {here : Here} {stmts : List Stmt} {ts : List TStmt} → TypesStatements program returns here stmts ts → IsPlace here → All StatementNamesShapes stmts → All (IsLowerableStatement typed result) ts
      statements_lowerable Y.no_statement p w = All-nil (IsLowerableStatement typed result)
      statements_lowerable (Y.next_statement {here = here} {s = stmt} {t = t} {ss = stmts} {ts = ts} at more) p w =
          All-cons (IsLowerableStatement typed result) t ts (statement_lowerable at p (All-head StatementNamesShapes stmt stmts w))
          (statements_lowerable more (place_behind here _ p) (All-tail StatementNamesShapes stmt stmts w))

      pub parts_lowerable : {here : Here} {block : Block} {locals : List LocalVar} {statements : List TStmt} → TypesBlock program returns here block locals statements → IsPlace here → BlockNamesShapes block →
          All (IsLowerableLocal typed) locals × All (IsLowerableStatement typed result) statements
      parts_lowerable (Y.block block declarations at) p w =
          let d = declared declarations p w.0 in
          (d.lowerable, statements_lowerable at d.place w.1)
