-- Typed statements have no fault.
use Rattle.std.proofs.Common.{◌≡◌, ℕ, Bool, true, List, [], ◌∷◌, IfSome, Option, Some, sym, subst, ◌∙◌}
use Rattle.std.proofs.lemmas.Option.{none-some, same_Some}
use Rattle.cstar_base.specs.declared.faults.Fault.{Fault}
use Rattle.cstar_base.specs.declared.operators.Place.{Place}
use Rattle.cstar_tree.specs.declared.syntax.Block.{Block}
use Rattle.cstar_tree.specs.declared.syntax.Declaration.{Declaration}
use Rattle.cstar_tree.specs.declared.syntax.Expr.{Expr}
use Rattle.cstar_tree.specs.declared.syntax.Stmt.{Stmt, Row_of-Stmt, end_of-Stmt, more_of-Stmt, items-the_row-Stmt, items_hidden-the_row-Stmt-0, Held-Stmt-If-3, None', Some'}
use Rattle.cstar_tree.specs.declared.syntax.Stmt as S
use Rattle.cstar_tree.specs.declared.typed.LocalVar.{LocalVar}
use Rattle.cstar_tree.specs.declared.typed.TExpr.{TExpr}
use Rattle.cstar_tree.specs.declared.typed.TStmt.{TStmt}
use Rattle.cstar_tree.specs.Typed.{type_of}
use Rattle.cstar_tree.specs.BlockScopes.{behind, behind_declarations, block_place, in_loop}
use Rattle.cstar_tree.specs.ExpressionTypes.{Types}
use Rattle.cstar_tree.specs.Headers.{Program, Returns}
use Rattle.cstar_tree.specs.Scopes.{Here, as_whole, shape_of, under}
use Rattle.cstar_tree.specs.StatementFaults.{BlockFaultIn, FaultInIf, HasType, ReturnFault, StatementFaultAt, StatementFaultIn, StatementsFaultIn, Tested, TestedWhere, ValueFaultInIf}
use Rattle.cstar_tree.specs.ExpressionFaults.{FaultIn, ValueFaultIn}
use Rattle.cstar_tree.specs.StatementFaults as W
use Rattle.cstar_tree.specs.StatementTypes.{IsReturned, TypesBlock, TypesDeclarations, TypesEffectIf, TypesStatement, TypesStatements, TypesTest, TypesTestIf}
use Rattle.cstar_tree.specs.StatementTypes as Y
use Rattle.faultless_files.proofs.ValueTypes.{shape_is}
use Rattle.faultless_files.proofs.Declarations.{current_is, sound_declarations, sound_shape}
use Rattle.faultless_files.specs.Laws.{TypedBlocksHaveNoFault, TypedStatementListsHaveNoFault, TypedStatementsHaveNoFault}
use Rattle.faultless_files.proofs.ExpressionLaws.{laws}

-- what is returned may be returned
returned_sound : {here : Here} {returns : Returns} {t f u : TExpr} → IsReturned here returns t f → ReturnFault here returns u → type_of u ≡ type_of t → ⊥
returned_sound (Y.returned at_hand takes fit) (W.ReturnFault.parallel {s = s} scalar shaped) same = none-some s (sym (takes scalar) ∙ (sym (shape_is same) ∙ shaped))
returned_sound (Y.returned at_hand takes fit) (W.ReturnFault.away {s = s} shaped away) same = away (current_is at_hand s shaped)

module _ (program : Program) where
  -- ---- the expressions of typed statements

  abbrev HasEffect : Here → Expr → Type 0
  HasEffect here e = (t : TExpr) × (has_value : Bool) × Types program (as_whole here) e t has_value

  abbrev HasTest : Here → Expr → Type 0
  HasTest here e = (t : TExpr) × TypesTest program here e t

  abbrev HasMask : Here → Expr → Type 0
  HasMask here e = (t : TExpr) × (of : ℕ) × Types program here e t true × ((type_of t).shape ≡ Some of)

  effect_typed : {here : Here} {e : Option Expr} {t : Option TExpr} → TypesEffectIf program here e t → IfSome e (HasEffect here)
  effect_typed Y.TypesEffectIf.absent = tt
  effect_typed (Y.TypesEffectIf.present {t = t} {has_value = b} typed) = (t, b, typed)

  test_typed : {here : Here} {e : Option Expr} {t : Option TExpr} → TypesTestIf program here e t → IfSome e (HasTest here)
  test_typed Y.TypesTestIf.absent = tt
  test_typed (Y.TypesTestIf.present {t = t} typed) = (t, typed)

  sound_effect : {here : Here} {e : Option Expr} {fault : Fault} {p : Place} → FaultInIf program here e fault p → IfSome e (HasEffect here) → ⊥
  sound_effect {here = here} (W.FaultInIf.present {e = e} {fault = fault} {p = p} f) typed = laws.no_fault program (as_whole here) e typed.0 typed.1 typed.2 fault p f

  sound_test_if : {here : Here} {e : Option Expr} {fault : Fault} {p : Place} → ValueFaultInIf program here e fault p → IfSome e (HasTest here) → ⊥
  sound_test_if {here = here} (W.ValueFaultInIf.present {e = e} {fault = fault} {p = p} f) typed = laws.no_value_fault program here e typed.0 typed.1.typed fault p f

  same_types : (here : Here) (e : Expr) (t u : TExpr) → Types program here e t true → Types program here e u true → type_of t ≡ type_of u
  same_types here e t u first second = let one = laws.unique program here e t u true true first second in one.0.type_is

  module _ (returns : Returns) where
    abbrev HasReturned : Here → Expr → Type 0
    HasReturned here e = (t : TExpr) × (f : TExpr) × Types program here e t true × IsReturned here returns t f

    sound_returned : {here : Here} {e : Option Expr} {fault : Fault} {p : Place} → ValueFaultInIf program here e fault p → IfSome e (HasReturned here) → ⊥
    sound_returned {here = here} (W.ValueFaultInIf.present {e = e} {fault = fault} {p = p} f) typed = laws.no_value_fault program here e typed.0 typed.2 fault p f

    -- ---- typed statements, as their parts are typed

    abbrev ElseTyped : Here → Held-Stmt-If-3 → Type 0
    ElseTyped here None' = Unit {0}
    ElseTyped here (Some' _ s) = HasType program returns here s

    abbrev pub EachTyped : Here → List Stmt → Type 0
    EachTyped here [] = Unit {0}
    EachTyped here (s ∷ ss) = HasType program returns here s × EachTyped (behind here s) ss

    pub record IsTypedBlock (here : Here) (ds : List Declaration) (ss : List Stmt) : Type 0 where
      pub locals : List LocalVar
      pub declarations : TypesDeclarations program here ds locals
      pub statements : EachTyped (behind_declarations here ds) ss

    abbrev Parts : Here → Stmt → Type 0
    Parts here (S.Block' p ds _ row) = IsTypedBlock (block_place here) ds.items (items-the_row-Stmt _ row)
    Parts here (S.Expression p e) = HasEffect here e
    Parts here (S.If' p e _ second third) = HasTest here e × HasType program returns here second × ElseTyped (behind here second) third
    Parts here (S.While' p e _ body) = HasTest here e × HasType program returns (in_loop here) body
    Parts here (S.Do' p _ body e) = HasTest here e × HasType program returns (in_loop here) body
    Parts here (S.For' p first test step _ body) = IfSome first (HasEffect here) × IfSome test (HasTest here) × IfSome step (HasEffect here) × HasType program returns (in_loop here) body
    Parts here (S.Break p) = here.loop ≡ true
    Parts here (S.Continue p) = here.loop ≡ true
    Parts here (S.Return p value) = IfSome value (HasReturned here)
    Parts here (S.With' p written _ body) = (s : ℕ) × (shape_of here written ≡ Some s) × HasType program returns (under here s) body
    Parts here (S.Everywhere' p _ body) = (s : ℕ) × (here.current ≡ Some s) × HasType program returns here body
    Parts here (S.Where' p e _ second third) = (s : ℕ) × (here.current ≡ Some s) × HasMask here e × HasType program returns here second × ElseTyped (behind here second) third
    Parts here (S.Empty p) = Unit {0}

    pub each_typed : {here : Here} {ss : List Stmt} {ts : List TStmt} → TypesStatements program returns here ss ts → EachTyped here ss
    each_typed Y.no_statement = tt
    each_typed (Y.next_statement typed more) = (W.HasType.typed typed, each_typed more)

    pub block_typed : {here : Here} {block : Block} {locals : List LocalVar} {statements : List TStmt} → TypesBlock program returns here block locals statements → IsTypedBlock here block.declarations.items block.statements.items
    block_typed (Y.block {locals = locals} block declared statements) = record { locals = locals; declarations = declared; statements = each_typed statements }

    parts : {here : Here} {s : Stmt} {t : TStmt} → TypesStatement program returns here s t → Parts here s
    parts {here = here} (Y.block_is {block = block} locals statements typed) =
        subst (IsTypedBlock (block_place here) block.declarations.items) (sym (items_hidden-the_row-Stmt-0 block.statements)) (block_typed typed)
    parts (Y.expression {t = t} {has_value = b} typed) = (t, b, typed)
    parts Y.empty = tt
    parts (Y.if_alone {t = t} second a test typed) = ((t, test), W.HasType.typed typed, tt)
    parts (Y.if_else {t = t} second third a b test typed other) = ((t, test), W.HasType.typed typed, W.HasType.typed other)
    parts (Y.while {t = t} body b test typed) = ((t, test), W.HasType.typed typed)
    parts (Y.do_while {t = t} body b typed test) = ((t, test), W.HasType.typed typed)
    parts (Y.for body b first test step typed) = (effect_typed first, test_typed test, effect_typed step, W.HasType.typed typed)
    parts (Y.break loop) = loop
    parts (Y.continue loop) = loop
    parts Y.return_alone = tt
    parts (Y.return_value {t = t} {f = f} typed is) = (t, f, typed, is)
    parts (Y.with {shape = s} body b is typed) = (s, is, W.HasType.typed typed)
    parts (Y.everywhere {shape = s} body b is typed) = (s, is, W.HasType.typed typed)
    parts (Y.where_alone {t = t} {shape = s} {of = of} second a is test shaped typed) = (s, is, (t, of, test, shaped), W.HasType.typed typed, tt)
    parts (Y.where_else {t = t} {shape = s} {of = of} second third a b is test shaped typed other) = (s, is, (t, of, test, shaped), W.HasType.typed typed, W.HasType.typed other)

    parts_of : {here : Here} {s : Stmt} → HasType program returns here s → Parts here s
    parts_of (W.HasType.typed typed) = parts typed

    -- ---- a fault at a statement

    tested : {here : Here} {p : Place} {s : Stmt} {e : Expr} → Tested program returns here p s e → HasType program returns here s → HasTest here e
    tested (W.Tested.if second first other) has = let all = parts_of has in all.0
    tested (W.Tested.while body first) has = let all = parts_of has in all.0
    tested (W.Tested.do_while body first) has = let all = parts_of has in all.0
    tested (W.Tested.for body first step inner) has = let all = parts_of has in all.1

    masked : {here : Here} {p : Place} {s : Stmt} {e : Expr} → TestedWhere program returns here p s e → HasType program returns here s → (n : ℕ) × (here.current ≡ Some n) × HasMask here e
    masked (W.TestedWhere.where_of second first other) has = let all = parts_of has in (all.0, all.1, all.2)

    sound_at : {here : Here} {s : Stmt} {fault : Fault} {p : Place} → StatementFaultAt program returns here s fault p → HasType program returns here s → ⊥
    sound_at (W.shape_named body f) has = let all = parts_of has in sound_shape f all.0 all.1
    sound_at {here = here} (W.parallel_test {e = e} {t = t} {of = of} test is shaped) has =
        let it = tested test has in
        none-some of (sym it.1.is_scalar ∙ (sym (shape_is (same_types here e t it.0 is it.1.typed)) ∙ shaped))
    sound_at (W.where_alone test value none) has = let it = masked test has in none-some it.0 (sym none ∙ it.1)
    sound_at {here = here} (W.where_scalar {e = e} {t = t} test is none) has =
        let it = masked test has in
        none-some it.2.1 (sym none ∙ (shape_is (same_types here e t it.2.0 is it.2.2) ∙ it.2.3))
    sound_at (W.everywhere_alone body inner none) has = let all = parts_of has in none-some all.0 (sym none ∙ all.1)
    sound_at {here = here} (W.returned {e = e} {t = t} is f) has =
        let all = parts_of has in
        returned_sound all.3 f (same_types here e t all.0 is all.2)
    sound_at (W.break_alone none) has = let all = parts_of has in absurd (cc)
    sound_at (W.continue_alone none) has = let all = parts_of has in absurd (cc)

    -- ---- a fault in a statement

    -- the parts of a block, as it stands in a statement
    block_of : (here : Here) (block : Block) → HasType program returns here (S.Block block) → IsTypedBlock (block_place here) block.declarations.items block.statements.items
    block_of here block has = subst (IsTypedBlock (block_place here) block.declarations.items) (items_hidden-the_row-Stmt-0 block.statements) (parts_of has)

    no_test_fault : {here : Here} {e : Expr} {fault : Fault} {p : Place} → ValueFaultIn program here e fault p → HasTest here e → ⊥
    no_test_fault {here = here} {e = e} {fault = fault} {p = p} f it = laws.no_value_fault program here e it.0 it.1.typed fault p f

    no_mask_fault : {here : Here} {e : Expr} {fault : Fault} {p : Place} → ValueFaultIn program here e fault p → HasMask here e → ⊥
    no_mask_fault {here = here} {e = e} {fault = fault} {p = p} f it = laws.no_value_fault program here e it.0 it.2 fault p f

    no_effect_fault : (here : Here) {e : Expr} {fault : Fault} {p : Place} → FaultIn program (as_whole here) e fault p → HasEffect here e → ⊥
    no_effect_fault here {e = e} {fault = fault} {p = p} f it = laws.no_fault program (as_whole here) e it.0 it.1 it.2 fault p f

    mutual
      pub sound_statement : {here : Here} {s : Stmt} {fault : Fault} {p : Place} → StatementFaultIn program returns here s fault p → HasType program returns here s → ⊥
      sound_statement (W.StatementFaultIn.at f) has = sound_at f has
      sound_statement (W.in_block {here = here} {block = block} f) has = sound_block f (block_of here block has)
      sound_statement {here = here} (W.in_expression f) has = no_effect_fault here f (parts_of has)
      sound_statement (W.in_if_test third second f) has = let all = parts_of has in no_test_fault f all.0
      sound_statement (W.in_if third second f) has = let all = parts_of has in sound_statement f all.1
      sound_statement (W.in_if_else second third f) has = let all = parts_of has in sound_statement f all.2
      sound_statement (W.in_where_test third second f) has = let all = parts_of has in no_mask_fault f all.2
      sound_statement (W.in_where third second f) has = let all = parts_of has in sound_statement f all.3
      sound_statement (W.in_where_else second third f) has = let all = parts_of has in sound_statement f all.4
      sound_statement (W.in_while_test body f) has = let all = parts_of has in no_test_fault f all.0
      sound_statement (W.in_while body f) has = let all = parts_of has in sound_statement f all.1
      sound_statement (W.in_do_test body f) has = let all = parts_of has in no_test_fault f all.0
      sound_statement (W.in_do body f) has = let all = parts_of has in sound_statement f all.1
      sound_statement (W.in_for_first first test step body f) has = let all = parts_of has in sound_effect f all.0
      sound_statement (W.in_for_test first test step body f) has = let all = parts_of has in sound_test_if f all.1
      sound_statement (W.in_for_step first test step body f) has = let all = parts_of has in sound_effect f all.2
      sound_statement (W.in_for first test step body f) has = let all = parts_of has in sound_statement f all.3
      sound_statement (W.in_return f) has = sound_returned f (parts_of has)
      sound_statement {here = here} (W.in_with {written = written} {s = s} body is f) has =
          let all = parts_of has in
          sound_statement f (subst (λ (n : ℕ). HasType program returns (under here n) body.value) (same_Some all.0 s (sym all.1 ∙ is)) all.2)
      sound_statement (W.in_everywhere body f) has = let all = parts_of has in sound_statement f all.2

      pub sound_statements : {here : Here} {ss : List Stmt} {fault : Fault} {p : Place} → StatementsFaultIn program returns here ss fault p → EachTyped here ss → ⊥
      sound_statements (W.in_first f) all = sound_statement f all.0
      sound_statements (W.in_later f) all = sound_statements f all.1

      pub sound_block : {here : Here} {block : Block} {fault : Fault} {p : Place} → BlockFaultIn program returns here block fault p → IsTypedBlock here block.declarations.items block.statements.items → ⊥
      sound_block (W.in_declarations block f) all = sound_declarations program f all.locals all.declarations
      sound_block (W.in_statements block f) all = sound_statements f all.statements

pub statements_sound : TypedStatementsHaveNoFault
statements_sound program returns here s t typed fault p f = sound_statement program returns f (W.HasType.typed typed)

pub lists_sound : TypedStatementListsHaveNoFault
lists_sound program returns here ss ts typed fault p f = sound_statements program returns f (each_typed program returns typed)

pub blocks_sound : TypedBlocksHaveNoFault
blocks_sound program returns here block locals statements typed fault p f = sound_block program returns f (block_typed program returns typed)
