-- What the rules of typing give statements and declarations names the variables of its instance, where
-- those that it declares stand among them from the number on that its place has.
use Rattle.std.proofs.Common.{◌≡◌, ℕ, suc, ◌+◌, ◌≤◌, ℤ, pos, negsuc, IfSome, List, [], ◌∷◌, ◌++◌, length, map, slice_get, Option, Some, None, arith, length-append, ap, ◌∙◌, sym, subst}
use Rattle.std.proofs.lemmas.List.{length-map, map-append}
use Rattle.std.proofs.lemmas.Option.{none-some, same_Some}
use Rattle.cstar_tree.specs.declared.syntax.Block.{Block}
use Rattle.cstar_tree.specs.declared.syntax.Declaration.{Declaration}
use Rattle.cstar_tree.specs.declared.syntax.Declarator.{Declarator}
use Rattle.cstar_tree.specs.declared.syntax.Expr.{Expr}
use Rattle.cstar_tree.specs.declared.syntax.Initializer.{Initializer}
use Rattle.cstar_tree.specs.declared.syntax.Stmt.{Stmt}
use Rattle.cstar_tree.specs.declared.typed.Instance.{Instance}
use Rattle.cstar_tree.specs.declared.typed.LocalVar.{LocalVar}
use Rattle.cstar_tree.specs.declared.typed.TExpr.{TExpr}
use Rattle.cstar_tree.specs.declared.typed.TStmt.{TStmt}
use Rattle.cstar_tree.specs.declared.typed.Typed.{Typed}
use Rattle.cstar_tree.specs.declared.typed.ValueType.{ValueType}
use Rattle.cstar_tree.specs.declared.typed.VarInfo.{VarInfo}
use Rattle.cstar_tree.specs.declared.typed.Variable.{Variable}
use Rattle.cstar_tree.specs.declared.typed.Variable.TheVariants as V
use Rattle.cstar_tree.specs.BlockScopes.{behind, behind_declarations, behind_declarator, behind_declarators, block_place, declared_type, in_loop, with_length}
use Rattle.cstar_tree.specs.Constants.{constant_number}
use Rattle.cstar_tree.specs.Headers.{Program, Returns}
use Rattle.cstar_tree.specs.Scopes.{Binding, Here, Meaning, VariableType, a_function, a_shape, a_variable, as_whole, declared, find, meaning, under}
use Rattle.cstar_tree.specs.StatementTypes.{IsReturned, TypesBlock, TypesDeclarations, TypesEffectIf, TypesInitial, TypesLocal, TypesLocals, TypesStatement, TypesStatements, TypesTestIf}
use Rattle.cstar_tree.specs.StatementTypes as Y
use Rattle.cstar_tree.specs.TypedParts.{concat}
use Rattle.cstar_tree.specs.Variables.{variables_of}
use Rattle.code_lengths.specs.Naming.{HasItsShape, HasVariable, IsDeclared, Knows, KnowsVariables, NamesVariables, variable_named}
use Rattle.code_lengths.proofs.Declaring.{at_number, else_variables, first_part, info_of, of_do, of_everywhere, of_for, of_if, of_where, of_while, of_with, second_part}
use Rattle.code_lengths.proofs.NamedLater.{still_there}
use Rattle.code_lengths.specs.NamingStatements.{ElseNamesVariables, InitialsNameVariables, StandFrom, StatementNamesVariables}
use Rattle.shaped_trees.specs.Places.{IsShapeOf, KnowsShapes}
use Rattle.shaped_trees.proofs.Counting.{as_many, of_block}
use Rattle.shaped_trees.proofs.KnownShapes.{behind_all, behind_each, in_block, shape_there, type_there, under_shape}
use Rattle.shaped_trees.proofs.Meanings.{AllMean, declared_one}
use Rattle.shaped_trees.proofs.NamedVariables.{fitted, named}
use Rattle.shaped_trees.proofs.Rows.{EachNamesVariables, block_names_variables}

-- ---- names

-- the written type, and that of a variable with its length, have the same shape
pub same_value : (here : Here) (ty : ValueType) (length : Option Expr) (variable : VariableType) → declared_type here (Some ty) length ≡ Some variable → variable.value ≡ ty
same_value here ty None variable is = ap (λ (v : VariableType). v.value) (sym (same_Some (record { value = ty; array = None }) variable is))
same_value here ty (Some e) variable is = by_length (constant_number here e) is
  where
    by_length : (length : Option ℤ) → with_length ty length ≡ Some variable → variable.value ≡ ty
    by_length None is = elim (none-some variable is) [ ]
    by_length (Some (pos k)) is = ap (λ (v : VariableType). v.value) (sym (same_Some (record { value = ty; array = Some k }) variable is))
    by_length (Some (negsuc k)) is = elim (none-some variable is) [ ]

module _ (t : Typed) (i : Instance) where
  -- a name that stands for a variable stands for one that is there, where so many are declared
  abbrev pub MeansVariable : ℕ → Meaning → Type 0
  MeansVariable n (a_shape number) = Unit {0}
  MeansVariable n (a_function number) = Unit {0}
  MeansVariable n (a_variable v ty) = IfSome ty (HasVariable t i n v)

  abbrev KnowsNames : ℕ → List Binding → Type 0
  KnowsNames n names = (word : List ℕ) (v : Variable) (ty : VariableType) → find names word ≡ Some (a_variable v (Some ty)) → HasVariable t i n v ty

  all_mean : (n : ℕ) (names : List Binding) → KnowsNames n names → AllMean (MeansVariable n) names
  all_mean n names known word (a_shape number) found = tt
  all_mean n names known word (a_function number) found = tt
  all_mean n names known word (a_variable v None) found = tt
  all_mean n names known word (a_variable v (Some ty)) found = known word v ty found

  pub behind_name : (here : Here) (word : List ℕ) (v : Variable) (ty : Option VariableType) (locals : ℕ) → here.locals ≤ locals → MeansVariable locals (a_variable v ty) → KnowsVariables t i here →
      KnowsVariables t i (record here { names = declared here.names word (a_variable v ty); locals = locals })
  unfolding meaning
  behind_name here word v ty locals more new k = (
    λ other w of found. declared_one (MeansVariable locals) here.names word (a_variable v ty) (all_mean locals _ (λ x u f is. still_there t i more (k.0 x u f is))) new other (a_variable w (Some of)) found,
    k.1,
  )

  -- ---- places: the variables that they know are there, and their shapes are the program's

  pub record IsKnown (here : Here) : Type 0 where
    pub variables : KnowsVariables t i here
    pub shapes : KnowsShapes t here

  known_block : (here : Here) → IsKnown here → IsKnown (block_place here)
  unfolding meaning
  known_block here k = record { variables = k.variables; shapes = in_block t here k.shapes }

  known_body : (here : Here) → IsKnown here → IsKnown (in_loop here)
  unfolding meaning
  known_body here k = record { variables = k.variables; shapes = record { named = k.shapes.named; current = k.shapes.current } }

  known_whole : (here : Here) → KnowsVariables t i here → KnowsVariables t i (as_whole here)
  unfolding meaning
  known_whole here k = k

  known_behind : (here : Here) (s : Stmt) → IsKnown here → IsKnown (behind here s)
  unfolding meaning
  known_behind here s k = record {
    variables = (λ word v ty found. still_there t i (omega arith) (k.variables.0 word v ty found), k.variables.1);
    shapes = record { named = k.shapes.named; current = k.shapes.current };
  }

  known_under : (here : Here) (shape : ℕ) → IsShapeOf t shape → IsKnown here → IsKnown (under here shape)
  unfolding meaning
  known_under here shape is k = record { variables = k.variables; shapes = under_shape t here shape is k.shapes }

  -- ---- declarations

  all_initials : (n : ℕ) (locals rest : List LocalVar) → InitialsNameVariables t i n locals → InitialsNameVariables t i (n + length locals) rest → InitialsNameVariables t i n (locals ++ rest)
  unfolding InitialsNameVariables
  all_initials n [] rest h k = subst (λ (m : ℕ). InitialsNameVariables t i m rest) (nothing_more n) k
    where
      nothing_more : (n : ℕ) → n + 0 ≡ n
      nothing_more n = omega arith
  all_initials n (local ∷ locals) rest h k = (h.0, all_initials (n + 1) locals rest h.1 (subst (λ (m : ℕ). InitialsNameVariables t i m rest) (one_later n (length locals)) k))
    where
      one_later : (n m : ℕ) → n + suc m ≡ n + 1 + m
      one_later n m = omega arith

  module _ (program : Program) where
    behind_one : (here : Here) (ty : ValueType) (d : Declarator) (local : LocalVar) → TypesLocal program here ty d local → HasItsShape t ty → slice_get (variables_of i.body) here.locals ≡ Some local.info →
        KnowsVariables t i here → KnowsVariables t i (behind_declarator here (Some ty) d)
    unfolding variable_named IsDeclared
    behind_one here ty d local typed shape found k =
        behind_name here d.name.word (V.Local here.locals) (declared_type here (Some ty) d.length) (here.locals + 1) (omega arith)
        (subst (λ (known : Option VariableType). IfSome known (HasVariable t i (here.locals + 1) (V.Local here.locals))) (sym typed.its_type) (record {
          word = d.name.word;
          start = 0;
          named = found ∙ ap (λ (info : VarInfo). Some info) typed.info;
          declared = omega arith;
          shape = subst (HasItsShape t) (sym (same_value here ty d.length typed.variable typed.its_type)) shape;
        })) k

    -- so many variables are declared behind declarations, and their initialisers name those before them
    record Declares (behind_them : Here) (number : ℕ) (locals : List LocalVar) : Type 0 where
      knows : KnowsVariables t i behind_them
      initials : InitialsNameVariables t i number locals
      number_is : number + length locals ≡ behind_them.locals

    initial_names : {here : Here} {n : ℕ} {ty : ValueType} {initial : Option Initializer} {f : Option TExpr} → TypesInitial program here ty initial f → Knows t i n here → IfSome f (NamesVariables t i n)
    initial_names Y.no_initial k = tt
    initial_names {n = n} (Y.initial at at_hand takes fit) k = fitted t i n fit (named t i n program at k)

    locals_name : {here : Here} {ty : ValueType} {ds : List Declarator} {ls : List LocalVar} → TypesLocals program here ty ds ls → HasItsShape t ty → KnowsVariables t i here →
        StandFrom (variables_of i.body) here.locals (map info_of ls) → Declares (behind_declarators here (Some ty) ds) here.locals ls
    unfolding behind_declarators InitialsNameVariables
    locals_name Y.no_variable shape k s = record { knows = k; initials = tt; number_is = omega arith }
    locals_name (Y.next_variable {here = here} {ty = ty} {d = d} {ds = ds} {l = l} {ls = ls} at more) shape k s =
        let there = behind_one here ty d l at shape (at_number l.info (map info_of ls) s) k in
        let rest = locals_name more shape there (second_part (l.info ∷ []) (map info_of ls) s) in
        let number = rest.number_is in
        record { knows = rest.knows; initials = (initial_names at.initial there, rest.initials); number_is = omega (arith, number) }

    declarations_name : {here : Here} {ds : List Declaration} {ls : List LocalVar} → TypesDeclarations program here ds ls → IsKnown here →
        StandFrom (variables_of i.body) here.locals (map info_of ls) → Declares (behind_declarations here ds) here.locals ls
    unfolding behind_declarations InitialsNameVariables
    declarations_name Y.no_declaration k s = record { knows = k.variables; initials = tt; number_is = omega arith }
    declarations_name (Y.next_declaration {here = here} {ty = ty} {d = d} {ds = ds} {ls = ls} {rest = rest} is at more) k s =
        let long = length-append ls rest in
        let both = subst (StandFrom (variables_of i.body) here.locals) (map-append info_of ls rest) s in
        let first = locals_name at (type_there t here d.type_name ty k.shapes is) k.variables (first_part (map info_of ls) (map info_of rest) both) in
        let number_is = first.number_is in
        let number = ap (λ (n : ℕ). here.locals + n) (length-map ls info_of) ∙ first.number_is in
        let others = declarations_name more (record { variables = first.knows; shapes = behind_all t here (Some ty) d.variables.items k.shapes })
        (subst (λ (n : ℕ). StandFrom (variables_of i.body) n (map info_of rest)) number (second_part (map info_of ls) (map info_of rest) both)) in
        let others_is = others.number_is in
        record {
          knows = subst (λ (known : Option ValueType). KnowsVariables t i (behind_declarations (behind_declarators here known d.variables.items) ds)) (sym is) others.knows;
          initials = all_initials here.locals ls rest first.initials (subst (λ (n : ℕ). InitialsNameVariables t i n rest) (sym first.number_is) others.initials);
          number_is = subst (λ (known : Option ValueType). here.locals + length (ls ++ rest) ≡ (behind_declarations (behind_declarators here known d.variables.items) ds).locals) (sym is) (omega (arith, long, number_is, others_is));
        }

    -- ---- statements

    effect_names : {here : Here} {e : Option Expr} {f : Option TExpr} → TypesEffectIf program here e f → KnowsVariables t i here → IfSome f (NamesVariables t i here.locals)
    effect_names Y.TypesEffectIf.absent k = tt
    effect_names {here = here} (Y.TypesEffectIf.present at) k = named t i here.locals program at (known_whole here k)

    test_names : {here : Here} {e : Option Expr} {f : Option TExpr} → TypesTestIf program here e f → KnowsVariables t i here → IfSome f (NamesVariables t i here.locals)
    test_names Y.TypesTestIf.absent k = tt
    test_names {here = here} (Y.TypesTestIf.present test) k = named t i here.locals program test.typed k

    returned_names : {here : Here} {returns : Returns} {e f : TExpr} (n : ℕ) → IsReturned here returns e f → NamesVariables t i n e → NamesVariables t i n f
    returned_names n (Y.returned at_hand takes fit) names = fitted t i n fit names

    module _ (returns : Returns) where
      behind_part : {here : Here} {s : Stmt} {f : TStmt} → TypesStatement program returns here s f → (other : List VarInfo) → StandFrom (variables_of i.body) here.locals (variables_of f ++ other) → StandFrom (variables_of i.body) (behind here s).locals other
      behind_part {here = here} {f = f} at other s = subst (λ (n : ℕ). StandFrom (variables_of i.body) (here.locals + n) other) (as_many program returns at) (second_part (variables_of f) other s)

      -- as many variables are declared behind a statement as it declares
      behind_names : {here : Here} {s : Stmt} {f : TStmt} (g : TStmt) → TypesStatement program returns here s f → StatementNamesVariables t i (behind here s).locals g → StatementNamesVariables t i (here.locals + length (variables_of f)) g
      behind_names {here = here} g at names = subst (λ (n : ℕ). StatementNamesVariables t i (here.locals + n) g) (sym (as_many program returns at)) names

      mutual
        unfolding StatementNamesVariables ElseNamesVariables EachNamesVariables concat else_variables

        pub statement_names : {here : Here} {s : Stmt} {f : TStmt} → TypesStatement program returns here s f → IsKnown here → StandFrom (variables_of i.body) here.locals (variables_of f) → StatementNamesVariables t i here.locals f
        statement_names (Y.block_is {here = here} locals statements at) k s =
            let parts = parts_name at (known_block here k) (subst (StandFrom (variables_of i.body) here.locals) (of_block locals statements) s) in
            block_names_variables t i here.locals locals statements parts.0 parts.1
        statement_names (Y.expression {here = here} at) k s = named t i here.locals program at (known_whole here k.variables)
        statement_names Y.empty k s = tt
        statement_names (Y.if_alone {here = here} {t = test_is} second a test at) k s =
            (named t i here.locals program test.typed k.variables, statement_names at k (first_part (variables_of a.value) _ (subst (StandFrom (variables_of i.body) here.locals) (of_if test_is _ a.value _) s)), tt)
        statement_names (Y.if_else {here = here} {t = test_is} second third a b test at other) k s =
            let both : StandFrom (variables_of i.body) here.locals (variables_of a.value ++ variables_of b.value) = subst (StandFrom (variables_of i.body) here.locals) (of_if test_is _ a.value _) s in (
              named t i here.locals program test.typed k.variables,
              statement_names at k (first_part (variables_of a.value) (variables_of b.value) both),
              behind_names b.value at (statement_names other (known_behind here second.value k) (behind_part at (variables_of b.value) both)),
            )
        statement_names (Y.while {here = here} {t = test_is} body b test at) k s =
            (named t i here.locals program test.typed k.variables, statement_names at (known_body here k) (subst (StandFrom (variables_of i.body) here.locals) (of_while test_is _ b.value) s))
        statement_names (Y.do_while {here = here} {t = test_is} body b at test) k s =
            (statement_names at (known_body here k) (subst (StandFrom (variables_of i.body) here.locals) (of_do _ b.value test_is) s), named t i here.locals program test.typed k.variables)
        statement_names (Y.for {here = here} {f = f} {t = u} {s = step_is} body b first test step at) k s =
            (effect_names first k.variables, test_names test k.variables, effect_names step k.variables, statement_names at (known_body here k) (subst (StandFrom (variables_of i.body) here.locals) (of_for f u step_is _ b.value) s))
        statement_names (Y.break loop) k s = tt
        statement_names (Y.continue loop) k s = tt
        statement_names Y.return_alone k s = tt
        statement_names (Y.return_value {here = here} at is) k s = returned_names here.locals is (named t i here.locals program at k.variables)
        statement_names (Y.with {here = here} {written = written} {shape = shape} body b is at) k s =
            statement_names at (known_under here shape (shape_there t here written shape k.shapes is) k) (subst (StandFrom (variables_of i.body) here.locals) (of_with shape _ b.value) s)
        statement_names (Y.everywhere {here = here} {shape = shape} body b is at) k s = statement_names at k (subst (StandFrom (variables_of i.body) here.locals) (of_everywhere shape _ b.value) s)
        statement_names (Y.where_alone {here = here} {t = test_is} {shape = shape} second a is test parallel at) k s =
            (named t i here.locals program test k.variables, statement_names at k (first_part (variables_of a.value) _ (subst (StandFrom (variables_of i.body) here.locals) (of_where shape test_is _ a.value _) s)), tt)
        statement_names (Y.where_else {here = here} {t = test_is} {shape = shape} second third a b is test parallel at other) k s =
            let both : StandFrom (variables_of i.body) here.locals (variables_of a.value ++ variables_of b.value) = subst (StandFrom (variables_of i.body) here.locals) (of_where shape test_is _ a.value _) s in (
              named t i here.locals program test k.variables,
              statement_names at k (first_part (variables_of a.value) (variables_of b.value) both),
              behind_names b.value at (statement_names other (known_behind here second.value k) (behind_part at (variables_of b.value) both)),
            )

        statements_name : {here : Here} {ss : List Stmt} {ts : List TStmt} → TypesStatements program returns here ss ts → IsKnown here → StandFrom (variables_of i.body) here.locals (concat (map variables_of ts)) → EachNamesVariables t i here.locals ts
        statements_name Y.no_statement k s = tt
        statements_name (Y.next_statement {here = here} {s = stmt} {t = f} {ts = ts} at more) k s = (
          statement_names at k (first_part (variables_of f) (concat (map variables_of ts)) s),
          subst (λ (n : ℕ). EachNamesVariables t i (here.locals + n) ts) (sym (as_many program returns at)) (statements_name more (known_behind here stmt k) (behind_part at (concat (map variables_of ts)) s)),
        )

        pub parts_name : {here : Here} {block : Block} {locals : List LocalVar} {statements : List TStmt} → TypesBlock program returns here block locals statements → IsKnown here →
            StandFrom (variables_of i.body) here.locals (map info_of locals ++ concat (map variables_of statements)) →
            InitialsNameVariables t i here.locals locals × EachNamesVariables t i (here.locals + length locals) statements
        parts_name {here = here} {locals = locals} {statements = statements} (Y.block block declarations at) k s =
            let d = declarations_name declarations k (first_part (map info_of locals) (concat (map variables_of statements)) s) in
            let number = ap (λ (n : ℕ). here.locals + n) (length-map locals info_of) ∙ d.number_is in (
              d.initials,
              subst (λ (n : ℕ). EachNamesVariables t i n statements) (sym d.number_is)
                  (statements_name at (record { variables = d.knows; shapes = behind_each t here block.declarations.items k.shapes })
                  (subst (λ (n : ℕ). StandFrom (variables_of i.body) n (concat (map variables_of statements))) number (second_part (map info_of locals) (concat (map variables_of statements)) s))),
            )
