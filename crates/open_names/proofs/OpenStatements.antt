-- What the rules of typing give statements names open variables: those of a block are known in it alone.
use Rattle.std.proofs.Common.{◌≡◌, ℕ, suc, ◌+◌, inl, inr, IfSome, List, [], ◌∷◌, ◌++◌, length, Option, Some, None, Vec, arith, length-append, sym, subst}
use Rattle.std.specs.declared.alloc.Global.{Global}
use mathlib.Core.Former.{Count}
use Rattle.cstar_tree.specs.declared.syntax.Block.{Block}
use Rattle.cstar_tree.specs.declared.syntax.Declaration.{Declaration}
use Rattle.cstar_tree.specs.declared.syntax.Declarator.{Declarator}
use Rattle.cstar_tree.specs.declared.syntax.Expr.{Expr}
use Rattle.cstar_tree.specs.declared.syntax.Initializer.{Initializer}
use Rattle.cstar_tree.specs.declared.syntax.Stmt.{Stmt}
use Rattle.cstar_tree.specs.declared.typed.LocalVar.{LocalVar}
use Rattle.cstar_tree.specs.declared.typed.TExpr.{TExpr}
use Rattle.cstar_tree.specs.declared.typed.TStmt.{TStmt, Row_of-TStmt, end_of-TStmt, more_of-TStmt, items-the_row-TStmt, items_hidden-the_row-TStmt-0}
use Rattle.cstar_tree.specs.declared.typed.TStmt as R
use Rattle.cstar_tree.specs.declared.typed.ValueType.{ValueType}
use Rattle.cstar_tree.specs.declared.typed.Variable.{Variable}
use Rattle.cstar_tree.specs.declared.typed.Variable.TheVariants as V
use Rattle.cstar_tree.specs.BlockScopes.{behind_declarations, behind_declarator, behind_declarators, declared_type}
use Rattle.cstar_tree.specs.BlockScopes as places
use Rattle.cstar_tree.specs.Headers.{Program, Returns}
use Rattle.cstar_tree.specs.ProgramTypes.{IsBody}
use Rattle.cstar_tree.specs.ProgramTypes as Z
use Rattle.cstar_tree.specs.Scopes.{Binding, Here, Meaning, VariableType, a_function, a_shape, a_variable, find, meaning}
use Rattle.cstar_tree.specs.StatementTypes.{IsReturned, TypesBlock, TypesDeclarations, TypesEffectIf, TypesInitial, TypesLocal, TypesLocals, TypesStatement, TypesStatements, TypesTestIf}
use Rattle.cstar_tree.specs.StatementTypes as Y
use Rattle.code_lengths.specs.NamingStatements.{behind}
use Rattle.shaped_trees.proofs.Counting.{as_many}
use Rattle.shaped_trees.proofs.Meanings.{AllMean, declared_one}
use Rattle.open_names.specs.Opens.{ElseNamesOpen, InitialsNameOpen, IsAmong, IsOpen, KnowsOpen, NamesOpen, Open, StatementNamesOpen, StatementsNameOpen, opened}
use Rattle.open_names.proofs.OpenExpressions.{fitted, named}

-- ---- blocks as they stand in nodes

-- statements one behind the other
unfoldable EachNamesOpen : Open → ℕ → List TStmt → Type 0
EachNamesOpen blocks n [] = Unit {0}
EachNamesOpen blocks n (s ∷ ss) = StatementNamesOpen blocks n s × EachNamesOpen blocks (behind n s) ss

abbrev typed_statements : TStmt → (k : Count) × Row_of-TStmt k
typed_statements (R.Block' _ _ row) = (_, row)
typed_statements _ = (_, end_of-TStmt)

row_names : (blocks : Open) (n : ℕ) (k : Count) (row : Row_of-TStmt k) → EachNamesOpen blocks n (items-the_row-TStmt k row) → StatementsNameOpen blocks n row
unfolding StatementsNameOpen EachNamesOpen
row_names blocks n k end_of-TStmt all = tt
row_names blocks n k (more_of-TStmt s rest) all = (all.0, row_names blocks (behind n s) _ rest all.1)

abbrev BlockNamesOpen : Open → ℕ → List LocalVar → List TStmt → Type 0
BlockNamesOpen blocks n locals statements = InitialsNameOpen blocks n 0 locals × EachNamesOpen (opened blocks n (length locals)) (n + length locals) statements

block_names : (blocks : Open) (n : ℕ) (locals : Vec LocalVar Global) (statements : Vec TStmt Global) → BlockNamesOpen blocks n locals.items statements.items → StatementNamesOpen blocks n (R.Block locals statements)
unfolding StatementNamesOpen
block_names blocks n locals statements all =
    let row = typed_statements (R.Block locals statements) in
    let inner = opened blocks n (length locals.items) in
    (all.0, row_names inner (n + length locals.items) row.0 row.1 (subst (EachNamesOpen inner (n + length locals.items)) (sym (items_hidden-the_row-TStmt-0 statements)) all.1))

-- ---- open variables

-- where a name stands for a variable, that is open
abbrev pub MeansOpen : Open → Meaning → Type 0
MeansOpen blocks (a_shape number) = Unit {0}
MeansOpen blocks (a_function number) = Unit {0}
MeansOpen blocks (a_variable v ty) = IfSome ty (λ (known : VariableType). IsOpen blocks v)

pub means_open : (blocks : Open) (v : Variable) (ty : Option VariableType) → IsOpen blocks v → MeansOpen blocks (a_variable v ty)
means_open blocks v None is = tt
means_open blocks v (Some ty) is = is

all_mean : (blocks : Open) (names : List Binding) → ((word : List ℕ) (v : Variable) (ty : VariableType) → find names word ≡ Some (a_variable v (Some ty)) → IsOpen blocks v) → AllMean (MeansOpen blocks) names
all_mean blocks names known word (a_shape number) found = tt
all_mean blocks names known word (a_function number) found = tt
all_mean blocks names known word (a_variable v None) found = tt
all_mean blocks names known word (a_variable v (Some ty)) found = known word v ty found

module _ (blocks : Open) (n : ℕ) where
  -- they stay open in a block
  around : (many : ℕ) (v : Variable) → IsOpen blocks v → IsOpen (opened blocks n many) v
  unfolding IsOpen IsAmong
  around many (V.Local k) is = inr is
  around many (V.File k) is = tt
  around many (V.Param k) is = tt

  -- and behind one more of its variables, which is open too
  one_more : (many : ℕ) (v : Variable) → IsOpen (opened blocks n many) v → IsOpen (opened blocks n (many + 1)) v
  unfolding IsOpen IsAmong
  one_more many (V.Local k) (inl is) =
      let least = is.0 in
      let less = is.1 in
      inl (least, omega (arith, less))
  one_more many (V.Local k) (inr is) = inr is
  one_more many (V.File k) is = tt
  one_more many (V.Param k) is = tt

  newest : (many k : ℕ) → k ≡ n + many → IsOpen (opened blocks n (many + 1)) (V.Local k)
  unfolding IsOpen IsAmong
  newest many k is = inl (omega (arith, is), omega (arith, is))

  module _ (program : Program) where
    abbrev KnowsSoMany : ℕ → Here → Type 0
    KnowsSoMany many here = KnowsOpen (opened blocks n many) here

    -- ---- declarations

    behind_one : (many : ℕ) (here : Here) (ty : Option ValueType) (d : Declarator) → here.locals ≡ n + many → KnowsSoMany many here → KnowsSoMany (many + 1) (behind_declarator here ty d)
    unfolding meaning
    behind_one many here ty d number k other w of found =
        declared_one (MeansOpen (opened blocks n (many + 1))) here.names d.name.word (a_variable (V.Local here.locals) (declared_type here ty d.length))
        (all_mean (opened blocks n (many + 1)) _ (λ x u f is. one_more many u (k x u f is)))
        (means_open (opened blocks n (many + 1)) (V.Local here.locals) (declared_type here ty d.length) (newest many here.locals number)) other (a_variable w (Some of)) found

    -- behind declarations their variables are open, and each initialiser names those up to its own
    record Declares (behind_them : Here) (before : ℕ) (locals : List LocalVar) : Type 0 where
      knows : KnowsSoMany (before + length locals) behind_them
      initials : InitialsNameOpen blocks n before locals
      number_is : behind_them.locals ≡ n + (before + length locals)

    all_initials : (before : ℕ) (locals rest : List LocalVar) → InitialsNameOpen blocks n before locals → InitialsNameOpen blocks n (before + length locals) rest → InitialsNameOpen blocks n before (locals ++ rest)
    unfolding InitialsNameOpen
    all_initials before [] rest h k = let same : before + 0 ≡ before = omega arith in subst (λ (m : ℕ). InitialsNameOpen blocks n m rest) same k
    all_initials before (local ∷ locals) rest h k =
        let same : before + suc (length locals) ≡ before + 1 + length locals = omega arith in
        (h.0, all_initials (before + 1) locals rest h.1 (subst (λ (m : ℕ). InitialsNameOpen blocks n m rest) same k))

    initial_names : {here : Here} {ty : ValueType} {initial : Option Initializer} {f : Option TExpr} (many : ℕ) → TypesInitial program here ty initial f → KnowsSoMany many here → IfSome f (NamesOpen (opened blocks n many))
    initial_names many Y.no_initial k = tt
    initial_names many (Y.initial at at_hand takes fit) k = fitted (opened blocks n many) fit (named (opened blocks n many) program at k)

    so_many : {m l : ℕ} (here : Here) → m ≡ l → KnowsSoMany m here → KnowsSoMany l here
    so_many here same k = subst (λ (m : ℕ). KnowsSoMany m here) same k

    locals_name : {here : Here} {ty : ValueType} {ds : List Declarator} {ls : List LocalVar} (before : ℕ) → TypesLocals program here ty ds ls → here.locals ≡ n + before → KnowsSoMany before here → Declares (behind_declarators here (Some ty) ds) before ls
    unfolding behind_declarators InitialsNameOpen
    locals_name before Y.no_variable number k = record { knows = so_many _ (omega arith) k; initials = tt; number_is = omega (arith, number) }
    locals_name before (Y.next_variable {here = here} {ty = ty} {d = d} {ls = ls} at more) number k =
        let there = behind_one before here (Some ty) d number k in
        let rest = locals_name (before + 1) more (omega (arith, number)) there in
        let number_is = rest.number_is in
        record { knows = so_many _ (omega arith) rest.knows; initials = (initial_names (before + 1) at.initial there, rest.initials); number_is = omega (arith, number_is) }

    declarations_name : {here : Here} {ds : List Declaration} {ls : List LocalVar} (before : ℕ) → TypesDeclarations program here ds ls → here.locals ≡ n + before → KnowsSoMany before here → Declares (behind_declarations here ds) before ls
    unfolding behind_declarations InitialsNameOpen
    declarations_name before Y.no_declaration number k = record { knows = so_many _ (omega arith) k; initials = tt; number_is = omega (arith, number) }
    declarations_name before (Y.next_declaration {here = here} {d = d} {ds = ds} {ls = ls} {rest = rest} is at more) number k =
        let long = length-append ls rest in
        let first = locals_name before at number k in
        let others = declarations_name (before + length ls) more first.number_is first.knows in
        let others_is = others.number_is in
        subst (λ (known : Option ValueType). Declares (behind_declarations (behind_declarators here known d.variables.items) ds) before (ls ++ rest)) (sym is) (record {
          knows = so_many _ (omega (arith, long)) others.knows;
          initials = all_initials before ls rest first.initials others.initials;
          number_is = omega (arith, long, others_is);
        })

-- ---- statements

module _ (program : Program) where
  effect_names : {here : Here} {e : Option Expr} {f : Option TExpr} (blocks : Open) → TypesEffectIf program here e f → KnowsOpen blocks here → IfSome f (NamesOpen blocks)
  unfolding meaning
  effect_names blocks Y.TypesEffectIf.absent k = tt
  effect_names blocks (Y.TypesEffectIf.present at) k = named blocks program at k

  test_names : {here : Here} {e : Option Expr} {f : Option TExpr} (blocks : Open) → TypesTestIf program here e f → KnowsOpen blocks here → IfSome f (NamesOpen blocks)
  test_names blocks Y.TypesTestIf.absent k = tt
  test_names blocks (Y.TypesTestIf.present test) k = named blocks program test.typed k

  returned_names : {here : Here} {returns : Returns} {e f : TExpr} (blocks : Open) → IsReturned here returns e f → NamesOpen blocks e → NamesOpen blocks f
  returned_names blocks (Y.returned at_hand takes fit) names = fitted blocks fit names

  module _ (returns : Returns) where
    -- as many variables are declared behind a statement as it declares
    behind_names : {here : Here} {s : Stmt} {f : TStmt} (P : ℕ → Type 0) → TypesStatement program returns here s f → P (places.behind here s).locals → P (behind here.locals f)
    behind_names {here = here} P at names = subst (λ (m : ℕ). P (here.locals + m)) (sym (as_many program returns at)) names

    mutual
      unfolding StatementNamesOpen ElseNamesOpen EachNamesOpen meaning

      pub statement_names : {here : Here} {s : Stmt} {f : TStmt} (blocks : Open) → TypesStatement program returns here s f → KnowsOpen blocks here → StatementNamesOpen blocks here.locals f
      statement_names blocks (Y.block_is {here = here} locals statements at) k = block_names blocks here.locals locals statements (parts_name blocks at k)
      statement_names blocks (Y.expression at) k = named blocks program at k
      statement_names blocks Y.empty k = tt
      statement_names blocks (Y.if_alone second a test at) k = (named blocks program test.typed k, statement_names blocks at k, tt)
      statement_names blocks (Y.if_else second third a b test at other) k =
          (named blocks program test.typed k, statement_names blocks at k, behind_names (λ (m : ℕ). StatementNamesOpen blocks m b.value) at (statement_names blocks other k))
      statement_names blocks (Y.while body b test at) k = (named blocks program test.typed k, statement_names blocks at k)
      statement_names blocks (Y.do_while body b at test) k = (statement_names blocks at k, named blocks program test.typed k)
      statement_names blocks (Y.for body b first test step at) k = (effect_names blocks first k, test_names blocks test k, effect_names blocks step k, statement_names blocks at k)
      statement_names blocks (Y.break loop) k = tt
      statement_names blocks (Y.continue loop) k = tt
      statement_names blocks Y.return_alone k = tt
      statement_names blocks (Y.return_value at is) k = returned_names blocks is (named blocks program at k)
      statement_names blocks (Y.with body b is at) k = statement_names blocks at k
      statement_names blocks (Y.everywhere body b is at) k = statement_names blocks at k
      statement_names blocks (Y.where_alone second a is test parallel at) k = (named blocks program test k, statement_names blocks at k, tt)
      statement_names blocks (Y.where_else second third a b is test parallel at other) k =
          (named blocks program test k, statement_names blocks at k, behind_names (λ (m : ℕ). StatementNamesOpen blocks m b.value) at (statement_names blocks other k))

      -- behind a statement the same names are known, and its own variables are not
      statements_name : {here : Here} {ss : List Stmt} {ts : List TStmt} (blocks : Open) → TypesStatements program returns here ss ts → KnowsOpen blocks here → EachNamesOpen blocks here.locals ts
      statements_name blocks Y.no_statement k = tt
      statements_name blocks (Y.next_statement {ts = ts} at more) k = (statement_names blocks at k, behind_names (λ (m : ℕ). EachNamesOpen blocks m ts) at (statements_name blocks more k))

      parts_name : {here : Here} {block : Block} {locals : List LocalVar} {statements : List TStmt} (blocks : Open) → TypesBlock program returns here block locals statements → KnowsOpen blocks here → BlockNamesOpen blocks here.locals locals statements
      parts_name {here = here} {locals = locals} {statements = statements} blocks (Y.block block declarations at) k =
          let d = declarations_name blocks here.locals program 0 declarations (omega arith) (λ word v ty found. around blocks here.locals 0 v (k word v ty found)) in
          let number_is = d.number_is in (
            d.initials,
            subst (λ (m : ℕ). EachNamesOpen (opened blocks here.locals (length locals)) m statements) (omega (arith, number_is))
                (statements_name (opened blocks here.locals (length locals)) at (so_many blocks here.locals program (behind_declarations here block.declarations.items) (omega arith) d.knows)),
          )

    -- the body of a function is a block in the scope of its parameters
    pub body_names : {here : Here} {block : Block} {locals : List LocalVar} {statements : List TStmt} {body : TStmt} (blocks : Open) → TypesBlock program returns here block locals statements → IsBody locals statements body → KnowsOpen blocks here →
        StatementNamesOpen blocks here.locals body
    body_names {here = here} {statements = statements} blocks at (Z.body ls ss locals_are statements_are) k =
        block_names blocks here.locals ls ss
        (subst (BlockNamesOpen blocks here.locals ls.items) (sym statements_are) (subst (λ (locals : List LocalVar). BlockNamesOpen blocks here.locals locals statements) (sym locals_are) (parts_name blocks at k)))
