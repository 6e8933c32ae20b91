-- Which calls a statement has is told by its names and the current shape: it has the same at places
-- that differ in no more than the numbers and types of variables, and in whether a loop is around.
use Rattle.std.proofs.Common.{◌≡◌, ℕ, Bool, true, false, List, [], ◌∷◌, ◌++◌, map, Option, Some, None, bytes_eq, if◌then◌else◌, is_some, refl, sym, ap, ap₂, subst, ◌∙◌}
use Rattle.std.proofs.Math.Path.{fun_ext}
use Rattle.std.proofs.lemmas.List.{map-append}
use Rattle.cstar_tree.specs.declared.syntax.Block.{Block}
use Rattle.cstar_tree.specs.declared.syntax.Declaration.{Declaration}
use Rattle.cstar_tree.specs.declared.syntax.Declarator.{Declarator}
use Rattle.cstar_tree.specs.declared.syntax.Expr.{Expr}
use Rattle.cstar_tree.specs.declared.syntax.Expr.TheFolds.{fold-Expr}
use Rattle.cstar_tree.specs.declared.syntax.Expr.TheOpen.{Expr-F}
use Rattle.cstar_tree.specs.declared.syntax.ShapeRef.{ShapeRef}
use Rattle.cstar_tree.specs.declared.syntax.ShapeRef.TheVariants as R
use Rattle.cstar_tree.specs.declared.syntax.Stmt.{Stmt}
use Rattle.cstar_tree.specs.declared.syntax.Stmt.TheFolds.{fold-Block, fold-roll-Block, fold-roll-Stmt, ind-Stmt, map-Block, map-Stmt}
use Rattle.cstar_tree.specs.declared.syntax.Stmt.TheOpen.{Block-F, Stmt-F}
use Rattle.cstar_tree.specs.declared.typed.ValueType.{ValueType}
use Rattle.cstar_tree.specs.declared.typed.Variable.TheVariants as V
use Rattle.cstar_tree.specs.BlockScopes.{behind_declarations, behind_declarator, behind_declarators, block_place, declared_type}
use Rattle.cstar_tree.specs.Calls.{Call, at_each, block_step, call_of, call_step, calls_in, calls_in_declarations, calls_in_declarators, calls_in_each, calls_in_statement, statement_step, untyped, within}
use Rattle.cstar_tree.specs.Scopes.{Binding, Here, Meaning, Names, a_function, a_shape, a_variable, declared, find, meaning, shape_meant, shape_of, under, written_type}
use Rattle.cstar_tree.specs.SyntaxParts.{expressions_of, initial_values, statements_of}
use Rattle.cstar_tree.specs.TypedParts.{concat, optional}

-- what a name stands for, whichever variable that is
abbrev plain : Meaning → Meaning
plain (a_shape s) = a_shape s
plain (a_function f) = a_function f
plain (a_variable v t) = a_variable (V.Local 0) None

abbrev kind : Option Meaning → Option Meaning
kind None = None
kind (Some m) = Some (plain m)

abbrev kinds : List Binding → List Binding
kinds names = map (λ (b : Binding). record { word = b.word; meaning = plain b.meaning }) names

pub record AreAlike (a b : Here) : Type 0 where
  pub inner : kinds a.names.inner ≡ kinds b.names.inner
  pub outer : kinds a.names.outer ≡ kinds b.names.outer
  pub current : a.current ≡ b.current

-- ---- what a word stands for

found_kind : (names : List Binding) (word : List ℕ) → kind (find names word) ≡ find (kinds names) word
unfolding find
found_kind [] word = refl
found_kind (b ∷ rest) word = by (bytes_eq b.word word) (find rest word) (find (kinds rest) word) (found_kind rest word)
  where
    by : (c : Bool) (x y : Option Meaning) → kind x ≡ y → kind (if c then Some b.meaning else x) ≡ (if c then Some (plain b.meaning) else y)
    by true x y same = refl
    by false x y same = same

found_alike : (xs ys : List Binding) (word : List ℕ) → kinds xs ≡ kinds ys → kind (find xs word) ≡ kind (find ys word)
found_alike xs ys word same = found_kind xs word ∙ ap (λ (names : List Binding). find names word) same ∙ sym (found_kind ys word)

meant_alike : {a b : Here} → AreAlike a b → (word : List ℕ) → kind (meaning a word) ≡ kind (meaning b word)
unfolding meaning
meant_alike {a} {b} same word = found_alike (a.names.inner ++ a.names.outer) (b.names.inner ++ b.names.outer) word
    (map-append _ a.names.inner a.names.outer ∙ ap₂ (λ (xs ys : List Binding). xs ++ ys) same.inner same.outer ∙ sym (map-append _ b.names.inner b.names.outer))

-- ---- the calls of an expression

call_kind : (here : Here) (m : Option Meaning) → call_of here m ≡ call_of here (kind m)
call_kind here None = refl
call_kind here (Some (a_shape s)) = refl
call_kind here (Some (a_function f)) = refl
call_kind here (Some (a_variable v t)) = refl

call_under : (a b : Here) → a.current ≡ b.current → (m : Option Meaning) → call_of a m ≡ call_of b m
call_under a b same None = refl
call_under a b same (Some (a_shape s)) = refl
call_under a b same (Some (a_function f)) = ap (λ (c : Option ℕ). record { function = f; current = c; typed = true } ∷ []) same
call_under a b same (Some (a_variable v t)) = refl

step_alike : {a b : Here} → AreAlike a b → (node : Expr-F (List Call)) → call_step a node ≡ call_step b node
step_alike {a} {b} same (Expr-F.Call n arguments) = ap (λ (cs : List Call). concat arguments.items ++ cs)
    (call_kind a (meaning a n.word) ∙ ap (call_of a) (meant_alike same n.word) ∙ sym (call_kind a (meaning b n.word)) ∙ call_under a b same.current (meaning b n.word))
step_alike same node = refl

pub calls_alike : {a b : Here} → AreAlike a b → (e : Expr) → calls_in a e ≡ calls_in b e
calls_alike same e = ap (λ (step : Expr-F (List Call) → List Call). fold-Expr (List Call) step e) (fun_ext (step_alike same))

pub each_alike : {a b : Here} → AreAlike a b → (es : List Expr) → calls_in_each a es ≡ calls_in_each b es
each_alike same es = ap (λ (calls : Expr → List Call). concat (map calls es)) (fun_ext (calls_alike same))

-- ---- shapes

shape_kind : (m : Option Meaning) → shape_meant m ≡ shape_meant (kind m)
shape_kind None = refl
shape_kind (Some (a_shape s)) = refl
shape_kind (Some (a_function f)) = refl
shape_kind (Some (a_variable v t)) = refl

pub shape_alike : {a b : Here} → AreAlike a b → (written : ShapeRef) → shape_of a written ≡ shape_of b written
shape_alike {a} {b} same (R.Named name) = shape_kind (meaning a name.word) ∙ ap shape_meant (meant_alike same name.word) ∙ sym (shape_kind (meaning b name.word))
shape_alike same (R.Current p) = same.current

pub under_alike : {a b : Here} (shape : ℕ) → AreAlike a b → AreAlike (under a shape) (under b shape)
under_alike shape same = record { inner = same.inner; outer = same.outer; current = refl }

pub block_alike : {a b : Here} → AreAlike a b → AreAlike (block_place a) (block_place b)
block_alike {a} {b} same = record {
  inner = refl;
  outer = map-append _ a.names.inner a.names.outer ∙ ap₂ (λ (xs ys : List Binding). xs ++ ys) same.inner same.outer ∙ sym (map-append _ b.names.inner b.names.outer);
  current = same.current;
}

-- ---- declarations

there_kind : (m : Option Meaning) → is_some m ≡ is_some (kind m)
there_kind None = refl
there_kind (Some m) = refl

abbrev AlikeNames : Names → Names → Type 0
AlikeNames a b = (kinds a.inner ≡ kinds b.inner) × (kinds a.outer ≡ kinds b.outer)

names_alike : (a b : Names) (word : List ℕ) (m n : Meaning) → AlikeNames a b → plain m ≡ plain n → AlikeNames (declared a word m) (declared b word n)
names_alike a b word m n same alike =
    by (is_some (find a.inner word)) (is_some (find b.inner word)) (there_kind (find a.inner word) ∙ ap is_some (found_alike a.inner b.inner word same.0) ∙ sym (there_kind (find b.inner word)))
  where
    by : (c d : Bool) → c ≡ d → AlikeNames (if c then a else record { inner = record { word = word; meaning = m } ∷ a.inner; outer = a.outer }) (if d then b else record { inner = record { word = word; meaning = n } ∷ b.inner; outer = b.outer })
    by true true is = same
    by true false is = absurd (cc)
    by false true is = absurd (cc)
    by false false is = (ap₂ (λ (k : Meaning) (names : List Binding). record { word = word; meaning = k } ∷ names) alike same.0, same.1)

pub declarator_alike : {a b : Here} (ty of : Option ValueType) (d : Declarator) → AreAlike a b → AreAlike (behind_declarator a ty d) (behind_declarator b of d)
declarator_alike {a} {b} ty of d same =
    let names = names_alike a.names b.names d.name.word (a_variable (V.Local a.locals) (declared_type a ty d.length)) (a_variable (V.Local b.locals) (declared_type b of d.length)) (same.inner, same.outer) refl in
    record { inner = names.0; outer = names.1; current = same.current }

pub behind_alike : (ty of : Option ValueType) (ds : List Declarator) (a b : Here) → AreAlike a b → AreAlike (behind_declarators a ty ds) (behind_declarators b of ds)
unfolding behind_declarators
behind_alike ty of [] a b same = same
behind_alike ty of (d ∷ ds) a b same = behind_alike ty of ds (behind_declarator a ty d) (behind_declarator b of d) (declarator_alike ty of d same)

declarators_alike : (ty of : Option ValueType) (ds : List Declarator) (a b : Here) → AreAlike a b → calls_in_declarators a ty ds ≡ calls_in_declarators b of ds
unfolding calls_in_declarators
declarators_alike ty of [] a b same = refl
declarators_alike ty of (d ∷ ds) a b same =
    let next = declarator_alike {a = a} {b = b} ty of d same in
    ap₂ (λ (xs ys : List Call). xs ++ ys) (ap₂ (λ (xs ys : List Call). xs ++ ys) (each_alike same (optional d.length)) (each_alike next (initial_values d.initial)))
    (declarators_alike ty of ds (behind_declarator a ty d) (behind_declarator b of d) next)

pub behind_all_alike : (ds : List Declaration) (a b : Here) → AreAlike a b → AreAlike (behind_declarations a ds) (behind_declarations b ds)
unfolding behind_declarations
behind_all_alike [] a b same = same
behind_all_alike (d ∷ ds) a b same =
    behind_all_alike ds (behind_declarators a (written_type a d.type_name) d.variables.items) (behind_declarators b (written_type b d.type_name) d.variables.items)
    (behind_alike (written_type a d.type_name) (written_type b d.type_name) d.variables.items a b same)

pub declarations_alike : (ds : List Declaration) (a b : Here) → AreAlike a b → calls_in_declarations a ds ≡ calls_in_declarations b ds
unfolding calls_in_declarations
declarations_alike [] a b same = refl
declarations_alike (d ∷ ds) a b same =
    ap₂ (λ (xs ys : List Call). xs ++ ys) (declarators_alike (written_type a d.type_name) (written_type b d.type_name) d.variables.items a b same)
    (declarations_alike ds (behind_declarators a (written_type a d.type_name) d.variables.items) (behind_declarators b (written_type b d.type_name) d.variables.items)
    (behind_alike (written_type a d.type_name) (written_type b d.type_name) d.variables.items a b same))

-- ---- statements

abbrev calls_of : Block → Here → List Call
calls_of = fold-Block (Here → List Call) (Here → List Call) statement_step block_step

abbrev AreSame : (Here → List Call) → Type 0
AreSame calls = (a b : Here) → AreAlike a b → calls a ≡ calls b

abbrev SameStatement : Type 0
SameStatement = (s : Stmt) × AreSame (calls_in_statement s)

abbrev SameBlock : Type 0
SameBlock = (block : Block) × AreSame (calls_of block)

within_same : (calls : Here → List Call) → AreSame calls → (a b : Here) → AreAlike a b → (shape : Option ℕ) → within a shape calls ≡ within b shape calls
within_same calls is a b same None = ap untyped (is a b same)
within_same calls is a b same (Some shape) = is (under a shape) (under b shape) (under_alike shape same)

row_same : (ss : List SameStatement) (a b : Here) → AreAlike a b → at_each a (map calls_in_statement (map (λ s. s.0) ss)) ≡ at_each b (map calls_in_statement (map (λ s. s.0) ss))
unfolding at_each
row_same [] a b same = refl
row_same (s ∷ ss) a b same = ap₂ (λ (xs ys : List Call). xs ++ ys) (s.1 a b same) (row_same ss a b same)

-- the calls of a node, from those of its parts
abbrev node_calls : Stmt-F Stmt Block → Here → List Call
node_calls node = statement_step (map-Stmt Stmt Block (Here → List Call) (Here → List Call) calls_in_statement calls_of node)

abbrev block_calls : Block-F Stmt Block → Here → List Call
block_calls node = block_step (map-Block Stmt Block (Here → List Call) (Here → List Call) calls_in_statement calls_of node)

abbrev node_of : Stmt-F SameStatement SameBlock → Stmt-F Stmt Block
node_of node = map-Stmt SameStatement SameBlock Stmt Block (λ s. s.0) (λ block. block.0) node

abbrev block_of : Block-F SameStatement SameBlock → Block-F Stmt Block
block_of node = map-Block SameStatement SameBlock Stmt Block (λ s. s.0) (λ block. block.0) node

node_same : (node : Stmt-F SameStatement SameBlock) → AreSame (node_calls (node_of node))
node_same (Stmt-F.Block block) = λ a b same. block.1 (block_place a) (block_place b) (block_alike same)
node_same (Stmt-F.With p shape body) = λ a b same. ap (λ (s : Option ℕ). within a s (calls_in_statement body.value.0)) (shape_alike same shape) ∙ within_same (calls_in_statement body.value.0) body.value.1 a b same (shape_of b shape)
node_same (Stmt-F.Do p body test) = λ a b same. ap₂ (λ (xs ys : List Call). xs ++ ys) (body.value.1 a b same) (calls_alike same test)
node_same (Stmt-F.If p test second None) = λ a b same. ap₂ (λ (xs ys : List Call). xs ++ ys) (each_alike same (test ∷ [])) (row_same (second.value ∷ []) a b same)
node_same (Stmt-F.If p test second (Some third)) = λ a b same. ap₂ (λ (xs ys : List Call). xs ++ ys) (each_alike same (test ∷ [])) (row_same (second.value ∷ third.value ∷ []) a b same)
node_same (Stmt-F.Where p test second None) = λ a b same. ap₂ (λ (xs ys : List Call). xs ++ ys) (each_alike same (test ∷ [])) (row_same (second.value ∷ []) a b same)
node_same (Stmt-F.Where p test second (Some third)) = λ a b same. ap₂ (λ (xs ys : List Call). xs ++ ys) (each_alike same (test ∷ [])) (row_same (second.value ∷ third.value ∷ []) a b same)
node_same node = λ a b same. ap₂ (λ (xs ys : List Call). xs ++ ys) (each_alike same (expressions_of node)) (row_same (statements_of node) a b same)

block_same : (node : Block-F SameStatement SameBlock) → AreSame (block_calls (block_of node))
block_same node = λ a b same. ap₂ (λ (xs ys : List Call). xs ++ ys) (declarations_alike node.declarations.items a b same)
    (row_same node.statements.items (behind_declarations a node.declarations.items) (behind_declarations b node.declarations.items) (behind_all_alike node.declarations.items a b same))

all_same : (s : Stmt) → AreSame (calls_in_statement s)
all_same = ind-Stmt (λ s. AreSame (calls_in_statement s)) (λ block. AreSame (calls_of block))
    (λ x y is. λ a b same.
    ap (λ (calls : Here → List Call). calls a) (fold-roll-Stmt (Here → List Call) (Here → List Call) statement_step block_step x)
    ∙ subst (λ (node : Stmt-F Stmt Block). AreSame (node_calls node)) is (node_same y) a b same
    ∙ ap (λ (calls : Here → List Call). calls b) (sym (fold-roll-Stmt (Here → List Call) (Here → List Call) statement_step block_step x)))
    (λ x y is. λ a b same.
    ap (λ (calls : Here → List Call). calls a) (fold-roll-Block (Here → List Call) (Here → List Call) statement_step block_step x)
    ∙ subst (λ (node : Block-F Stmt Block). AreSame (block_calls node)) is (block_same y) a b same
    ∙ ap (λ (calls : Here → List Call). calls b) (sym (fold-roll-Block (Here → List Call) (Here → List Call) statement_step block_step x)))

pub statement_alike : {a b : Here} (s : Stmt) → AreAlike a b → calls_in_statement s a ≡ calls_in_statement s b
statement_alike {a} {b} s same = all_same s a b same
