-- Which functions a part of a body calls is told by the functions that names stand for at its place:
-- they are the same under each shape, and whatever types variables have.
use Rattle.std.proofs.Common.{◌≡◌, ℕ, ◌+◌, List, [], ◌∷◌, ◌++◌, map, Bool, true, false, is_none, is_some, bytes_eq, Option, Some, None, refl, sym, ap, ◌∙◌, subst, if◌then◌else◌}
use Rattle.std.proofs.lemmas.List.{map-append}
use Rattle.cstar_tree.specs.declared.syntax.Block.{Block}
use Rattle.cstar_tree.specs.declared.syntax.Block as B
use Rattle.cstar_tree.specs.declared.syntax.Declaration.{Declaration}
use Rattle.cstar_tree.specs.declared.syntax.Declarator.{Declarator}
use Rattle.cstar_tree.specs.declared.syntax.Expr.{Expr}
use Rattle.cstar_tree.specs.declared.syntax.Expr as E
use Rattle.cstar_tree.specs.declared.syntax.Expr.TheFolds.{fold-roll-Expr, ind-Expr}
use Rattle.cstar_tree.specs.declared.syntax.Expr.TheOpen.{Expr-F}
use Rattle.cstar_tree.specs.declared.syntax.Parameter.{Parameter}
use Rattle.cstar_tree.specs.declared.syntax.Stmt.{Stmt}
use Rattle.cstar_tree.specs.declared.syntax.Stmt as S
use Rattle.cstar_tree.specs.declared.syntax.Stmt.TheFolds.{fold-roll-Block, fold-roll-Stmt, ind-Stmt}
use Rattle.cstar_tree.specs.declared.syntax.Stmt.TheOpen.{Block-F, Stmt-F}
use Rattle.cstar_tree.specs.declared.typed.ValueType.{ValueType}
use Rattle.cstar_tree.specs.declared.typed.Variable.{Variable}
use Rattle.cstar_tree.specs.declared.typed.Variable.TheVariants as V
use Rattle.cstar_tree.specs.BlockScopes.{behind_declarations, behind_declarator, behind_declarators, block_place, declared_type}
use Rattle.cstar_tree.specs.Calls.{Call, at_each, block_step, call_of, call_step, calls_in, calls_in_block, calls_in_declarations, calls_in_declarators, calls_in_each, calls_in_statement, statement_step, untyped, within}
use Rattle.cstar_tree.specs.Headers.{Placed, Reached, behind_parameter, behind_parameters, body_place, header_place, plain_type}
use Rattle.cstar_tree.specs.Instances.{function_meant}
use Rattle.cstar_tree.specs.Scopes.{Here, Meaning, Names, VariableType, a_function, a_shape, a_variable, declared, find, meaning, shape_of, under, written_type}
use Rattle.cstar_tree.specs.SyntaxParts.{initial_values}
use Rattle.cstar_tree.specs.TypedParts.{concat, optional}

abbrev pub functions_of : List Call → List ℕ
functions_of calls = map (λ (c : Call). c.function) calls

both_same : (a b c d : List Call) → functions_of a ≡ functions_of c → functions_of b ≡ functions_of d → functions_of (a ++ b) ≡ functions_of (c ++ d)
both_same a b c d first second =
    map-append (λ (c : Call). c.function) a b
    ∙ ap (λ (fs : List ℕ). fs ++ functions_of b) first
    ∙ ap (λ (fs : List ℕ). functions_of c ++ fs) second
    ∙ sym (map-append (λ (c : Call). c.function) c d)

-- ---- places where names stand for the same functions

-- they have the same words in their innermost scopes, so that the same are declared anew
pub record AreAlike (a b : Names) : Type 0 where
  pub inner : (word : List ℕ) → is_none (find a.inner word) ≡ is_none (find b.inner word)
  pub all : (word : List ℕ) → function_meant (find (a.inner ++ a.outer) word) ≡ function_meant (find (b.inner ++ b.outer) word)

abbrev pub IsAlike : Here → Here → Type 0
IsAlike here there = AreAlike here.names there.names

pub alike_itself : (a : Names) → AreAlike a a
alike_itself a = record { inner = λ word. refl; all = λ word. refl }

pub alike_inside : (here there : Here) → IsAlike here there → IsAlike (block_place here) (block_place there)
alike_inside here there is = record { inner = λ word. refl; all = is.all }

same_none : (c : Bool) (m n : Meaning) (x y : Option Meaning) → is_none x ≡ is_none y → is_none (if c then Some m else x) ≡ is_none (if c then Some n else y)
same_none true m n x y h = refl
same_none false m n x y h = h

same_function : (c : Bool) (v w : Variable) (s t : Option VariableType) (x y : Option Meaning) → function_meant x ≡ function_meant y → function_meant (if c then Some (a_variable v s) else x) ≡ function_meant (if c then Some (a_variable w t) else y)
same_function true v w s t x y h = refl
same_function false v w s t x y h = h

abbrev with_variable : Names → List ℕ → Variable → Option VariableType → Names
with_variable a word v t = record { inner = record { word = word; meaning = a_variable v t } ∷ a.inner; outer = a.outer }

one_more : (a b : Names) (word : List ℕ) (v w : Variable) (s t : Option VariableType) → AreAlike a b → AreAlike (with_variable a word v s) (with_variable b word w t)
unfolding find
one_more a b word v w s t is = record {
  inner = λ x. same_none (bytes_eq word x) (a_variable v s) (a_variable w t) (find a.inner x) (find b.inner x) (is.inner x);
  all = λ x. same_function (bytes_eq word x) v w s t (find (a.inner ++ a.outer) x) (find (b.inner ++ b.outer) x) (is.all x);
}

if_new : (a b : Names) (word : List ℕ) (v w : Variable) (s t : Option VariableType) (m n : Option Meaning) → is_none m ≡ is_none n → AreAlike a b
    → AreAlike (if is_some m then a else with_variable a word v s) (if is_some n then b else with_variable b word w t)
if_new a b word v w s t None None same is = one_more a b word v w s t is
if_new a b word v w s t None (Some y) same is = absurd (cc)
if_new a b word v w s t (Some x) None same is = absurd (cc)
if_new a b word v w s t (Some x) (Some y) same is = is

alike_declared : (a b : Names) (word : List ℕ) (v w : Variable) (s t : Option VariableType) → AreAlike a b → AreAlike (declared a word (a_variable v s)) (declared b word (a_variable w t))
alike_declared a b word v w s t is = if_new a b word v w s t (find a.inner word) (find b.inner word) (is.inner word) is

pub alike_behind : (here there : Here) (ty of : Option ValueType) (d : Declarator) → IsAlike here there → IsAlike (behind_declarator here ty d) (behind_declarator there of d)
alike_behind here there ty of d is =
    alike_declared here.names there.names d.name.word (V.Local here.locals) (V.Local there.locals) (declared_type here ty d.length) (declared_type there of d.length) is

pub alike_behind_all : (here there : Here) (ty of : Option ValueType) (ds : List Declarator) → IsAlike here there → IsAlike (behind_declarators here ty ds) (behind_declarators there of ds)
unfolding behind_declarators
alike_behind_all here there ty of [] is = is
alike_behind_all here there ty of (d ∷ ds) is = alike_behind_all (behind_declarator here ty d) (behind_declarator there of d) ty of ds (alike_behind here there ty of d is)

pub alike_behind_each : (here there : Here) (ds : List Declaration) → IsAlike here there → IsAlike (behind_declarations here ds) (behind_declarations there ds)
unfolding behind_declarations
alike_behind_each here there [] is = is
alike_behind_each here there (d ∷ ds) is =
    let ty = written_type here d.type_name in
    let of = written_type there d.type_name in
    alike_behind_each (behind_declarators here ty d.variables.items) (behind_declarators there of d.variables.items) ds (alike_behind_all here there ty of d.variables.items is)

alike_parameters : (here there : Here) (n : ℕ) (ps : List Parameter) → IsAlike here there → IsAlike (behind_parameters here n ps) (behind_parameters there n ps)
unfolding behind_parameters
alike_parameters here there n [] is = is
alike_parameters here there n (p ∷ ps) is =
    alike_parameters (behind_parameter here n p) (behind_parameter there n p) (n + 1) ps
    (alike_declared here.names there.names p.name.word (V.Param n) (V.Param n) (plain_type (written_type here p.type_name)) (plain_type (written_type there p.type_name)) is)

-- ---- expressions

abbrev ExpressionSame : Expr → Type 0
ExpressionSame e = (here there : Here) → IsAlike here there → functions_of (calls_in here e) ≡ functions_of (calls_in there e)

abbrev Part : Type 0
Part = (e : Expr) × ExpressionSame e

parts_same : (here there : Here) → IsAlike here there → (es : List Part) → functions_of (concat (map (calls_in here) (map (λ (p : Part). p.0) es))) ≡ functions_of (concat (map (calls_in there) (map (λ (p : Part). p.0) es)))
unfolding concat
parts_same here there is [] = refl
parts_same here there is (e ∷ es) =
    let rest = map (λ (p : Part). p.0) es in
    both_same (calls_in here e.0) (concat (map (calls_in here) rest)) (calls_in there e.0) (concat (map (calls_in there) rest)) (e.1 here there is) (parts_same here there is es)

abbrev of_function : Option ℕ → List ℕ
of_function None = []
of_function (Some f) = f ∷ []

function_called : (here : Here) (m : Option Meaning) → functions_of (call_of here m) ≡ of_function (function_meant m)
function_called here None = refl
function_called here (Some (a_shape s)) = refl
function_called here (Some (a_function f)) = refl
function_called here (Some (a_variable v t)) = refl

abbrev calls_at : Here → Expr-F Expr → List Call
calls_at here x = call_step here (E.map-Expr Expr (List Call) (calls_in here) x)

abbrev opened_expression : Expr-F Part → Expr-F Expr
opened_expression y = E.map-Expr Part Expr (λ (p : Part). p.0) y

one_expression : (y : Expr-F Part) (here there : Here) → IsAlike here there → functions_of (calls_at here (opened_expression y)) ≡ functions_of (calls_at there (opened_expression y))
unfolding meaning concat
one_expression (Expr-F.Assign p op target value) here there is = parts_same here there is (target.value ∷ value.value ∷ [])
one_expression (Expr-F.Choice p test second third) here there is = parts_same here there is (test.value ∷ second.value ∷ third.value ∷ [])
one_expression (Expr-F.Binary p op left right) here there is = parts_same here there is (left.value ∷ right.value ∷ [])
one_expression (Expr-F.Prefix p op operand) here there is = parts_same here there is (operand.value ∷ [])
one_expression (Expr-F.Casts casts operand) here there is = parts_same here there is (operand.value ∷ [])
one_expression (Expr-F.ParallelCast p written operand) here there is = parts_same here there is (operand.value ∷ [])
one_expression (Expr-F.Postfix p op operand) here there is = parts_same here there is (operand.value ∷ [])
one_expression (Expr-F.Element n bracket index) here there is = parts_same here there is (index.value ∷ [])
one_expression (Expr-F.Brackets p inner) here there is = parts_same here there is (inner.value ∷ [])
one_expression (Expr-F.Call n arguments) here there is =
    let es = map (λ (p : Part). p.0) arguments.items in
    both_same (concat (map (calls_in here) es)) (call_of here (meaning here n.word)) (concat (map (calls_in there) es)) (call_of there (meaning there n.word))
    (parts_same here there is arguments.items)
    (function_called here (meaning here n.word) ∙ ap of_function (is.all n.word) ∙ sym (function_called there (meaning there n.word)))
one_expression (Expr-F.LeftIndex p indexes n) here there is = parts_same here there is indexes.items
one_expression (Expr-F.Pcoord p axis) here there is = parts_same here there is (axis.value ∷ [])
one_expression (Expr-F.DimOf p shape axis) here there is = parts_same here there is (axis.value ∷ [])
one_expression (Expr-F.Scan p source axis combiner direction mode bit reach) here there is = parts_same here there is (source.value ∷ axis.value ∷ [])
one_expression (Expr-F.Enumerate p axis direction reach mode bit) here there is = parts_same here there is (axis.value ∷ [])
one_expression (Expr-F.Printf p text arguments) here there is = parts_same here there is arguments.items
one_expression _ here there is = refl

pub expression_same : (e : Expr) → ExpressionSame e
expression_same = ind-Expr ExpressionSame (λ x y is here there alike.
    ap functions_of (fold-roll-Expr (List Call) (call_step here) x)
    ∙ subst (λ (z : Expr-F Expr). functions_of (calls_at here z) ≡ functions_of (calls_at there z)) is (one_expression y here there alike)
    ∙ sym (ap functions_of (fold-roll-Expr (List Call) (call_step there) x)))

each_same : (here there : Here) → IsAlike here there → (es : List Expr) → functions_of (calls_in_each here es) ≡ functions_of (calls_in_each there es)
unfolding concat
each_same here there is [] = refl
each_same here there is (e ∷ es) = both_same (calls_in here e) (calls_in_each here es) (calls_in there e) (calls_in_each there es) (expression_same e here there is) (each_same here there is es)

-- ---- declarations

declarators_same : (here there : Here) (ty of : Option ValueType) (ds : List Declarator) → IsAlike here there → functions_of (calls_in_declarators here ty ds) ≡ functions_of (calls_in_declarators there of ds)
unfolding calls_in_declarators
declarators_same here there ty of [] is = refl
declarators_same here there ty of (d ∷ ds) is =
    let next = behind_declarator here ty d in
    let other = behind_declarator there of d in
    let alike = alike_behind here there ty of d is in
    both_same (calls_in_each here (optional d.length) ++ calls_in_each next (initial_values d.initial)) (calls_in_declarators next ty ds)
    (calls_in_each there (optional d.length) ++ calls_in_each other (initial_values d.initial)) (calls_in_declarators other of ds)
    (both_same (calls_in_each here (optional d.length)) (calls_in_each next (initial_values d.initial)) (calls_in_each there (optional d.length)) (calls_in_each other (initial_values d.initial))
    (each_same here there is (optional d.length)) (each_same next other alike (initial_values d.initial)))
    (declarators_same next other ty of ds alike)

declarations_same : (here there : Here) (ds : List Declaration) → IsAlike here there → functions_of (calls_in_declarations here ds) ≡ functions_of (calls_in_declarations there ds)
unfolding calls_in_declarations
declarations_same here there [] is = refl
declarations_same here there (d ∷ ds) is =
    let ty = written_type here d.type_name in
    let of = written_type there d.type_name in
    let list = d.variables.items in
    both_same (calls_in_declarators here ty list) (calls_in_declarations (behind_declarators here ty list) ds) (calls_in_declarators there of list) (calls_in_declarations (behind_declarators there of list) ds)
    (declarators_same here there ty of list is)
    (declarations_same (behind_declarators here ty list) (behind_declarators there of list) ds (alike_behind_all here there ty of list is))

-- ---- statements

abbrev StatementSame : Stmt → Type 0
StatementSame s = (here there : Here) → IsAlike here there → functions_of (calls_in_statement s here) ≡ functions_of (calls_in_statement s there)

-- the calls of a block as those of a node are
abbrev pub folded_block : Block → Here → List Call
folded_block = B.fold-Block (Here → List Call) (Here → List Call) statement_step block_step

abbrev BlockSame : Block → Type 0
BlockSame b = (here there : Here) → IsAlike here there → functions_of (folded_block b here) ≡ functions_of (folded_block b there)

abbrev Inner : Type 0
Inner = (s : Stmt) × StatementSame s

abbrev InnerBlock : Type 0
InnerBlock = (b : Block) × BlockSame b

abbrev pub calls_of_node : Here → Stmt-F Stmt Block → List Call
calls_of_node here x = statement_step (S.map-Stmt Stmt Block (Here → List Call) (Here → List Call) calls_in_statement folded_block x) here

abbrev pub calls_of_block_node : Here → Block-F Stmt Block → List Call
calls_of_block_node here x = block_step (B.map-Block Stmt Block (Here → List Call) (Here → List Call) calls_in_statement folded_block x) here

abbrev opened_statement : Stmt-F Inner InnerBlock → Stmt-F Stmt Block
opened_statement y = S.map-Stmt Inner InnerBlock Stmt Block (λ (s : Inner). s.0) (λ (b : InnerBlock). b.0) y

abbrev opened_block : Block-F Inner InnerBlock → Block-F Stmt Block
opened_block y = B.map-Block Inner InnerBlock Stmt Block (λ (s : Inner). s.0) (λ (b : InnerBlock). b.0) y

inner_same : (here there : Here) → IsAlike here there → (ss : List Inner) → functions_of (at_each here (map calls_in_statement (map (λ (s : Inner). s.0) ss))) ≡ functions_of (at_each there (map calls_in_statement (map (λ (s : Inner). s.0) ss)))
unfolding at_each
inner_same here there is [] = refl
inner_same here there is (s ∷ ss) =
    let rest = map calls_in_statement (map (λ (s : Inner). s.0) ss) in
    both_same (calls_in_statement s.0 here) (at_each here rest) (calls_in_statement s.0 there) (at_each there rest) (s.1 here there is) (inner_same here there is ss)

node_same : (here there : Here) → IsAlike here there → (es : List Expr) (ss : List Inner)
    → functions_of (calls_in_each here es ++ at_each here (map calls_in_statement (map (λ (s : Inner). s.0) ss))) ≡ functions_of (calls_in_each there es ++ at_each there (map calls_in_statement (map (λ (s : Inner). s.0) ss)))
node_same here there is es ss =
    let all = map calls_in_statement (map (λ (s : Inner). s.0) ss) in
    both_same (calls_in_each here es) (at_each here all) (calls_in_each there es) (at_each there all) (each_same here there is es) (inner_same here there is ss)

pub untyped_same : (cs : List Call) → functions_of (untyped cs) ≡ functions_of cs
untyped_same [] = refl
untyped_same (c ∷ cs) = ap (λ (fs : List ℕ). c.function ∷ fs) (untyped_same cs)

-- under whatever shape, or none
under_any : (here there : Here) → IsAlike here there → (s : Inner) (shape : Option ℕ) → functions_of (within here shape (calls_in_statement s.0)) ≡ functions_of (calls_in_statement s.0 there)
under_any here there is s None = untyped_same (calls_in_statement s.0 here) ∙ s.1 here there is
under_any here there is s (Some shape) = s.1 (under here shape) there is

one_statement : (y : Stmt-F Inner InnerBlock) (here there : Here) → IsAlike here there → functions_of (calls_of_node here (opened_statement y)) ≡ functions_of (calls_of_node there (opened_statement y))
one_statement (Stmt-F.Block block) here there is = block.1 (block_place here) (block_place there) (alike_inside here there is)
one_statement (Stmt-F.Expression p e) here there is = node_same here there is (e ∷ []) []
one_statement (Stmt-F.Empty p) here there is = node_same here there is [] []
one_statement (Stmt-F.If p test second None) here there is = node_same here there is (test ∷ []) (second.value ∷ [])
one_statement (Stmt-F.If p test second (Some third)) here there is = node_same here there is (test ∷ []) (second.value ∷ third.value ∷ [])
one_statement (Stmt-F.While p test body) here there is = node_same here there is (test ∷ []) (body.value ∷ [])
one_statement (Stmt-F.Do p body test) here there is =
    both_same (calls_in_statement body.value.0 here) (calls_in here test) (calls_in_statement body.value.0 there) (calls_in there test) (body.value.1 here there is) (expression_same test here there is)
one_statement (Stmt-F.For p first test step body) here there is = node_same here there is (optional first ++ optional test ++ optional step) (body.value ∷ [])
one_statement (Stmt-F.Break p) here there is = node_same here there is [] []
one_statement (Stmt-F.Continue p) here there is = node_same here there is [] []
one_statement (Stmt-F.Return p value) here there is = node_same here there is (optional value) []
one_statement (Stmt-F.With p shape body) here there is =
    under_any here there is body.value (shape_of here shape) ∙ sym (under_any there there (alike_itself there.names) body.value (shape_of there shape))
one_statement (Stmt-F.Everywhere p body) here there is = node_same here there is [] (body.value ∷ [])
one_statement (Stmt-F.Where p test second None) here there is = node_same here there is (test ∷ []) (second.value ∷ [])
one_statement (Stmt-F.Where p test second (Some third)) here there is = node_same here there is (test ∷ []) (second.value ∷ third.value ∷ [])

one_block : (y : Block-F Inner InnerBlock) (here there : Here) → IsAlike here there → functions_of (calls_of_block_node here (opened_block y)) ≡ functions_of (calls_of_block_node there (opened_block y))
one_block y here there is =
    let ds = y.declarations.items in
    let ss = map calls_in_statement (map (λ (s : Inner). s.0) y.statements.items) in
    both_same (calls_in_declarations here ds) (at_each (behind_declarations here ds) ss) (calls_in_declarations there ds) (at_each (behind_declarations there ds) ss)
    (declarations_same here there ds is)
    (inner_same (behind_declarations here ds) (behind_declarations there ds) (alike_behind_each here there ds is) y.statements.items)

statement_same : (s : Stmt) → StatementSame s
statement_same = ind-Stmt StatementSame BlockSame
    (λ x y is here there alike.
    ap (λ (f : Here → List Call). functions_of (f here)) (fold-roll-Stmt (Here → List Call) (Here → List Call) statement_step block_step x)
    ∙ subst (λ (z : Stmt-F Stmt Block). functions_of (calls_of_node here z) ≡ functions_of (calls_of_node there z)) is (one_statement y here there alike)
    ∙ sym (ap (λ (f : Here → List Call). functions_of (f there)) (fold-roll-Stmt (Here → List Call) (Here → List Call) statement_step block_step x)))
    (λ x y is here there alike.
    ap (λ (f : Here → List Call). functions_of (f here)) (fold-roll-Block (Here → List Call) (Here → List Call) statement_step block_step x)
    ∙ subst (λ (z : Block-F Stmt Block). functions_of (calls_of_block_node here z) ≡ functions_of (calls_of_block_node there z)) is (one_block y here there alike)
    ∙ sym (ap (λ (f : Here → List Call). functions_of (f there)) (fold-roll-Block (Here → List Call) (Here → List Call) statement_step block_step x)))

statements_same : (here there : Here) → IsAlike here there → (ss : List Stmt) → functions_of (at_each here (map calls_in_statement ss)) ≡ functions_of (at_each there (map calls_in_statement ss))
unfolding at_each
statements_same here there is [] = refl
statements_same here there is (s ∷ ss) =
    let rest = map calls_in_statement ss in
    both_same (calls_in_statement s here) (at_each here rest) (calls_in_statement s there) (at_each there rest) (statement_same s here there is) (statements_same here there is ss)

-- ---- a body

pub block_same : (here there : Here) (block : Block) → IsAlike here there → functions_of (calls_in_block block here) ≡ functions_of (calls_in_block block there)
block_same here there block is =
    let ds = block.declarations.items in
    let ss = map calls_in_statement block.statements.items in
    both_same (calls_in_declarations here ds) (at_each (behind_declarations here ds) ss) (calls_in_declarations there ds) (at_each (behind_declarations there ds) ss)
    (declarations_same here there ds is)
    (statements_same (behind_declarations here ds) (behind_declarations there ds) (alike_behind_each here there ds is) block.statements.items)

-- under whatever shape the function is reached
pub body_same : (shapes : List (List ℕ)) (placed : Placed) (a b : Reached) → functions_of (calls_in_block placed.function.body (body_place shapes placed a)) ≡ functions_of (calls_in_block placed.function.body (body_place shapes placed b))
body_same shapes placed a b =
    block_same (body_place shapes placed a) (body_place shapes placed b) placed.function.body
    (alike_parameters (header_place shapes placed a) (header_place shapes placed b) 0 placed.function.parameters.items (alike_itself (header_place shapes placed a).names))
