-- A whole text within the bounds is read.
use Rattle.std.proofs.Common.{◌≡◌, ℕ, ◌+◌, ◌≤◌, List, [], ◌∷◌, map, length, arith, refl, ap}
use Rattle.std.specs.Option.{option_map}
use Rattle.std.proofs.lemmas.Option.{slice_get_past}
use Rattle.cstar_base.specs.declared.operators.Place.{Place}
use Rattle.cstar_tree.specs.declared.token.Token.{Token}
use Rattle.cstar_tree.specs.declared.token.Kind.TheVariants as K
use Rattle.cstar_tree.specs.declared.token.Mark.TheVariants as M
use Rattle.cstar_tree.specs.declared.syntax.Block.{Block}
use Rattle.cstar_tree.specs.declared.syntax.Expr.{Expr}
use Rattle.cstar_tree.specs.declared.syntax.Item.{Item}
use Rattle.cstar_tree.specs.declared.syntax.Parameter.{Parameter}
use Rattle.cstar_tree.specs.declared.syntax.ResultType.{ResultType}
use Rattle.cstar_tree.specs.declared.syntax.ShapeDefinition.{ShapeDefinition}
use Rattle.cstar_tree.specs.declared.syntax.Tree.{Tree}
use Rattle.cstar_tree.specs.declared.syntax.TypeName.{TypeName}
use Rattle.cstar_tree.specs.Bounds.{IsBounded, among, in_block, in_item, levels_in, operators_in}
use Rattle.cstar_tree.specs.Positions.{Stands, StandsMark, token_kind}
use Rattle.cstar_tree.specs.Expressions.{AreIndexes}
use Rattle.cstar_tree.specs.Expressions as X
use Rattle.cstar_tree.specs.Types.{IsType}
use Rattle.cstar_tree.specs.Declarations as D
use Rattle.cstar_tree.specs.Room.{greatest}
use Rattle.cstar_tree.specs.Statements.{IsBlock}
use Rattle.cstar_tree.specs.Items.{AreItems, AreNamed, AreParameters, AreShapeDefinitions, IsItem, IsResult, IsShapeDefinition}
use Rattle.cstar_tree.specs.Items as I
use Rattle.cstar_tree.specs.TypedParts.{concat}
use Rattle.grammar_parts.specs.Parts.{Part, enter, levels}
use Rattle.grammar_parts.specs.Parts as P
use Rattle.grammar_parts.specs.Readings.{may_end}
use Rattle.grammar_parts.specs.Verdicts.{read, verdict_on}
use Rattle.grammar_parts.proofs.ReadDeclarations.{names_end_type, semicolon_ends, type_apart}
use Rattle.grammar_parts.proofs.ReadTypes.{at_token, ends_type, name_ends_type, starts_type}
use Rattle.grammar_parts.proofs.Words.{quiet_at, quiet_bracket}
use Rattle.bounded_texts.proofs.Flowing.{Flow, begins, judged_end, less, plain, skipped}
use Rattle.bounded_texts.proofs.FlowDeclarations.{typed_names_flow, whole_flows}
use Rattle.bounded_texts.proofs.FlowStatements.{block_flows}
use Rattle.bounded_texts.proofs.FlowTypes.{type_flows}
use Rattle.bounded_texts.proofs.Sizes.{among_first, among_more, greatest_one}
use Rattle.cstar_parser.proofs.Fitting.{greatest_more}
use Rattle.cstar_parser.proofs.Outside.{type_start}

extents_flow : {tokens : List Token} {from to : ℕ} {place : Place} {list : List Expr} {behind : List Part} → AreIndexes tokens from place list to → levels behind + among levels_in list ≤ 100 → among operators_in list ≤ 1000 → Flow tokens to (P.extents ∷ behind) 1000 → Flow tokens from (P.shape_definition ∷ behind) 1000
extents_flow (X.first_index {e = e} (X.index_is open_it x close_it)) low few f = plain P.shape_definition open_it refl (omega arith)
    (whole_flows x (quiet_at close_it quiet_bracket) (omega (arith, greatest_one levels_in e)) (omega (arith, greatest_one operators_in e)) (plain (P.mark M.RightBracket) close_it refl (omega arith) f))
extents_flow (X.next_index {list = list} {e = e} l (X.index_is open_it x close_it)) low few f =
    let deep = greatest_more levels_in list e in
    let many = greatest_more operators_in list e in
    extents_flow l (omega arith) (omega arith) (plain P.extents open_it refl (omega arith) (whole_flows x (quiet_at close_it quiet_bracket) (omega arith) (omega arith) (plain (P.mark M.RightBracket) close_it refl (omega arith) f)))

definition_flows : {tokens : List Token} {from to : ℕ} {s : ShapeDefinition} {behind : List Part} → IsShapeDefinition tokens from s to → levels behind + among levels_in s.extents.items ≤ 100 → among operators_in s.extents.items ≤ 1000 → Flow tokens to behind 1000 → Flow tokens from (P.shape_definition ∷ behind) 1000
definition_flows (I.shape_definition extents name) low few f = extents_flow extents low few (plain P.extents name refl (omega arith) f)

abbrev extents_of : ShapeDefinition → List Expr
extents_of s = s.extents.items

definitions_flow : {tokens : List Token} {from to : ℕ} {list : List ShapeDefinition} {behind : List Part} → AreShapeDefinitions tokens from list to → levels behind + among levels_in (concat (map extents_of list)) ≤ 100 → among operators_in (concat (map extents_of list)) ≤ 1000 → Flow tokens to (P.more_shapes ∷ behind) 1000 → Flow tokens from (P.shape_definition ∷ P.more_shapes ∷ behind) 1000
definitions_flow (I.first_shape {s = s} x) low few f = definition_flows x (omega (arith, among_first levels_in extents_of s)) (omega (arith, among_first operators_in extents_of s)) f
definitions_flow (I.next_shape {list = list} {s = s} l comma x) low few f =
    let deep = among_more levels_in extents_of list s in
    let many = among_more operators_in extents_of list s in
    definitions_flow l (omega arith) (omega arith) (plain P.more_shapes comma refl (omega arith) (definition_flows x (omega arith) (omega arith) f))

-- a type where no `void` and no `shape` stands
typed_item : {tokens : List Token} {from to : ℕ} {t : TypeName} {behind : List Part} → IsType tokens from t to → Flow tokens from (P.type ∷ P.name ∷ P.behind_typed_name ∷ P.items ∷ behind) 0 → Flow tokens from (P.items ∷ behind) 1000
typed_item {tokens} {from} t f = begins P.items P.type (P.name ∷ P.behind_typed_name ∷ P.items ∷ []) (rw (type_apart (token_kind tokens from) M.Shape refl (starts_type t), starts_type t) refl) (type_start (token_kind tokens from)) (omega arith) f

named_flow : {tokens : List Token} {from to : ℕ} {list : List Parameter} {behind : List Part} → AreNamed tokens from list to → levels behind ≤ 100 → Flow tokens to (P.more_parameters ∷ behind) 1000 → Flow tokens from (P.parameters ∷ behind) 1000
named_flow {tokens} {from} (I.first_parameter (I.parameter type name)) low f = begins P.parameters P.type (P.name ∷ P.more_parameters ∷ []) (rw (type_apart (token_kind tokens from) M.Void refl (starts_type type), starts_type type) refl) (type_start (token_kind tokens from)) (omega arith)
    (type_flows type (ends_type name (name_ends_type _)) (omega arith) (less (plain P.name name refl (omega arith) f) (omega arith)))
named_flow {tokens} (I.next_parameter {next = next} list comma (I.parameter type name)) low f = named_flow list low (plain P.more_parameters comma refl (omega arith) (begins P.parameter P.type (P.name ∷ []) refl (type_start (token_kind tokens next)) (omega arith)
    (type_flows type (ends_type name (name_ends_type _)) (omega arith) (less (plain P.name name refl (omega arith) f) (omega arith)))))

-- what stands behind the `(` of a function
function_flows : {tokens : List Token} {from mid next to : ℕ} {place : Place} {list : List Parameter} {body : Block} → AreParameters tokens from list mid → StandsMark tokens mid M.RightParen place next → IsBlock tokens next body to → in_block levels_in 1 body ≤ 100 → in_block operators_in 0 body ≤ 1000 → Flow tokens to (P.items ∷ []) 1000 → Flow tokens from (P.parameters ∷ P.mark M.RightParen ∷ P.block ∷ P.items ∷ []) 1000
function_flows {tokens} {mid = mid} parameters close_it body low few f = before_paren parameters (plain (P.mark M.RightParen) close_it refl (omega arith) (block_flows P.block [] refl body (P.items ∷ []) (omega arith) few f)) where
  before_paren : {from : ℕ} {list : List Parameter} → AreParameters tokens from list mid → Flow tokens mid (P.mark M.RightParen ∷ P.block ∷ P.items ∷ []) 1000 → Flow tokens from (P.parameters ∷ P.mark M.RightParen ∷ P.block ∷ P.items ∷ []) 1000
  before_paren I.nothing g = skipped P.parameters (at_token P.parameters close_it refl) g
  before_paren (AreParameters.void s) g = plain P.parameters s refl (omega arith) g
  before_paren (I.named list) g = named_flow list (omega arith) (skipped P.more_parameters (at_token P.more_parameters close_it refl) g)

-- up to the `(` of a function
result_flows : {tokens : List Token} {from a b c : ℕ} {result : ResultType} {word : List ℕ} {place begin : Place} → IsResult tokens from result a → Stands tokens a (K.Name word) place b → StandsMark tokens b M.LeftParen begin c → Flow tokens c (P.parameters ∷ P.mark M.RightParen ∷ P.block ∷ P.items ∷ []) 1000 → Flow tokens from (P.items ∷ []) 1000
result_flows I.unwritten name open_it f = plain P.items name refl (omega arith) (plain (P.mark M.LeftParen) open_it refl (omega arith) f)
result_flows (IsResult.void s) name open_it f = plain P.items s refl (omega arith) (plain P.name name refl (omega arith) (plain (P.mark M.LeftParen) open_it refl (omega arith) f))
result_flows (I.written type) name open_it f = typed_item type (type_flows type (ends_type name (name_ends_type _)) (omega arith) (less (plain P.name name refl (omega arith) (plain P.behind_typed_name open_it refl (omega arith) f)) (omega arith)))

item_flows : {tokens : List Token} {from to : ℕ} {item : Item} → IsItem tokens from item to → in_item levels_in 1 item ≤ 100 → in_item operators_in 0 item ≤ 1000 → Flow tokens to (P.items ∷ []) 1000 → Flow tokens from (P.items ∷ []) 1000
unfolding in_item
item_flows (I.shapes word list semicolon) low few f = plain P.items word refl (omega arith) (definitions_flow list (omega arith) few (plain P.more_shapes semicolon refl (omega arith) f))
item_flows (I.variables (D.declaration type names semicolon)) low few f = typed_item type (type_flows type (names_end_type names) (omega arith)
    (less (typed_names_flow names (semicolon_ends semicolon) (omega arith) few (plain P.more_names semicolon refl (omega arith) f)) (omega arith)))
item_flows (I.function_is (I.function function place result name open_it parameters close_it body)) low few f = result_flows result name open_it (function_flows parameters close_it body low few f)

items_flow : {tokens : List Token} {from to : ℕ} {list : List Item} → AreItems tokens from list to → greatest (map (in_item levels_in 1) list) ≤ 100 → greatest (map (in_item operators_in 0) list) ≤ 1000 → Flow tokens to (P.items ∷ []) 1000 → Flow tokens from (P.items ∷ []) 1000
items_flow I.no_item low few f = f
items_flow (I.one_more {list = list} {item = item} l x) low few f =
    let deep = greatest_more (in_item levels_in 1) list item in
    let many = greatest_more (in_item operators_in 0) list item in
    items_flow l (omega arith) (omega arith) (item_flows x (omega arith) (omega arith) f)

-- where only items are wanted the text can end
end_flows : (tokens : List Token) → Flow tokens (length tokens) (P.items ∷ []) 1000
unfolding may_end token_kind
end_flows tokens = record {
  few = omega arith;
  on = λ inside outside k e l. judged_end tokens (length tokens) inside k outside _ (ap (option_map (λ (t : Token). t.kind)) (slice_get_past tokens (length tokens) (omega arith))) (ap may_end e);
}

pub bounded_is_read : (tokens : List Token) (tree : Tree) → AreItems tokens 0 tree.items.items (length tokens) → IsBounded tree → verdict_on tokens ≡ read
bounded_is_read tokens tree items bounded = (items_flow items bounded.levels bounded.operators (end_flows tokens)).on [] (P.items ∷ []) 0 refl (omega arith)
