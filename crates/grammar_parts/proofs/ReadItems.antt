-- A whole text is read by its open parts.
use Rattle.std.proofs.Common.{◌≡◌, ℕ, List, [], ◌∷◌, ◌++◌, None, length, arith, refl, ap, ◌∙◌}
use Rattle.std.specs.Option.{option_map}
use Rattle.std.proofs.lemmas.Option.{slice_get_past}
use Rattle.cstar_base.specs.declared.operators.Place.{Place}
use Rattle.cstar_tree.specs.declared.token.Token.{Token}
use Rattle.cstar_tree.specs.declared.token.Kind.TheVariants as K
use Rattle.cstar_tree.specs.declared.token.Mark.TheVariants as M
use Rattle.cstar_tree.specs.declared.syntax.Block.{Block}
use Rattle.cstar_tree.specs.declared.syntax.Expr.{Expr}
use Rattle.cstar_tree.specs.declared.syntax.Item.{Item}
use Rattle.cstar_tree.specs.declared.syntax.Parameter.{Parameter}
use Rattle.cstar_tree.specs.declared.syntax.ResultType.{ResultType}
use Rattle.cstar_tree.specs.declared.syntax.ShapeDefinition.{ShapeDefinition}
use Rattle.cstar_tree.specs.declared.syntax.TypeName.{TypeName}
use Rattle.cstar_tree.specs.Positions.{Stands, StandsMark, token_kind}
use Rattle.cstar_tree.specs.Expressions.{AreIndexes}
use Rattle.cstar_tree.specs.Expressions as X
use Rattle.cstar_tree.specs.Types.{IsType}
use Rattle.cstar_tree.specs.Declarations as D
use Rattle.cstar_tree.specs.Statements.{IsBlock}
use Rattle.cstar_tree.specs.Items.{AreItems, AreNamed, AreParameters, AreShapeDefinitions, IsItem, IsResult, IsShapeDefinition}
use Rattle.cstar_tree.specs.Items as I
use Rattle.grammar_parts.specs.Parts.{Part, take_it, enter, skip}
use Rattle.grammar_parts.specs.Parts as P
use Rattle.grammar_parts.specs.Actions.{header}
use Rattle.grammar_parts.specs.Readings.{fate, may_end, reach}
use Rattle.grammar_parts.proofs.Reaching.{at_none, begins, skipped, taken}
use Rattle.grammar_parts.proofs.ReadTypes.{Reads, at_token, ends_type, name_ends_type, read_type, starts_type}
use Rattle.grammar_parts.proofs.ReadExpressions.{mark_taken}
use Rattle.grammar_parts.proofs.ReadDeclarations.{names_end_type, read_typed_names, read_whole, semicolon_ends, start_type, type_apart}
use Rattle.grammar_parts.proofs.ReadStatements.{read_block}
use Rattle.grammar_parts.proofs.Words.{quiet_at, quiet_bracket}

read_extents : {tokens : List Token} {from to : ℕ} {place : Place} {list : List Expr} → AreIndexes tokens from place list to → (behind : List Part) → reach tokens from (P.shape_definition ∷ behind) ≡ reach tokens to (P.extents ∷ behind)
read_extents (X.first_index (X.index_is open_it e close_it)) behind = taken P.shape_definition behind open_it refl ∙ read_whole e (quiet_at close_it quiet_bracket) (P.mark M.RightBracket ∷ P.extents ∷ behind) ∙ mark_taken close_it (P.extents ∷ behind)
read_extents (X.next_index list (X.index_is open_it e close_it)) behind = read_extents list behind ∙ taken P.extents behind open_it refl ∙ read_whole e (quiet_at close_it quiet_bracket) (P.mark M.RightBracket ∷ P.extents ∷ behind) ∙ mark_taken close_it (P.extents ∷ behind)

read_definition : {tokens : List Token} {from to : ℕ} {s : ShapeDefinition} → IsShapeDefinition tokens from s to → Reads tokens from P.shape_definition to
read_definition (I.shape_definition extents name) behind = read_extents extents behind ∙ taken P.extents behind name refl

read_definitions : {tokens : List Token} {from to : ℕ} {list : List ShapeDefinition} → AreShapeDefinitions tokens from list to → (behind : List Part) → reach tokens from (P.shape_definition ∷ P.more_shapes ∷ behind) ≡ reach tokens to (P.more_shapes ∷ behind)
read_definitions (I.first_shape s) behind = read_definition s (P.more_shapes ∷ behind)
read_definitions (I.next_shape list comma s) behind = read_definitions list behind ∙ taken P.more_shapes behind comma refl ∙ read_definition s (P.more_shapes ∷ behind)

-- a type where no `void` and no `shape` stands
begins_typed : {tokens : List Token} {from to : ℕ} {t : TypeName} → IsType tokens from t to → (behind : List Part) → reach tokens from (P.items ∷ behind) ≡ reach tokens from (P.type ∷ P.name ∷ P.behind_typed_name ∷ P.items ∷ behind)
begins_typed {tokens} {from} t behind = begins tokens from {parts = P.name ∷ P.behind_typed_name ∷ P.items ∷ []} P.items P.type behind (rw (type_apart (token_kind tokens from) M.Shape refl (starts_type t), starts_type t) refl) (start_type (token_kind tokens from) (starts_type t))

read_named : {tokens : List Token} {from to : ℕ} {list : List Parameter} → AreNamed tokens from list to → (behind : List Part) → reach tokens from (P.parameters ∷ behind) ≡ reach tokens to (P.more_parameters ∷ behind)
read_named {tokens} {from} (I.first_parameter (I.parameter type name)) behind = begins tokens from {parts = P.name ∷ P.more_parameters ∷ []} P.parameters P.type behind (rw (type_apart (token_kind tokens from) M.Void refl (starts_type type), starts_type type) refl) (start_type (token_kind tokens from) (starts_type type))
    ∙ read_type type (ends_type name (name_ends_type _)) (P.name ∷ P.more_parameters ∷ behind) ∙ taken P.name (P.more_parameters ∷ behind) name refl
read_named {tokens} (I.next_parameter {next = next} list comma (I.parameter type name)) behind = read_named list behind ∙ taken P.more_parameters behind comma refl ∙ begins tokens next P.parameter P.type (P.more_parameters ∷ behind) refl (start_type (token_kind tokens next) (starts_type type))
    ∙ read_type type (ends_type name (name_ends_type _)) (P.name ∷ P.more_parameters ∷ behind) ∙ taken P.name (P.more_parameters ∷ behind) name refl

-- what stands behind the `(` of a function
read_function : {tokens : List Token} {from mid next to : ℕ} {place : Place} {list : List Parameter} {body : Block} → AreParameters tokens from list mid → StandsMark tokens mid M.RightParen place next → IsBlock tokens next body to → (behind : List Part) → reach tokens from (P.parameters ∷ P.mark M.RightParen ∷ P.block ∷ behind) ≡ reach tokens to behind
read_function {tokens} {mid = mid} parameters close_it body behind = before_paren parameters ∙ mark_taken close_it (P.block ∷ behind) ∙ read_block P.block [] refl body behind where
  before_paren : {from : ℕ} {list : List Parameter} → AreParameters tokens from list mid → reach tokens from (P.parameters ∷ P.mark M.RightParen ∷ P.block ∷ behind) ≡ reach tokens mid (P.mark M.RightParen ∷ P.block ∷ behind)
  before_paren I.nothing = skipped tokens mid P.parameters (P.mark M.RightParen ∷ P.block ∷ behind) (at_token P.parameters close_it refl)
  before_paren (AreParameters.void s) = taken P.parameters (P.mark M.RightParen ∷ P.block ∷ behind) s refl
  before_paren (I.named list) = read_named list (P.mark M.RightParen ∷ P.block ∷ behind) ∙ skipped tokens mid P.more_parameters (P.mark M.RightParen ∷ P.block ∷ behind) (at_token P.more_parameters close_it refl)

-- up to the `(` of a function
read_result : {tokens : List Token} {from a b c : ℕ} {result : ResultType} {word : List ℕ} {place begin : Place} → IsResult tokens from result a → Stands tokens a (K.Name word) place b → StandsMark tokens b M.LeftParen begin c → (behind : List Part) → reach tokens from (P.items ∷ behind) ≡ reach tokens c (P.parameters ∷ P.mark M.RightParen ∷ P.block ∷ P.items ∷ behind)
read_result I.unwritten name open_it behind = taken P.items behind name refl ∙ mark_taken open_it (P.parameters ∷ P.mark M.RightParen ∷ P.block ∷ P.items ∷ behind)
read_result (IsResult.void s) name open_it behind = taken P.items behind s refl ∙ taken P.name (header ++ P.items ∷ behind) name refl ∙ mark_taken open_it (P.parameters ∷ P.mark M.RightParen ∷ P.block ∷ P.items ∷ behind)
read_result (I.written type) name open_it behind = begins_typed type behind ∙ read_type type (ends_type name (name_ends_type _)) (P.name ∷ P.behind_typed_name ∷ P.items ∷ behind) ∙ taken P.name (P.behind_typed_name ∷ P.items ∷ behind) name refl ∙ taken P.behind_typed_name (P.items ∷ behind) open_it refl

read_item : {tokens : List Token} {from to : ℕ} {item : Item} → IsItem tokens from item to → (behind : List Part) → reach tokens from (P.items ∷ behind) ≡ reach tokens to (P.items ∷ behind)
read_item (I.shapes word list semicolon) behind = taken P.items behind word refl ∙ read_definitions list (P.items ∷ behind) ∙ taken P.more_shapes (P.items ∷ behind) semicolon refl
read_item (I.variables (D.declaration type names semicolon)) behind = begins_typed type behind ∙ read_type type (names_end_type names) (P.name ∷ P.behind_typed_name ∷ P.items ∷ behind) ∙ read_typed_names names (semicolon_ends semicolon) (P.items ∷ behind) ∙ taken P.more_names (P.items ∷ behind) semicolon refl
read_item (I.function_is (I.function f place result name open_it parameters close_it body)) behind = read_result result name open_it behind ∙ read_function parameters close_it body (P.items ∷ behind)

-- a text of the grammar is read to its end
pub read_items : {tokens : List Token} {from to : ℕ} {list : List Item} → AreItems tokens from list to → reach tokens from (P.items ∷ []) ≡ reach tokens to (P.items ∷ [])
read_items I.no_item = refl
read_items (I.one_more list item) = read_items list ∙ read_item item []

pub read_text : (tokens : List Token) {list : List Item} → AreItems tokens 0 list (length tokens) → reach tokens 0 (P.items ∷ []) ≡ None
unfolding fate may_end token_kind
read_text tokens items = read_items items ∙ at_none tokens (length tokens) (P.items ∷ []) (ap (option_map (λ (t : Token). t.kind)) (slice_get_past tokens (length tokens) (omega arith)))
