-- Every open part can be filled with its shortest tokens.
use Rattle.std.proofs.Common.{◌≡◌, ℕ, Bool, true, List, [], ◌∷◌, if◌then◌else◌, Some, None, arith, lit≤, refl, ap}
use Rattle.std.specs.declared.alloc.Global.{Global}
use Rattle.cstar_tree.specs.declared.token.Kind.{Kind}
use Rattle.cstar_tree.specs.declared.token.Kind.TheVariants as K
use Rattle.cstar_tree.specs.declared.token.Mark.{Mark}
use Rattle.cstar_tree.specs.declared.token.Mark.TheVariants as M
use Rattle.cstar_tree.specs.Declarations as D
use Rattle.cstar_tree.specs.Expressions as X
use Rattle.cstar_tree.specs.Items as I
use Rattle.cstar_tree.specs.Types as T
use Rattle.cstar_tree.specs.declared.syntax.Expr as E
use Rattle.grammar_parts.specs.Parts.{Part, enter, take_it, refuse}
use Rattle.grammar_parts.specs.Parts as P
use Rattle.grammar_parts.specs.Actions.{act, operands}
use Rattle.grammar_parts.specs.Completions.{completion, one, shortest, x}
use Rattle.grammar_parts.proofs.Filling.{Fills, both_left, both_right, by_nothing, by_part, by_token, nothing, single}
use Rattle.grammar_parts.proofs.Meanings.{are_mild, is_mild, is_mild_mark, no_else, no_shape, no_width}
use Rattle.grammar_parts.proofs.Words.{has_it, takes_mark}

abbrev Fill : Part → Type 0
Fill p = Fills (p ∷ [])

-- a part of one token
leaf : Global → (p : Part) (k : Kind) (n : ℕ) → is_mild p ≡ true → act p (Some k) ≡ take_it n [] → shortest p ≡ k ∷ [] → Fill p
leaf heap p k n mild is short = by_token p k n [] heap mild is short nothing

fill_mark : Global → (m : Mark) → is_mild_mark m ≡ true → Fill (P.mark m)
fill_mark heap m mild = leaf heap (P.mark m) (K.Mark m) 0 mild (takes_mark m) refl

fill_close : Global → (m : Mark) → is_mild_mark m ≡ true → Fill (P.close m)
fill_close heap m mild = leaf heap (P.close m) (K.Mark m) 0 mild (ap (λ (b : Bool). if b then take_it 0 [] else refuse) (has_it m)) refl

fill_operator : Global → (m : Mark) → is_mild_mark m ≡ true → Fill (P.operator m)
fill_operator heap m mild = leaf heap (P.operator m) (K.Mark m) 1 mild (ap (λ (b : Bool). if b then take_it 1 [] else refuse) (has_it m)) refl

fill_part : Global → (m : Mark) → is_mild_mark m ≡ true → Fill (P.part m)
fill_part heap m mild = leaf heap (P.part m) (K.Mark m) 0 mild (ap (λ (b : Bool). if b then take_it 0 [] else enter P.expression (P.mark m ∷ [])) (has_it m)) refl

-- parts that can be nothing
idle_shape : Fill P.shape_or_none
idle_shape = by_nothing P.shape_or_none refl (λ tokens at mild. no_shape)

idle_steps : Fill P.steps
idle_steps = by_nothing P.steps refl (λ tokens at mild. λ begin e x strong. record { expr = e; spelled = x; strong = strong })

idle_behind_unary : Fill P.behind_unary
idle_behind_unary = by_nothing P.behind_unary refl (λ tokens at mild. λ begin e x strong. record { expr = e; spelled = x; strong = omega arith })

idle_choice : Fill P.choice_or_none
idle_choice = by_nothing P.choice_or_none refl (λ tokens at mild. λ begin e x strong. record { expr = e; spelled = x; strong = omega arith })

idle_operators : (least : ℕ) → Fill (P.operators least)
idle_operators least = by_nothing (P.operators least) refl (λ tokens at mild. λ two begin e x strong level. (record { expr = e; spelled = x; strong = strong }, let none = mild.level in omega arith))

idle_ended : Fill P.ended
idle_ended = by_nothing P.ended refl (λ tokens at mild. refl)

idle_declarations : Fill P.declarations
idle_declarations = by_nothing P.declarations refl (λ tokens at mild. λ begin list are few. (list, are, few))

fill_name : Global → Fill P.name
fill_name heap = leaf heap P.name x 0 refl refl refl

fill_shape : Global → Fill P.shape
fill_shape heap = leaf heap P.shape (K.Mark M.Current) 0 refl refl refl

fill_expression : Global → Fill P.expression
fill_expression heap = by_token P.expression one 0 (P.steps ∷ P.behind_unary ∷ []) heap refl refl refl (single P.steps idle_steps (P.behind_unary ∷ []) refl idle_behind_unary)

fill_whole : Global → Fill P.whole
fill_whole heap = by_part P.whole P.expression one [] heap refl refl [] refl refl (fill_expression heap)

fill_statements : Global → Fill P.statements
fill_statements heap = leaf heap P.statements (K.Mark M.RightBrace) 0 refl refl refl

fill_more_arguments : Global → Fill P.more_arguments
fill_more_arguments heap = leaf heap P.more_arguments (K.Mark M.RightParen) 0 refl refl refl

fill_extents : Global → Fill P.extents
fill_extents heap = leaf heap P.extents x 0 refl refl refl

fill_type : Global → Fill P.type
fill_type heap = by_token P.type (K.Mark M.Int) 0 (P.shape_or_none ∷ []) heap refl refl refl idle_shape

fill_combiner : Global → Fill P.combiner
fill_combiner heap = leaf heap P.combiner (K.Mark M.CombinerAdd) 0 refl refl refl

fill_direction : Global → Fill P.direction
fill_direction heap = leaf heap P.direction (K.Mark M.Upward) 0 refl refl refl

fill_mode : Global → Fill P.segment_mode
fill_mode heap = leaf heap P.segment_mode (K.Mark M.NoSegments) 0 refl refl refl

fill_inclusion : Global → Fill P.inclusion
fill_inclusion heap = leaf heap P.inclusion (K.Mark M.Inclusive) 0 refl refl refl

fill_bit : Global → Fill P.bit
fill_bit heap = leaf heap P.bit (K.Mark M.NoField) 0 refl refl refl

fill_text : Global → Fill P.text
fill_text heap = leaf heap P.text (K.Text []) 0 refl refl refl

-- the brackets of intrinsics
comma : Global → (parts : List Part) → are_mild parts ≡ true → Fills parts → Fills (P.mark M.Comma ∷ parts)
comma heap parts mild f = single (P.mark M.Comma) (fill_mark heap M.Comma refl) parts mild f

fill_close_paren : Global → Fill (P.close M.RightParen)
fill_close_paren heap = fill_close heap M.RightParen refl

fill_operands : Global → (m : Mark) → Fills (operands m)
fill_operands heap M.Pcoord = single P.expression (fill_expression heap) _ refl (fill_close_paren heap)
fill_operands heap M.PositionsOf = single P.shape (fill_shape heap) _ refl (fill_close_paren heap)
fill_operands heap M.RankOf = single P.shape (fill_shape heap) _ refl (fill_close_paren heap)
fill_operands heap M.DimOf = single P.shape (fill_shape heap) _ refl (comma heap _ refl (single P.expression (fill_expression heap) _ refl (fill_close_paren heap)))
fill_operands heap M.Scan = single P.expression (fill_expression heap) _ refl (comma heap _ refl (single P.expression (fill_expression heap) _ refl (comma heap _ refl (single P.combiner (fill_combiner heap) _ refl (comma heap _ refl (single P.direction (fill_direction heap) _ refl (comma heap _ refl (single P.segment_mode (fill_mode heap) _ refl (comma heap _ refl (single P.bit (fill_bit heap) _ refl (comma heap _ refl (single P.inclusion (fill_inclusion heap) _ refl (fill_close_paren heap)))))))))))))
fill_operands heap M.Enumerate = single P.expression (fill_expression heap) _ refl (comma heap _ refl (single P.direction (fill_direction heap) _ refl (comma heap _ refl (single P.inclusion (fill_inclusion heap) _ refl (comma heap _ refl (single P.segment_mode (fill_mode heap) _ refl (comma heap _ refl (single P.bit (fill_bit heap) _ refl (fill_close_paren heap)))))))))
fill_operands heap M.Printf = single P.text (fill_text heap) _ refl (fill_more_arguments heap)
fill_operands heap other = fill_close_paren heap

short_operands : (m : Mark) → shortest (P.operands_of m) ≡ K.Mark M.LeftParen ∷ completion (operands m)
short_operands M.Scan = refl
short_operands other = refl

fill : Global → (p : Part) → is_mild p ≡ true → Fill p
fill heap (P.mark m) mild = fill_mark heap m mild
fill heap (P.close m) mild = fill_close heap m mild
fill heap (P.operator m) mild = fill_operator heap m mild
fill heap P.name mild = fill_name heap
fill heap P.text mild = fill_text heap
fill heap P.type mild = fill_type heap
fill heap P.width_or_none mild = by_nothing P.width_or_none refl (λ tokens at mild. no_width)
fill heap P.int_or_none mild = by_nothing P.int_or_none refl (λ tokens at mild. T.absent)
fill heap P.shape_or_none mild = idle_shape
fill heap P.shape mild = fill_shape heap
fill heap P.expression mild = fill_expression heap
fill heap P.behind_unary mild = idle_behind_unary
fill heap P.choice mild = by_token P.choice one 0 (P.steps ∷ P.operators 2 ∷ P.choice_or_none ∷ []) heap refl refl refl (single P.steps idle_steps _ refl (single (P.operators 2) (idle_operators 2) _ refl idle_choice))
fill heap P.choice_or_none mild = idle_choice
fill heap (P.binary n) mild = by_token (P.binary n) one 0 (P.steps ∷ P.operators n ∷ []) heap refl refl refl (single P.steps idle_steps _ refl (idle_operators n))
fill heap (P.operators n) mild = idle_operators n
fill heap P.unary mild = by_token P.unary one 0 (P.steps ∷ []) heap refl refl refl idle_steps
fill heap P.steps mild = idle_steps
fill heap P.behind_name mild = by_nothing P.behind_name refl (λ tokens at mild. λ begin word p name. record { expr = E.Name (record { word = word; place = p }); spelled = X.name name; strong = lit≤ tt })
fill heap P.behind_paren mild = by_token P.behind_paren one 0 (P.steps ∷ P.behind_unary ∷ P.close M.RightParen ∷ P.steps ∷ []) heap refl refl refl (single P.steps idle_steps _ refl (single P.behind_unary idle_behind_unary _ refl (single (P.close M.RightParen) (fill_close_paren heap) _ refl idle_steps)))
fill heap P.arguments mild = leaf heap P.arguments (K.Mark M.RightParen) 0 refl refl refl
fill heap P.more_arguments mild = fill_more_arguments heap
fill heap P.indexes mild = leaf heap P.indexes x 0 refl refl refl
fill heap (P.operands_of m) mild = by_token (P.operands_of m) (K.Mark M.LeftParen) 0 (operands m) heap refl refl (short_operands m) (fill_operands heap m)
fill heap P.combiner mild = fill_combiner heap
fill heap P.direction mild = fill_direction heap
fill heap P.segment_mode mild = fill_mode heap
fill heap P.inclusion mild = fill_inclusion heap
fill heap P.bit mild = fill_bit heap
fill heap P.whole mild = fill_whole heap
fill heap (P.part m) mild = fill_part heap m mild
fill heap P.condition mild = by_token P.condition (K.Mark M.LeftParen) 0 (P.whole ∷ P.mark M.RightParen ∷ []) heap refl refl refl (single P.whole (fill_whole heap) _ refl (fill_mark heap M.RightParen refl))
fill heap P.statement mild = by_token P.statement (K.Mark M.Semicolon) 0 (P.ended ∷ []) heap refl refl refl idle_ended
fill heap P.else_or_none mild = by_nothing P.else_or_none refl (λ tokens at mild. no_else mild.no_else_there)
fill heap P.ended mild = idle_ended
fill heap P.block mild = by_token P.block (K.Mark M.LeftBrace) 0 (P.declarations ∷ P.statements ∷ []) heap refl refl refl (single P.declarations idle_declarations _ refl (fill_statements heap))
fill heap P.declarations mild = idle_declarations
fill heap P.statements mild = fill_statements heap
fill heap P.length_or_none mild = by_nothing P.length_or_none refl (λ tokens at mild. (None, D.no_length))
fill heap P.initial_or_none mild = by_nothing P.initial_or_none refl (λ tokens at mild. (None, D.no_initial))
fill heap P.more_names mild = leaf heap P.more_names (K.Mark M.Semicolon) 0 refl refl refl
fill heap P.shape_definition mild = by_token P.shape_definition (K.Mark M.LeftBracket) 0 (P.whole ∷ P.mark M.RightBracket ∷ P.extents ∷ []) heap refl refl refl (single P.whole (fill_whole heap) _ refl (single (P.mark M.RightBracket) (fill_mark heap M.RightBracket refl) _ refl (fill_extents heap)))
fill heap P.extents mild = fill_extents heap
fill heap P.more_shapes mild = leaf heap P.more_shapes (K.Mark M.Semicolon) 0 refl refl refl
fill heap P.parameters mild = by_nothing P.parameters refl (λ tokens at mild. ([], I.nothing, omega arith))
fill heap P.parameter mild = by_part P.parameter P.type (K.Mark M.Int) (P.name ∷ []) heap refl refl (x ∷ []) refl refl (single P.type (fill_type heap) _ refl (fill_name heap))
fill heap P.more_parameters mild = by_nothing P.more_parameters refl (λ tokens at mild. λ begin list are few. (list, are, few))
fill heap P.behind_typed_name mild = leaf heap P.behind_typed_name (K.Mark M.Semicolon) 0 refl refl refl
fill heap P.items mild = by_nothing P.items refl (λ tokens at mild. λ begin list are. (list, are))

pub fill_all : Global → (parts : List Part) → are_mild parts ≡ true → Fills parts
fill_all heap [] mild = nothing
fill_all heap (p ∷ parts) mild = single p (fill heap p (both_left (is_mild p) (are_mild parts) mild)) parts (both_right (is_mild p) (are_mild parts) mild) (fill_all heap parts (both_right (is_mild p) (are_mild parts) mild))
