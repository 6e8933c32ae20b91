-- What every open part says at a token.
use Rattle.std.proofs.Common.{◌≡◌, ℕ, ◌+◌, ◌≤◌, true, List, Some, lit≤, refl}
use Rattle.std.specs.declared.alloc.Global.{Global}
use Rattle.cstar_base.specs.declared.operators.Place.{Place}
use Rattle.cstar_tree.specs.declared.token.Token.{Token}
use Rattle.cstar_tree.specs.declared.token.Kind.{Kind}
use Rattle.cstar_tree.specs.Positions.{Stands}
use Rattle.grammar_parts.specs.Parts.{Part, is_taken}
use Rattle.grammar_parts.specs.Parts as P
use Rattle.grammar_parts.specs.Actions.{act, type_action}
use Rattle.grammar_parts.proofs.Meanings.{Gives, is_mild}
use Rattle.grammar_parts.proofs.SoundTypes.{sound_bit, sound_combiner, sound_direction, sound_inclusion, sound_int, sound_mode, sound_name, sound_shape, sound_shape_or_none, sound_text, sound_type, sound_width, weaker}
use Rattle.grammar_parts.proofs.SoundExpressions.{sound_behind_name, sound_choice_or_none, sound_operators, sound_steps, sound_unary}
use Rattle.grammar_parts.proofs.SoundOperands.{sound_arguments, sound_behind_paren, sound_behind_unary, sound_binary, sound_choice, sound_expression, sound_extents, sound_indexes, sound_more_arguments, sound_operands_of}
use Rattle.grammar_parts.proofs.SoundStatements.{sound_block, sound_condition, sound_declarations, sound_else, sound_initial, sound_length, sound_mark, sound_more_names, sound_part, sound_statement, sound_statements}
use Rattle.grammar_parts.proofs.SoundItems.{sound_behind_typed_name, sound_items, sound_more_parameters, sound_more_shapes, sound_parameter, sound_parameters, sound_shape_definition}

wide : (tokens : List Token) (at few : ℕ) (p : Part) (kind : Kind) → few ≤ 16 → Gives tokens at few p (act p (Some kind)) → Gives tokens at 16 p (act p (Some kind))
wide tokens at few p kind less g = weaker tokens at few 16 p (act p (Some kind)) less g

pub sound : Global → (tokens : List Token) (at : ℕ) (kind : Kind) (place : Place) (p : Part) → is_mild p ≡ true → Stands tokens at kind place (at + 1) → Gives tokens at 16 p (act p (Some kind))
sound heap tokens at kind place (P.mark m) mild s = wide tokens at 1 (P.mark m) kind (lit≤ tt) (sound_mark tokens at 0 kind place (P.mark m) m refl s)
sound heap tokens at kind place (P.close m) mild s = wide tokens at 1 (P.close m) kind (lit≤ tt) (sound_mark tokens at 0 kind place (P.close m) m refl s)
sound heap tokens at kind place (P.operator m) mild s = wide tokens at 1 (P.operator m) kind (lit≤ tt) (sound_mark tokens at 1 kind place (P.operator m) m refl s)
sound heap tokens at kind place P.name mild s = wide tokens at 1 P.name kind (lit≤ tt) (sound_name tokens at kind place s)
sound heap tokens at kind place P.text mild s = wide tokens at 1 P.text kind (lit≤ tt) (sound_text tokens at kind place s)
sound heap tokens at kind place P.type mild s = wide tokens at 2 P.type kind (lit≤ tt) (sound_type tokens at kind place s)
sound heap tokens at kind place P.width_or_none mild s = wide tokens at 1 P.width_or_none kind (lit≤ tt) (sound_width tokens at kind place s)
sound heap tokens at kind place P.int_or_none mild s = wide tokens at 1 P.int_or_none kind (lit≤ tt) (sound_int tokens at kind place s)
sound heap tokens at kind place P.shape_or_none mild s = wide tokens at 1 P.shape_or_none kind (lit≤ tt) (sound_shape_or_none tokens at kind place s)
sound heap tokens at kind place P.shape mild s = wide tokens at 1 P.shape kind (lit≤ tt) (sound_shape tokens at kind place s)
sound heap tokens at kind place P.expression mild s = wide tokens at 5 P.expression kind (lit≤ tt) (sound_expression heap tokens at kind place s)
sound heap tokens at kind place P.behind_unary mild s = wide tokens at 3 P.behind_unary kind (lit≤ tt) (sound_behind_unary heap tokens at kind place s)
sound heap tokens at kind place P.choice mild s = wide tokens at 6 P.choice kind (lit≤ tt) (sound_choice heap tokens at kind place s)
sound heap tokens at kind place P.choice_or_none mild s = wide tokens at 3 P.choice_or_none kind (lit≤ tt) (sound_choice_or_none heap tokens at kind place s)
sound heap tokens at kind place (P.binary n) mild s = wide tokens at 5 (P.binary n) kind (lit≤ tt) (sound_binary heap tokens at kind place n s)
sound heap tokens at kind place (P.operators n) mild s = wide tokens at 2 (P.operators n) kind (lit≤ tt) (sound_operators heap tokens at kind place n s)
sound heap tokens at kind place P.unary mild s = wide tokens at 4 P.unary kind (lit≤ tt) (sound_unary heap tokens at kind place s)
sound heap tokens at kind place P.steps mild s = wide tokens at 1 P.steps kind (lit≤ tt) (sound_steps heap tokens at kind place s)
sound heap tokens at kind place P.behind_name mild s = wide tokens at 2 P.behind_name kind (lit≤ tt) (sound_behind_name heap tokens at kind place s)
sound heap tokens at kind place P.behind_paren mild s = wide tokens at 7 P.behind_paren kind (lit≤ tt) (sound_behind_paren heap tokens at kind place s)
sound heap tokens at kind place P.arguments mild s = wide tokens at 6 P.arguments kind (lit≤ tt) (sound_arguments heap tokens at kind place s)
sound heap tokens at kind place P.more_arguments mild s = wide tokens at 2 P.more_arguments kind (lit≤ tt) (sound_more_arguments tokens at kind place s)
sound heap tokens at kind place P.indexes mild s = wide tokens at 3 P.indexes kind (lit≤ tt) (sound_indexes tokens at kind place s)
sound heap tokens at kind place (P.operands_of m) mild s = wide tokens at 14 (P.operands_of m) kind (lit≤ tt) (sound_operands_of heap tokens at kind place m s)
sound heap tokens at kind place P.combiner mild s = wide tokens at 1 P.combiner kind (lit≤ tt) (sound_combiner tokens at kind place s)
sound heap tokens at kind place P.direction mild s = wide tokens at 1 P.direction kind (lit≤ tt) (sound_direction tokens at kind place s)
sound heap tokens at kind place P.segment_mode mild s = wide tokens at 1 P.segment_mode kind (lit≤ tt) (sound_mode tokens at kind place s)
sound heap tokens at kind place P.inclusion mild s = wide tokens at 1 P.inclusion kind (lit≤ tt) (sound_inclusion tokens at kind place s)
sound heap tokens at kind place P.bit mild s = wide tokens at 1 P.bit kind (lit≤ tt) (sound_bit tokens at kind place s)
sound heap tokens at kind place (P.part m) mild s = wide tokens at 2 (P.part m) kind (lit≤ tt) (sound_part tokens at kind place m mild s)
sound heap tokens at kind place P.condition mild s = wide tokens at 2 P.condition kind (lit≤ tt) (sound_condition tokens at kind place s)
sound heap tokens at kind place P.statement mild s = wide tokens at 6 P.statement kind (lit≤ tt) (sound_statement heap tokens at kind place s)
sound heap tokens at kind place P.else_or_none mild s = wide tokens at 1 P.else_or_none kind (lit≤ tt) (sound_else tokens at kind place s)
sound heap tokens at kind place P.block mild s = wide tokens at 2 P.block kind (lit≤ tt) (sound_block heap tokens at kind place s)
sound heap tokens at kind place P.declarations mild s = wide tokens at 6 P.declarations kind (lit≤ tt) (sound_declarations heap tokens at (is_taken (type_action (Some kind))))
sound heap tokens at kind place P.statements mild s = wide tokens at 7 P.statements kind (lit≤ tt) (sound_statements heap tokens at kind place s)
sound heap tokens at kind place P.length_or_none mild s = wide tokens at 2 P.length_or_none kind (lit≤ tt) (sound_length tokens at kind place s)
sound heap tokens at kind place P.initial_or_none mild s = wide tokens at 1 P.initial_or_none kind (lit≤ tt) (sound_initial tokens at kind place s)
sound heap tokens at kind place P.more_names mild s = wide tokens at 4 P.more_names kind (lit≤ tt) (sound_more_names tokens at kind place s)
sound heap tokens at kind place P.shape_definition mild s = wide tokens at 3 P.shape_definition kind (lit≤ tt) (sound_shape_definition heap tokens at kind place s)
sound heap tokens at kind place P.extents mild s = wide tokens at 3 P.extents kind (lit≤ tt) (sound_extents tokens at kind place s)
sound heap tokens at kind place P.more_shapes mild s = wide tokens at 2 P.more_shapes kind (lit≤ tt) (sound_more_shapes tokens at kind place s)
sound heap tokens at kind place P.parameters mild s = wide tokens at 3 P.parameters kind (lit≤ tt) (sound_parameters tokens at kind place s)
sound heap tokens at kind place P.parameter mild s = wide tokens at 2 P.parameter kind (lit≤ tt) (sound_parameter tokens at kind)
sound heap tokens at kind place P.more_parameters mild s = wide tokens at 2 P.more_parameters kind (lit≤ tt) (sound_more_parameters tokens at kind place s)
sound heap tokens at kind place P.behind_typed_name mild s = wide tokens at 4 P.behind_typed_name kind (lit≤ tt) (sound_behind_typed_name heap tokens at kind place s)
sound heap tokens at kind place P.items mild s = wide tokens at 6 P.items kind (lit≤ tt) (sound_items heap tokens at kind place s)
sound heap tokens at kind place P.whole mild s = (lit≤ tt, refl, λ to below rest. rest.1)
sound heap tokens at kind place P.ended mild s = refl
