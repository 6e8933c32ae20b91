-- The grammar by its first tokens: what each open part does at a token, or at the end.
use Rattle.std.specs.Prelude.{ℕ, ◌+◌, Bool, true, false, List, [], ◌∷◌, ◌++◌, Option, Some, None, nat_lt, if◌then◌else◌, ◌||◌}
use denote.Enum.Bare.{sameb}
use Rattle.cstar_tree.specs.contracts.token.Mark.{the_type}
use Rattle.cstar_tree.specs.declared.token.Kind.{Kind}
use Rattle.cstar_tree.specs.declared.token.Kind.TheVariants as K
use Rattle.cstar_tree.specs.declared.token.Mark.{Mark}
use Rattle.cstar_tree.specs.declared.token.Mark.TheVariants as M
use Rattle.cstar_tree.specs.Operators.{operator_level}
use Rattle.grammar_parts.specs.Parts.{Part, Action, take_it, enter, skip, refuse, before, or_else, unless_refused, is_taken}
use Rattle.grammar_parts.specs.Parts as P

-- whether this mark stands there
abbrev pub has : Option Kind → Mark → Bool
has (Some (K.Mark found)) wanted = sameb the_type found wanted
has _ wanted = false

-- an action by the mark or the name that stands there, or else this one
abbrev pub at_mark : (Mark → Action) → Action → Option Kind → Action
at_mark marks other (Some (K.Mark found)) = marks found
at_mark marks other _ = other

abbrev pub at_name : Action → Action → Option Kind → Action
at_name named other (Some (K.Name _)) = named
at_name named other _ = other

-- the words of types
abbrev pub width_words : Mark → Action
width_words M.Char = take_it 0 []
width_words M.Short = take_it 0 (P.int_or_none ∷ [])
width_words M.Int = take_it 0 []
width_words M.Long = take_it 0 (P.int_or_none ∷ [])
width_words _ = skip

abbrev pub type_words : Mark → Action
type_words M.Bool = take_it 0 (P.shape_or_none ∷ [])
type_words M.Signed = take_it 0 (P.width_or_none ∷ P.shape_or_none ∷ [])
type_words M.Unsigned = take_it 0 (P.width_or_none ∷ P.shape_or_none ∷ [])
type_words M.Char = take_it 0 (P.shape_or_none ∷ [])
type_words M.Short = take_it 0 (P.int_or_none ∷ P.shape_or_none ∷ [])
type_words M.Int = take_it 0 (P.shape_or_none ∷ [])
type_words M.Long = take_it 0 (P.int_or_none ∷ P.shape_or_none ∷ [])
type_words _ = refuse

abbrev pub type_action : Option Kind → Action
type_action = at_mark type_words refuse

-- the words of `scan` and `enumerate`
abbrev pub combiner_words : Mark → Action
combiner_words M.CombinerAdd = take_it 0 []
combiner_words M.CombinerMin = take_it 0 []
combiner_words M.CombinerMax = take_it 0 []
combiner_words M.CombinerLogand = take_it 0 []
combiner_words M.CombinerLogior = take_it 0 []
combiner_words M.CombinerLogxor = take_it 0 []
combiner_words _ = refuse

abbrev pub mode_words : Mark → Action
mode_words M.NoSegments = take_it 0 []
mode_words M.StartBit = take_it 0 []
mode_words M.SegmentBit = take_it 0 []
mode_words _ = refuse

-- what stands in the brackets of an intrinsic
abbrev pub operands : Mark → List Part
operands M.Pcoord = P.expression ∷ P.close M.RightParen ∷ []
operands M.PositionsOf = P.shape ∷ P.close M.RightParen ∷ []
operands M.RankOf = P.shape ∷ P.close M.RightParen ∷ []
operands M.DimOf = P.shape ∷ P.mark M.Comma ∷ P.expression ∷ P.close M.RightParen ∷ []
operands M.Scan = P.expression ∷ P.mark M.Comma ∷ P.expression ∷ P.mark M.Comma ∷ P.combiner ∷ P.mark M.Comma ∷ P.direction ∷ P.mark M.Comma ∷ P.segment_mode ∷ P.mark M.Comma ∷ P.bit ∷ P.mark M.Comma ∷ P.inclusion ∷ P.close M.RightParen ∷ []
operands M.Enumerate = P.expression ∷ P.mark M.Comma ∷ P.direction ∷ P.mark M.Comma ∷ P.inclusion ∷ P.mark M.Comma ∷ P.segment_mode ∷ P.mark M.Comma ∷ P.bit ∷ P.close M.RightParen ∷ []
operands M.Printf = P.text ∷ P.more_arguments ∷ []
operands _ = P.close M.RightParen ∷ []

-- the marks that a unary expression begins with
abbrev pub unary_marks : Mark → Action
unary_marks M.Dot = take_it 1 (P.steps ∷ [])
unary_marks M.LeftParen = take_it 0 (P.behind_paren ∷ [])
unary_marks M.LeftBracket = take_it 0 (P.expression ∷ P.close M.RightBracket ∷ P.indexes ∷ P.steps ∷ [])
unary_marks M.Pcoord = take_it 0 (P.operands_of M.Pcoord ∷ P.steps ∷ [])
unary_marks M.PositionsOf = take_it 0 (P.operands_of M.PositionsOf ∷ P.steps ∷ [])
unary_marks M.RankOf = take_it 0 (P.operands_of M.RankOf ∷ P.steps ∷ [])
unary_marks M.DimOf = take_it 0 (P.operands_of M.DimOf ∷ P.steps ∷ [])
unary_marks M.Scan = take_it 0 (P.operands_of M.Scan ∷ P.steps ∷ [])
unary_marks M.Enumerate = take_it 0 (P.operands_of M.Enumerate ∷ P.steps ∷ [])
unary_marks M.Printf = take_it 0 (P.operands_of M.Printf ∷ P.steps ∷ [])
unary_marks M.GetChar = take_it 0 (P.operands_of M.GetChar ∷ P.steps ∷ [])
unary_marks M.Plus = take_it 1 (P.unary ∷ [])
unary_marks M.Minus = take_it 1 (P.unary ∷ [])
unary_marks M.Tilde = take_it 1 (P.unary ∷ [])
unary_marks M.Exclamation = take_it 1 (P.unary ∷ [])
unary_marks M.PlusPlus = take_it 1 (P.unary ∷ [])
unary_marks M.MinusMinus = take_it 1 (P.unary ∷ [])
unary_marks M.PlusEqual = take_it 1 (P.unary ∷ [])
unary_marks M.MinusEqual = take_it 1 (P.unary ∷ [])
unary_marks M.AmpersandEqual = take_it 1 (P.unary ∷ [])
unary_marks M.CaretEqual = take_it 1 (P.unary ∷ [])
unary_marks M.PipeEqual = take_it 1 (P.unary ∷ [])
unary_marks M.LessQuestionEqual = take_it 1 (P.unary ∷ [])
unary_marks M.GreaterQuestionEqual = take_it 1 (P.unary ∷ [])
unary_marks _ = refuse

abbrev pub unary_action : Option Kind → Action
unary_action (Some (K.Name _)) = take_it 0 (P.behind_name ∷ P.steps ∷ [])
unary_action (Some (K.Num _ _)) = take_it 0 (P.steps ∷ [])
unary_action kind = at_mark unary_marks refuse kind

-- the assignment operators
abbrev pub assigning : Mark → Bool
assigning M.Equal = true
assigning M.PlusEqual = true
assigning M.MinusEqual = true
assigning M.StarEqual = true
assigning M.SlashEqual = true
assigning M.PercentEqual = true
assigning M.PercentPercentEqual = true
assigning M.AmpersandEqual = true
assigning M.PipeEqual = true
assigning M.CaretEqual = true
assigning M.ShiftLeftEqual = true
assigning M.ShiftRightEqual = true
assigning M.LessQuestionEqual = true
assigning M.GreaterQuestionEqual = true
assigning _ = false

abbrev pub assigns : Option Kind → Bool
assigns (Some (K.Mark found)) = assigning found
assigns _ = false

abbrev pub operators_action : ℕ → Option Kind → Action
operators_action least kind = if nat_lt (operator_level kind) least then skip else take_it 1 (P.binary (operator_level kind + 1) ∷ P.operators least ∷ [])

abbrev pub choice_action : Option Kind → Action
choice_action kind = if has kind M.Question then take_it 1 (P.expression ∷ P.operator M.Colon ∷ P.choice ∷ []) else skip

abbrev pub behind_unary_action : Option Kind → Action
behind_unary_action kind = if assigns kind then take_it 1 (P.expression ∷ []) else or_else (before (operators_action 2 kind) (P.choice_or_none ∷ [])) (choice_action kind)

abbrev pub expression_action : Option Kind → Action
expression_action kind = before (unary_action kind) (P.behind_unary ∷ [])

-- the words that a statement begins with; any other token begins an expression
abbrev pub statement_marks : Mark → Action
statement_marks M.LeftBrace = take_it 0 (P.declarations ∷ P.statements ∷ P.ended ∷ [])
statement_marks M.Semicolon = take_it 0 (P.ended ∷ [])
statement_marks M.If = take_it 0 (P.condition ∷ P.statement ∷ P.else_or_none ∷ P.ended ∷ [])
statement_marks M.Where = take_it 0 (P.condition ∷ P.statement ∷ P.else_or_none ∷ P.ended ∷ [])
statement_marks M.While = take_it 0 (P.condition ∷ P.statement ∷ P.ended ∷ [])
statement_marks M.Do = take_it 0 (P.statement ∷ P.mark M.While ∷ P.condition ∷ P.mark M.Semicolon ∷ P.ended ∷ [])
statement_marks M.For = take_it 0 (P.mark M.LeftParen ∷ P.part M.Semicolon ∷ P.part M.Semicolon ∷ P.part M.RightParen ∷ P.statement ∷ P.ended ∷ [])
statement_marks M.Break = take_it 0 (P.mark M.Semicolon ∷ P.ended ∷ [])
statement_marks M.Continue = take_it 0 (P.mark M.Semicolon ∷ P.ended ∷ [])
statement_marks M.Return = take_it 0 (P.part M.Semicolon ∷ P.ended ∷ [])
statement_marks M.With = take_it 0 (P.mark M.LeftParen ∷ P.shape ∷ P.mark M.RightParen ∷ P.statement ∷ P.ended ∷ [])
statement_marks M.Everywhere = take_it 0 (P.statement ∷ P.ended ∷ [])
statement_marks _ = enter P.expression (P.mark M.Semicolon ∷ P.ended ∷ [])

abbrev pub statement_action : Option Kind → Action
statement_action = at_mark statement_marks (enter P.expression (P.mark M.Semicolon ∷ P.ended ∷ []))

-- what stands behind the name of a function
abbrev pub header : List Part
header = P.mark M.LeftParen ∷ P.parameters ∷ P.mark M.RightParen ∷ P.block ∷ []

abbrev pub more_names_action : Option Kind → Action
more_names_action kind = if has kind M.Comma then take_it 0 (P.name ∷ P.length_or_none ∷ P.initial_or_none ∷ P.more_names ∷ []) else if has kind M.Semicolon then take_it 0 [] else refuse

abbrev pub at_end : Option Kind → Action
at_end None = skip
at_end _ = refuse

abbrev pub act : Part → Option Kind → Action
act (P.mark m) kind = if has kind m then take_it 0 [] else refuse
act (P.close m) kind = if has kind m then take_it 0 [] else refuse
act (P.operator m) kind = if has kind m then take_it 1 [] else refuse
act P.name kind = at_name (take_it 0 []) refuse kind
act P.text (Some (K.Text _)) = take_it 0 []
act P.text _ = refuse
act P.type kind = type_action kind
act P.width_or_none kind = at_mark width_words skip kind
act P.int_or_none kind = if has kind M.Int then take_it 0 [] else skip
act P.shape_or_none kind = if has kind M.Colon then take_it 1 (P.shape ∷ []) else skip
act P.shape kind = if has kind M.Current then take_it 0 [] else at_name (take_it 0 []) refuse kind
act P.expression kind = expression_action kind
act P.behind_unary kind = behind_unary_action kind
act P.choice kind = before (unary_action kind) (P.operators 2 ∷ P.choice_or_none ∷ [])
act P.choice_or_none kind = choice_action kind
act (P.binary least) kind = before (unary_action kind) (P.operators least ∷ [])
act (P.operators least) kind = operators_action least kind
act P.unary kind = unary_action kind
act P.steps kind = if has kind M.PlusPlus || has kind M.MinusMinus then take_it 1 (P.steps ∷ []) else skip
act P.behind_name kind = if has kind M.LeftBracket then take_it 0 (P.expression ∷ P.close M.RightBracket ∷ []) else if has kind M.LeftParen then take_it 0 (P.arguments ∷ []) else skip
act P.behind_paren kind = unless_refused (before (type_action kind) (P.close M.RightParen ∷ P.unary ∷ [])) (before (expression_action kind) (P.close M.RightParen ∷ P.steps ∷ []))
act P.arguments kind = if has kind M.RightParen then take_it 0 [] else before (expression_action kind) (P.more_arguments ∷ [])
act P.more_arguments kind = if has kind M.RightParen then take_it 0 [] else if has kind M.Comma then take_it 0 (P.expression ∷ P.more_arguments ∷ []) else refuse
act P.indexes kind = if has kind M.LeftBracket then take_it 0 (P.expression ∷ P.close M.RightBracket ∷ P.indexes ∷ []) else at_name (take_it 0 []) refuse kind
act (P.operands_of m) kind = if has kind M.LeftParen then take_it 0 (operands m) else refuse
act P.combiner kind = at_mark combiner_words refuse kind
act P.direction kind = if has kind M.Upward || has kind M.Downward then take_it 0 [] else refuse
act P.segment_mode kind = at_mark mode_words refuse kind
act P.inclusion kind = if has kind M.Inclusive || has kind M.Exclusive then take_it 0 [] else refuse
act P.bit kind = if has kind M.NoField then take_it 0 [] else if has kind M.Ampersand then take_it 1 (P.name ∷ []) else refuse
act P.whole kind = enter P.expression []
act (P.part m) kind = if has kind m then take_it 0 [] else enter P.expression (P.mark m ∷ [])
act P.condition kind = if has kind M.LeftParen then take_it 0 (P.whole ∷ P.mark M.RightParen ∷ []) else refuse
act P.statement kind = statement_action kind
act P.else_or_none kind = if has kind M.Else then take_it 0 (P.statement ∷ []) else skip
act P.ended kind = skip
act P.block kind = if has kind M.LeftBrace then take_it 0 (P.declarations ∷ P.statements ∷ []) else refuse
act P.declarations kind = if is_taken (type_action kind) then enter P.type (P.name ∷ P.length_or_none ∷ P.initial_or_none ∷ P.more_names ∷ P.declarations ∷ []) else skip
act P.statements kind = if has kind M.RightBrace then take_it 0 [] else before (statement_action kind) (P.statements ∷ [])
act P.length_or_none kind = if has kind M.LeftBracket then take_it 0 (P.whole ∷ P.mark M.RightBracket ∷ []) else skip
act P.initial_or_none kind = if has kind M.Equal then take_it 0 (P.whole ∷ []) else skip
act P.more_names kind = more_names_action kind
act P.shape_definition kind = if has kind M.LeftBracket then take_it 0 (P.whole ∷ P.mark M.RightBracket ∷ P.extents ∷ []) else refuse
act P.extents kind = if has kind M.LeftBracket then take_it 0 (P.whole ∷ P.mark M.RightBracket ∷ P.extents ∷ []) else at_name (take_it 0 []) refuse kind
act P.more_shapes kind = if has kind M.Comma then take_it 0 (P.shape_definition ∷ P.more_shapes ∷ []) else if has kind M.Semicolon then take_it 0 [] else refuse
act P.parameters kind = if has kind M.Void then take_it 0 [] else if is_taken (type_action kind) then enter P.type (P.name ∷ P.more_parameters ∷ []) else skip
act P.parameter kind = enter P.type (P.name ∷ [])
act P.more_parameters kind = if has kind M.Comma then take_it 0 (P.parameter ∷ P.more_parameters ∷ []) else skip
act P.behind_typed_name kind = if has kind M.LeftParen then take_it 0 (P.parameters ∷ P.mark M.RightParen ∷ P.block ∷ []) else if has kind M.LeftBracket then take_it 0 (P.whole ∷ P.mark M.RightBracket ∷ P.initial_or_none ∷ P.more_names ∷ []) else if has kind M.Equal then take_it 0 (P.whole ∷ P.more_names ∷ []) else more_names_action kind
act P.items kind = if has kind M.Shape then take_it 0 (P.shape_definition ∷ P.more_shapes ∷ P.items ∷ []) else if is_taken (type_action kind) then enter P.type (P.name ∷ P.behind_typed_name ∷ P.items ∷ []) else if has kind M.Void then take_it 0 (P.name ∷ header ++ P.items ∷ []) else at_name (take_it 0 (header ++ P.items ∷ [])) (at_end kind) kind

-- the token is taken or refused
abbrev pub IsStart : Action → Type 0
IsStart (take_it _ _) = Unit {0}
IsStart refuse = Unit {0}
IsStart _ = ⊥

-- it is not skipped
abbrev pub IsReal : Action → Type 0
IsReal skip = ⊥
IsReal _ = Unit {0}
