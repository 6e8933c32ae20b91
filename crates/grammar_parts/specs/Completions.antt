-- The completion of a beginning of a text: for each part that is open, the shortest tokens that it can
-- be.
use Rattle.std.specs.Prelude.{false, List, [], ◌∷◌, ◌++◌}
use Rattle.cstar_tree.specs.declared.token.Kind.{Kind}
use Rattle.cstar_tree.specs.declared.token.Kind.TheVariants as K
use Rattle.cstar_tree.specs.declared.token.Mark.{Mark}
use Rattle.cstar_tree.specs.declared.token.Mark.TheVariants as M
use Rattle.grammar_parts.specs.Parts.{Part}
use Rattle.grammar_parts.specs.Parts as P

abbrev pub one : Kind
one = K.Num 1 false

abbrev pub x : Kind
x = K.Name (120 ∷ [])

-- the brackets of an intrinsic
abbrev pub shortest_operands : Mark → List Kind
shortest_operands M.Pcoord = one ∷ K.Mark M.RightParen ∷ []
shortest_operands M.PositionsOf = K.Mark M.Current ∷ K.Mark M.RightParen ∷ []
shortest_operands M.RankOf = K.Mark M.Current ∷ K.Mark M.RightParen ∷ []
shortest_operands M.DimOf = K.Mark M.Current ∷ K.Mark M.Comma ∷ one ∷ K.Mark M.RightParen ∷ []
shortest_operands M.Scan = one ∷ K.Mark M.Comma ∷ one ∷ K.Mark M.Comma ∷ K.Mark M.CombinerAdd ∷ K.Mark M.Comma ∷ K.Mark M.Upward ∷ K.Mark M.Comma ∷ K.Mark M.NoSegments ∷ K.Mark M.Comma ∷ K.Mark M.NoField ∷ K.Mark M.Comma ∷ K.Mark M.Inclusive ∷ K.Mark M.RightParen ∷ []
shortest_operands M.Enumerate = one ∷ K.Mark M.Comma ∷ K.Mark M.Upward ∷ K.Mark M.Comma ∷ K.Mark M.Inclusive ∷ K.Mark M.Comma ∷ K.Mark M.NoSegments ∷ K.Mark M.Comma ∷ K.Mark M.NoField ∷ K.Mark M.RightParen ∷ []
shortest_operands M.Printf = K.Text [] ∷ K.Mark M.RightParen ∷ []
shortest_operands _ = K.Mark M.RightParen ∷ []

abbrev pub shortest : Part → List Kind
shortest (P.mark m) = K.Mark m ∷ []
shortest (P.close m) = K.Mark m ∷ []
shortest (P.operator m) = K.Mark m ∷ []
shortest P.name = x ∷ []
shortest P.text = K.Text [] ∷ []
shortest P.type = K.Mark M.Int ∷ []
shortest P.shape = K.Mark M.Current ∷ []
shortest P.expression = one ∷ []
shortest P.choice = one ∷ []
shortest (P.binary _) = one ∷ []
shortest P.unary = one ∷ []
shortest P.behind_paren = one ∷ K.Mark M.RightParen ∷ []
shortest P.arguments = K.Mark M.RightParen ∷ []
shortest P.more_arguments = K.Mark M.RightParen ∷ []
shortest P.indexes = x ∷ []
shortest (P.operands_of m) = K.Mark M.LeftParen ∷ shortest_operands m
shortest P.combiner = K.Mark M.CombinerAdd ∷ []
shortest P.direction = K.Mark M.Upward ∷ []
shortest P.segment_mode = K.Mark M.NoSegments ∷ []
shortest P.inclusion = K.Mark M.Inclusive ∷ []
shortest P.bit = K.Mark M.NoField ∷ []
shortest P.whole = one ∷ []
shortest (P.part m) = K.Mark m ∷ []
shortest P.condition = K.Mark M.LeftParen ∷ one ∷ K.Mark M.RightParen ∷ []
shortest P.statement = K.Mark M.Semicolon ∷ []
shortest P.block = K.Mark M.LeftBrace ∷ K.Mark M.RightBrace ∷ []
shortest P.statements = K.Mark M.RightBrace ∷ []
shortest P.more_names = K.Mark M.Semicolon ∷ []
shortest P.shape_definition = K.Mark M.LeftBracket ∷ one ∷ K.Mark M.RightBracket ∷ x ∷ []
shortest P.extents = x ∷ []
shortest P.more_shapes = K.Mark M.Semicolon ∷ []
shortest P.parameter = K.Mark M.Int ∷ x ∷ []
shortest P.behind_typed_name = K.Mark M.Semicolon ∷ []
shortest _ = []

abbrev pub completion : List Part → List Kind
completion [] = []
completion (p ∷ parts) = shortest p ++ completion parts
