-- The parts of the grammar that can be open behind the first tokens of a text: each is what is still
-- wanted there.
use Rattle.std.specs.Prelude.{ℕ, ◌+◌, Bool, true, false, List, [], ◌∷◌, ◌++◌}
use Rattle.cstar_tree.specs.declared.token.Mark.{Mark}

pub data Part : Type 0 where
  -- this mark; the mark that closes a bracket of an expression; an operator of an expression
  mark : Mark → Part
  close : Mark → Part
  operator : Mark → Part
  name : Part
  text : Part
  -- a type; what can stand behind `signed`, behind `short`, and behind the words of a type; the name
  -- of a shape or `current`
  type : Part
  width_or_none : Part
  int_or_none : Part
  shape_or_none : Part
  shape : Part
  -- an assignment, and what can stand behind a unary expression in it; a `?:`, and what can stand
  -- behind its condition
  expression : Part
  behind_unary : Part
  choice : Part
  choice_or_none : Part
  -- operands and the binary operators of at least this level between them; what can stand behind the
  -- first operand
  binary : ℕ → Part
  operators : ℕ → Part
  unary : Part
  steps : Part
  -- what can stand behind a name, and behind a `(`: a cast or an expression
  behind_name : Part
  behind_paren : Part
  arguments : Part
  more_arguments : Part
  indexes : Part
  -- what stands behind the word of an intrinsic, and the words in its brackets
  operands_of : Mark → Part
  combiner : Part
  direction : Part
  segment_mode : Part
  inclusion : Part
  bit : Part
  -- a whole expression, one or none before this mark, and one in round brackets
  whole : Part
  part : Mark → Part
  condition : Part
  statement : Part
  else_or_none : Part
  -- nothing: a statement ends here
  ended : Part
  block : Part
  declarations : Part
  statements : Part
  length_or_none : Part
  initial_or_none : Part
  more_names : Part
  shape_definition : Part
  extents : Part
  more_shapes : Part
  parameters : Part
  parameter : Part
  more_parameters : Part
  behind_typed_name : Part
  items : Part

-- what an open part does at a token: it takes it, as so many operators of the expression, and then
-- these parts are open in its place; it is a whole expression or type, behind which these parts are
-- wanted; it is skipped; or the token cannot stand there
pub data Action : Type 0 where
  take_it : ℕ → List Part → Action
  enter : Part → List Part → Action
  skip : Action
  refuse : Action

-- the same with more parts wanted behind
abbrev pub before : Action → List Part → Action
before (take_it n parts) more = take_it n (parts ++ more)
before (enter p parts) more = enter p (parts ++ more)
before skip more = skip
before refuse more = refuse

-- one action, or another where it skips or refuses
abbrev pub or_else : Action → Action → Action
or_else skip other = other
or_else action other = action

abbrev pub unless_refused : Action → Action → Action
unless_refused refuse other = other
unless_refused action other = action

abbrev pub is_taken : Action → Bool
is_taken (take_it _ _) = true
is_taken _ = false

-- the number of levels that are open as long as the part is
abbrev pub level_of : Part → ℕ
level_of (close _) = 1
level_of behind_paren = 1
level_of arguments = 1
level_of more_arguments = 1
level_of ended = 1
level_of _ = 0

abbrev pub levels : List Part → ℕ
levels [] = 0
levels (p ∷ parts) = level_of p + levels parts
