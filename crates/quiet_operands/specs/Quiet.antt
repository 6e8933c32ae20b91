-- What a quiet expression leaves as it was: the whole state. An operand that is a variable is used
-- where it stands if all is quiet that is evaluated between its reading and its use.
use Rattle.std.specs.Prelude.{◌≡◌, true}
use mathlib.Core.Former.{Count}
use Rattle.cstar_tree.specs.declared.typed.TExpr.{TExpr, Row_of-TExpr}
use Rattle.source_meaning.specs.Expressions.{evaluated, operands}
use Rattle.source_meaning.specs.State.{State, Outcome, Gives, Ends}
use Rattle.source_meaning.specs.Values.{Active, Scope, Value, Nothing}
use Rattle.lower_expr.specs.Operands.{is_quiet, are_quiet, ignores_context}

-- the state behind a part of a run, whether it gives something or ends the run
unfoldable pub state_behind : {A : Type 0} → Outcome A → State
state_behind (Gives x st) = st
state_behind (Ends early st) = st

-- a quiet expression, under any active sets
abbrev pub QuietExpressionsChangeNothing : Type 0
QuietExpressionsChangeNothing =
    (scope : Scope) (e : TExpr) (active : Active) (st : State) → is_quiet e ≡ true → state_behind (evaluated scope e active st) ≡ st

-- a list of quiet expressions
abbrev pub QuietListsChangeNothing : Type 0
QuietListsChangeNothing =
    (scope : Scope) (n : Count) (row : Row_of-TExpr n) (active : Active) (st : State) → are_quiet row ≡ true → state_behind (operands scope row active st) ≡ st

-- the value that is given
unfoldable pub value_given : Outcome Value → Value
value_given (Gives v st) = v
value_given (Ends early st) = Nothing

-- an expression that ignores the context: under any active sets it gives the value that it has under any
-- others, ends in no fault, and leaves the state
abbrev pub ContextsAreIgnored : Type 0
ContextsAreIgnored =
    (scope : Scope) (e : TExpr) (active other : Active) (st : State) → ignores_context e ≡ true →
    evaluated scope e active st ≡ Gives (value_given (evaluated scope e other st)) st
