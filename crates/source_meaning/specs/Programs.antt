-- The meaning of programs: from the input, the turns and the winner an end and a final state.
use Rattle.std.specs.Prelude.{ℕ, zero, suc, Bool, true, ◌&&◌, ◌==◌, if◌then◌else◌, List, [], slice_get, slice_index_or, Option, Some, None}
use Rattle.cstar_base.specs.declared.operators.Winner.{Winner}
use Rattle.cstar_tree.specs.declared.typed.Instance.{Instance}
use Rattle.cstar_tree.specs.declared.typed.ShapeInfo.{ShapeInfo}
use Rattle.cstar_tree.specs.declared.typed.Typed.{Typed}
use Rattle.cstar_tree.specs.declared.typed.VarInfo.{VarInfo}
use Rattle.cstar_tree.specs.declared.typed.Variable.{Variable}
use Rattle.cstar_tree.specs.declared.typed.Variable.TheVariants as V
use Rattle.cstar_tree.specs.Variables.{variables_of}
use Rattle.source_meaning.specs.State.{State, Rest, Early, Outcome, Gives, Ends, Stopped, then_do, spend_turn}
use Rattle.source_meaning.specs.Statements.{Leaving, Returned, executed}
use Rattle.source_meaning.specs.Values.{Value, Nothing, number, at, each, Active, Scope}

-- what a call of an instance does with the values of its arguments
abbrev pub Call : Type 0
Call = ℕ → List Value → Active → State → Outcome Value

-- the extents of a shape of the program
unfoldable pub extents_of : Option ShapeInfo → List ℕ
extents_of None = []
extents_of (Some info) = info.extents.items

-- the length of an array, and 0 of what is none
unfoldable pub array_length : Option VarInfo → ℕ
array_length None = 0
array_length (Some info) = elim info.array [ None ↦ 0 | Some n ↦ n ]

-- the variable that a name means in an instance
unfoldable pub variable_info : Typed → Instance → Variable → Option VarInfo
variable_info typed instance (V.File n) = slice_get typed.vars.items n
variable_info typed instance (V.Param n) = slice_get instance.params.items n
variable_info typed instance (V.Local n) = slice_get (variables_of instance.body) n

-- what is known where an expression of an instance stands
unfoldable pub scope_of : Typed → Instance → Call → Scope
scope_of typed instance call = record {
  extents = λ s. extents_of (slice_get typed.shapes.items s);
  length_of = λ x. array_length (variable_info typed instance x);
  call = call;
}

-- is a position of the shape of a variable active
unfoldable pub is_active_in : Active → Option VarInfo → ℕ → Bool
is_active_in active None p = true
is_active_in active (Some info) p = elim info.shape [ None ↦ true | Some s ↦ active s p ]

-- what a file's variables hold by the first, and all others by the second
unfoldable pub by_owner : {A : Type 0} → (Variable → A) → (Variable → A) → Variable → A
by_owner of_file of_function (V.File n) = of_file (V.File n)
by_owner of_file of_function x = of_function x

-- what a function's variables hold when its body begins
unfoldable pub scalar_given : List Value → Variable → ℕ
scalar_given arguments (V.Param n) = number (slice_index_or arguments n Nothing)
scalar_given arguments _ = 0

unfoldable pub parallel_given : Instance → List Value → Active → Variable → ℕ → ℕ → ℕ
parallel_given instance arguments active (V.Param n) k p =
    if k == 0 && is_active_in active (slice_get instance.params.items n) p then at (slice_index_or arguments n Nothing) p else 0
parallel_given instance arguments active _ k p = 0

-- The state in which the body of an instance begins: the parameters hold the arguments, a parallel
-- one at the positions that are active at the call, and all else of the function is 0.
unfoldable pub entered : Instance → List Value → Active → State → State
entered instance arguments active st =
    record st {
      scalar = λ x. by_owner st.scalar (scalar_given arguments) x;
      parallel = λ x. by_owner st.parallel (parallel_given instance arguments active) x;
    }

-- the state behind a call: the caller's own variables are as they were before it
unfoldable pub left : State → State → State
left before after =
    record after {
      scalar = λ x. by_owner after.scalar before.scalar x;
      parallel = λ x. by_owner after.parallel before.parallel x;
    }

-- the value of a call, by how the body was left: 0 where it has a result and ended without one
unfoldable pub result_of : Option VarInfo → Leaving → Value
result_of result (Returned (Some v)) = v
result_of None leaving = Nothing
result_of (Some info) leaving = each info.shape (λ _. 0)

-- the body of an instance, run with arguments
unfoldable pub run_body : Typed → Call → Option Instance → List Value → Active → State → Outcome Value
run_body typed call None arguments active st = Gives Nothing st
run_body typed call (Some instance) arguments active st =
    then_do (executed (scope_of typed instance call) instance.body 0 active (entered instance arguments active st))
    (λ leaving after. Gives (result_of instance.result leaving) (left st after))

-- what calls do while no more than so many turns are left: each spends one
unfoldable pub calls : Typed → ℕ → ℕ → List Value → Active → State → Outcome Value
calls typed zero callee arguments active st = Ends Stopped st
calls typed (suc n) callee arguments active st =
    spend_turn st (λ begun. run_body typed (calls typed n) (slice_get typed.instances.items callee) arguments active begun)

-- the value that every element of a file's variable begins with, at every position
unfoldable pub start_of : Typed → Variable → ℕ
start_of typed (V.File n) = elim (slice_get typed.vars.items n) [ None ↦ 0 | Some info ↦ info.start ]
start_of typed _ = 0

-- the state in which a run begins
unfoldable pub start_state : Typed → List ℕ → Rest → ℕ → Winner → State
start_state typed input rest turns winner = record {
  scalar = λ x. start_of typed x;
  parallel = λ x k p. start_of typed x;
  turns = turns;
  output = [];
  input = input;
  rest = rest;
  winner = winner;
}

-- how a run ends: at the end of `main`, or before it
pub data End : Type 0 where
  Done : End
  EndsEarly : Early → End

-- the end of a run and its final state
pub record Run : Type 0 where
  pub end : End
  pub final : State

unfoldable pub run_of : Outcome Value → Run
run_of (Gives v st) = record { end = Done; final = st }
run_of (Ends early st) = record { end = EndsEarly early; final = st }

-- the run of a program: all positions are active at its start, and its first instance is `main`
unfoldable pub meaning : Typed → List ℕ → Rest → ℕ → Winner → Run
meaning typed input rest turns winner =
    run_of (run_body typed (calls typed turns) (slice_get typed.instances.items 0) [] (λ s p. true) (start_state typed input rest turns winner))
