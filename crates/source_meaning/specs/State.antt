-- The state of a run, and how a part of a run ends.
use Rattle.std.specs.Prelude.{ℕ, zero, suc, Bool, false, ◌+◌, ◌==◌, ◌&&◌, nat_le, nat_lt, if◌then◌else◌, List, ◌++◌, Option}
use Rattle.cstar_base.specs.declared.faults.RunFault.{RunFault}
use Rattle.cstar_base.specs.declared.operators.Place.{Place}
use Rattle.cstar_base.specs.declared.operators.Winner.{Winner}
use Rattle.cstar_tree.specs.declared.typed.Variable.{Variable}
use Rattle.cstar_tree.specs.declared.typed.Variable.TheVariants as V

-- what stands behind the last byte of the input: its end, or a failure of the outside
pub data Rest : Type 0 where
  InputEnds : Rest
  InputFails : Rest

-- What the file's variables and those of the running function hold: scalars by name, parallel
-- variables by name, element and position, where what is no array has element 0. Further the turns
-- left, the bytes printed, the bytes of the input not yet read with what stands behind them, and
-- the winner of colliding sends, which nothing in a run changes.
pub record State : Type 0 where
  pub scalar : Variable → ℕ
  pub parallel : Variable → ℕ → ℕ → ℕ
  pub turns : ℕ
  pub output : List ℕ
  pub input : List ℕ
  pub rest : Rest
  pub winner : Winner

-- Why a run ends before the end of `main`: a fault with its place and, in a parallel operation, the
-- least position; a turn that was due and not left; an input that failed.
pub data Early : Type 0 where
  Fault : RunFault → Place → Option ℕ → Early
  Stopped : Early
  InputBroken : Early

-- what a part of a run gives, with the state behind it, or how the run ends in it
pub data Outcome (A : Type 0) : Type 0 where
  Gives : A → State → Outcome A
  Ends : Early → State → Outcome A

-- one part, and then another that begins with what the first gave
unfoldable pub then_do : {A B : Type 0} → Outcome A → (A → State → Outcome B) → Outcome B
then_do (Gives x st) next = next x st
then_do (Ends early st) next = Ends early st

-- are two names the same
unfoldable pub is_same : Variable → Variable → Bool
is_same (V.File m) (V.File n) = m == n
is_same (V.Param m) (V.Param n) = m == n
is_same (V.Local m) (V.Local n) = m == n
is_same _ _ = false

-- a scalar variable takes a number
unfoldable pub with_scalar : Variable → ℕ → State → State
with_scalar x w st = record st { scalar = λ y. if is_same x y then w else st.scalar y }

-- an element of a parallel variable takes numbers at the positions that pass
unfoldable pub with_positions : Variable → ℕ → (ℕ → Bool) → (ℕ → ℕ) → State → State
with_positions x k passes w st =
    record st { parallel = λ y e p. if is_same x y && e == k && passes p then w p else st.parallel y e p }

-- one more turn is spent, or the run stops where none is left
unfoldable pub spend_turn : {A : Type 0} → State → (State → Outcome A) → Outcome A
spend_turn st next = elim st.turns [ zero ↦ Ends Stopped st | suc n ↦ next (record st { turns = n }) ]

-- bytes are printed
unfoldable pub with_output : List ℕ → State → State
with_output bytes st = record st { output = st.output ++ bytes }

-- is the name one of so many of a function's block variables, from a number on
unfoldable pub is_among : ℕ → ℕ → Variable → Bool
is_among first count (V.Local n) = nat_le first n && nat_lt n (first + count)
is_among first count _ = false

-- these block variables become 0, in all elements and at every position
unfoldable pub zeroed : ℕ → ℕ → State → State
zeroed first count st =
    record st {
      scalar = λ y. if is_among first count y then 0 else st.scalar y;
      parallel = λ y e p. if is_among first count y then 0 else st.parallel y e p;
    }
