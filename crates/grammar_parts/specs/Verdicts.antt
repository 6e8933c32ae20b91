-- What becomes of a text: whether it is read, or which token cannot stand or is too deep.
use Rattle.std.specs.Prelude.{◌≡◌, ℕ, ◌+◌, Bool, List, [], ◌∷◌, ◌++◌, Option, Some, None, nat_lt, if◌then◌else◌, ◌||◌}
use Rattle.cstar_tree.specs.declared.token.Token.{Token}
use Rattle.cstar_tree.specs.declared.token.Kind.{Kind}
use Rattle.grammar_parts.specs.Parts.{Part, Action, take_it, enter, skip, refuse, levels}
use Rattle.grammar_parts.specs.Parts as P
use Rattle.grammar_parts.specs.Actions.{act}
use Rattle.grammar_parts.specs.Readings.{kinds_from, may_end}

-- the parts that are open inside the present whole expression, the number of its operators so far,
-- and the parts that are open around it
pub record State : Type 0 where
  pub inside : List Part
  pub operators : ℕ
  pub outside : List Part

abbrev pub entering : Action → List Part → Option State
entering (take_it n parts) outside = Some (record { inside = parts; operators = n; outside = outside })
entering _ outside = None

abbrev pub around : Action → Kind → List Part → Option State → Option State
around (take_it n parts) kind outside skipped = Some (record { inside = []; operators = 0; outside = parts ++ outside })
around (enter p parts) kind outside skipped = entering (act p (Some kind)) (parts ++ outside)
around skip kind outside skipped = skipped
around refuse kind outside skipped = None

-- the state behind a token, if it can stand where these parts are open around no expression
unfoldable pub outer_step : List Part → Kind → Option State
outer_step [] kind = None
outer_step (p ∷ outside) kind = around (act p (Some kind)) kind outside (outer_step outside kind)

abbrev pub within : Action → Kind → List Part → ℕ → List Part → Option State → Option State
within (take_it n parts) kind inside operators outside skipped = Some (record { inside = parts ++ inside; operators = operators + n; outside = outside })
within (enter p parts) kind inside operators outside skipped = entering (act p (Some kind)) (parts ++ (inside ++ outside))
within skip kind inside operators outside skipped = skipped
within refuse kind inside operators outside skipped = None

-- the same in an expression
unfoldable pub inner_step : List Part → ℕ → List Part → Kind → Option State
inner_step [] operators outside kind = outer_step outside kind
inner_step (p ∷ inside) operators outside kind = within (act p (Some kind)) kind inside operators outside (inner_step inside operators outside kind)

abbrev pub next : State → Kind → Option State
next s kind = inner_step s.inside s.operators s.outside kind

-- more than 100 levels are open, or there are more than 1,000 operators
abbrev pub is_deep : State → Bool
is_deep s = nat_lt 100 (levels s.inside + levels s.outside) || nat_lt 1000 s.operators

pub data Verdict : Type 0 where
  read : Verdict
  syntax_at : ℕ → Verdict
  depth_at : ℕ → Verdict

-- the verdict on tokens of these kinds, of which the first has the number `at`
unfoldable pub verdict : List Kind → ℕ → State → Verdict
verdict [] at s = if may_end (s.inside ++ s.outside) then read else syntax_at at
verdict (kind ∷ kinds) at s = elim (next s kind) [ None ↦ syntax_at at | Some t ↦ if is_deep t then depth_at at else verdict kinds (at + 1) t ]

unfoldable pub verdict_at : List Token → ℕ → List Part → ℕ → List Part → Verdict
verdict_at tokens at inside operators outside = verdict (kinds_from tokens at) at (record { inside = inside; operators = operators; outside = outside })

-- the state behind tokens of these kinds, if they begin a text
unfoldable pub state_behind : State → List Kind → Option State
state_behind s [] = Some s
state_behind s (kind ∷ kinds) = elim (next s kind) [ None ↦ None | Some t ↦ state_behind t kinds ]

abbrev pub start : State
start = record { inside = []; operators = 0; outside = P.items ∷ [] }

-- the verdict on a whole text
abbrev pub verdict_on : List Token → Verdict
verdict_on tokens = verdict_at tokens 0 [] 0 (P.items ∷ [])

-- around as many open levels, these parts are read between two positions, with a number of operators
-- before them and one behind them, and leave those open
abbrev pub Goes : List Token → ℕ → ℕ → ℕ → List Part → ℕ → ℕ → List Part → Type 0
Goes tokens open_levels at n parts to m left = (inside outside : List Part) → levels inside + levels outside ≡ open_levels → verdict_at tokens at (parts ++ inside) n outside ≡ verdict_at tokens to (left ++ inside) m outside

-- the verdict falls in them
abbrev pub Falls : List Token → ℕ → ℕ → ℕ → List Part → Verdict → Type 0
Falls tokens open_levels at n parts v = (inside outside : List Part) → levels inside + levels outside ≡ open_levels → verdict_at tokens at (parts ++ inside) n outside ≡ v
