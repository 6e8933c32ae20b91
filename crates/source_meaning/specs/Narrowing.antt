-- Active sets, and the operators whose left operand decides where, or whether, others are evaluated.
use Rattle.std.specs.Prelude.{ℕ, Bool, true, false, ◌==◌, ◌&&◌, ◌||◌, if◌then◌else◌, Option, Some, None}
use Rattle.std.specs.Int.{from_bool}
use Rattle.source_meaning.specs.State.{State, Outcome, Gives, then_do}
use Rattle.source_meaning.specs.Values.{Value, Parallel, number, at, each, Active, nonzero}

-- the active set of one shape narrowed to the positions that pass
unfoldable pub narrowed : ℕ → (ℕ → Bool) → Active → Active
narrowed s passes active = λ t p. active t p && (if t == s then passes p else true)

-- where a value is not 0, and where it is
unfoldable pub where_nonzero : ℕ → Value → Active → Active
where_nonzero s v active = narrowed s (λ p. nonzero (at v p)) active

unfoldable pub where_zero : ℕ → Value → Active → Active
where_zero s v active = narrowed s (λ p. at v p == 0) active

-- all positions of one shape
unfoldable pub widened : ℕ → Active → Active
widened s active = λ t p. active t p || t == s

-- what an operand gives under an active set
abbrev pub Operand : Type 0
Operand = Active → State → Outcome Value

-- `&&` behind its left operand of a shape, or of none: a scalar one chooses, a parallel one narrows
unfoldable pub and_then : Option ℕ → Option ℕ → Value → Operand → Active → State → Outcome Value
and_then whole None v right active st =
    elim (nonzero (number v)) [
      | true ↦ then_do (right active st) (λ w after. Gives (each whole (λ p. from_bool (nonzero (at w p)))) after)
      | false ↦ Gives (each whole (λ _. 0)) st
    ]
and_then whole (Some s) v right active st =
    then_do (right (where_nonzero s v active) st)
    (λ w after. Gives (Parallel (λ p. from_bool (nonzero (at v p) && nonzero (at w p)))) after)

-- `||` likewise
unfoldable pub or_then : Option ℕ → Option ℕ → Value → Operand → Active → State → Outcome Value
or_then whole None v right active st =
    elim (nonzero (number v)) [
      | true ↦ Gives (each whole (λ _. 1)) st
      | false ↦ then_do (right active st) (λ w after. Gives (each whole (λ p. from_bool (nonzero (at w p)))) after)
    ]
or_then whole (Some s) v right active st =
    then_do (right (where_zero s v active) st)
    (λ w after. Gives (Parallel (λ p. from_bool (nonzero (at v p) || nonzero (at w p)))) after)

-- `?:` behind its condition: a scalar one chooses an operand, under a parallel one both are evaluated
unfoldable pub choose : Option ℕ → Value → Operand → Operand → Active → State → Outcome Value
choose None v first second active st = elim (nonzero (number v)) [ true ↦ first active st | false ↦ second active st ]
choose (Some s) v first second active st =
    then_do (first (where_nonzero s v active) st)
    (λ a between. then_do (second (where_zero s v active) between)
    (λ b after. Gives (Parallel (λ p. if nonzero (at v p) then at a p else at b p)) after))
