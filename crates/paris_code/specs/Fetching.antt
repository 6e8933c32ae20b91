-- Communication without collisions: NEWS, get, one processor's field, and the global folds.
use Rattle.std.specs.Prelude.{ℕ, Bool, true, not, ◌==◌, nat_lt, if◌then◌else◌}
use Rattle.vp_sets.specs.Positions.{shifted}
use Rattle.cstar_base.specs.Folds.{fold_once, identity_of}
use Rattle.cstar_base.specs.Numbers.{number_of, residue}
use Rattle.std.specs.Prelude.{List}
use Rattle.paris_code.specs.declared.operands.Field.{Field}
use Rattle.paris_code.specs.declared.operands.Reduction.{Reduction}
use Rattle.paris_code.specs.Memory.{BitMemory, field_number, whole_number, is_active, processors}
use Rattle.paris_code.specs.Operators.{combiner_of}
use Rattle.cstar_base.specs.Orders.{fold_below}
use Rattle.paris_code.specs.Shapes.{SetShape, extents_at}
use Rattle.paris_code.specs.Writes.{Write}

-- a field of the processor with a number, and 0 if there is none
unfoldable pub number_or_zero : List SetShape → BitMemory → Field → ℕ → ℕ
number_or_zero shapes m a processor = if nat_lt processor (processors shapes a.set) then field_number m a processor else 0

-- at the active processors the destination becomes a number
abbrev pub at_active : List SetShape → BitMemory → Field → (ℕ → ℕ) → Write
at_active shapes m d number = record { run = d; writes = λ p. is_active shapes m d.set p; value = λ p. number p }

-- a of the processor whose coordinate on the axis is the own one plus a signed number, modulo the
-- extent
unfoldable pub of_neighbour : List SetShape → BitMemory → Field → ℕ → ℕ → ℕ → ℕ
of_neighbour shapes m a axis k p = field_number m a (shifted (extents_at shapes a.set) p axis (number_of 32 true k))

-- a of the processor that the address names
unfoldable pub of_named : List SetShape → BitMemory → Field → Field → ℕ → ℕ
of_named shapes m address a p = number_or_zero shapes m a (field_number m address p)

-- a of one processor as a word, read signed or unsigned; 0 if there is none
unfoldable pub word_of_one : List SetShape → BitMemory → Bool → Field → ℕ → ℕ
word_of_one shapes m signed a processor = if nat_lt processor (processors shapes a.set) then residue 32 (whole_number m signed a processor) else 0

-- a number of a field as the word that a fold takes: read signed where the combiner does
unfoldable pub folded_word : Reduction → BitMemory → Field → ℕ → ℕ
folded_word c m a p = residue 32 (whole_number m (not (combiner_of c).1) a p)

-- the fold of a over the active processors in rising order, from the identity
unfoldable pub global_fold : List SetShape → BitMemory → Reduction → Field → ℕ
global_fold shapes m c a =
    fold_below (λ total n. fold_once (combiner_of c).0 (combiner_of c).1 total n) (λ p. is_active shapes m a.set p) (λ p. folded_word c m a p)
    (identity_of (combiner_of c).0 (combiner_of c).1) (processors shapes a.set)

-- one processor's destination becomes a number, active or not; nothing if there is no such one
abbrev pub at_one : Field → ℕ → ℕ → Write
at_one d processor number = record { run = d; writes = λ p. p == processor; value = λ p. number }

-- the destination becomes a number at all processors
abbrev pub at_all : Field → (ℕ → ℕ) → Write
at_all d number = record { run = d; writes = λ p. true; value = λ p. number p }
