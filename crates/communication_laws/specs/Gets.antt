-- The machine's gets are the language's.
use Rattle.std.specs.Prelude.{◌≡◌, ℕ, ◌<◌, ◌^◌, ◌%◌, true, List}
use Rattle.cstar_tree.specs.declared.typed.Variable.{Variable}
use Rattle.paris_code.specs.declared.operands.Field.{Field}
use Rattle.paris_code.specs.Fetching.{of_named}
use Rattle.paris_code.specs.Memory.{BitMemory, field_number, processors}
use Rattle.paris_code.specs.Shapes.{SetShape}
use Rattle.source_meaning.specs.Gets.{gotten}
use Rattle.source_meaning.specs.State.{State}
use Rattle.communication_laws.specs.Holding.{HasNumbers}

-- Where a field has the lowest bits of a variable at every position, active or not, what the machine gets at a position
-- that has a target of the field's set has those of what the language gets: with as many bits as the variable has, all.
abbrev pub GetsAreTheLanguages : Type 0
GetsAreTheLanguages =
    (shapes : List SetShape) (m : BitMemory) (address a : Field) (st : State) (x : Variable) (bits : ℕ)
    → HasNumbers shapes m a (λ q. true) (λ q. st.parallel x 0 q % 2 ^ bits)
    → (to : ℕ → ℕ) (p : ℕ) → field_number m address p ≡ to p → to p < processors shapes a.set
    → of_named shapes m address a p ≡ gotten st x to p % 2 ^ bits
