-- When a memory of the machine has what a state of the language has.
use Rattle.std.specs.Prelude.{◌≡◌, ℕ, ◌<◌, Bool, true, List}
use Rattle.paris_code.specs.declared.operands.Field.{Field}
use Rattle.paris_code.specs.Memory.{BitMemory, field_number, is_active, processors}
use Rattle.paris_code.specs.Shapes.{SetShape}
use Rattle.cstar_tree.specs.declared.typed.Variable.{Variable}
use Rattle.source_meaning.specs.State.{State}

-- these positions of a set are its active ones
abbrev pub HasActive : List SetShape → BitMemory → ℕ → (ℕ → Bool) → Type 0
HasActive shapes m set active = (p : ℕ) → p < processors shapes set → is_active shapes m set p ≡ active p

-- a field has these numbers at the positions that pass
abbrev pub HasNumbers : List SetShape → BitMemory → Field → (ℕ → Bool) → (ℕ → ℕ) → Type 0
HasNumbers shapes m f passes number = (p : ℕ) → p < processors shapes f.set → passes p ≡ true → field_number m f p ≡ number p

-- a field has what a variable has, at every position, active or not
abbrev pub HasVariable : List SetShape → BitMemory → Field → State → Variable → Type 0
HasVariable shapes m f st x = HasNumbers shapes m f (λ q. true) (λ q. st.parallel x 0 q)
