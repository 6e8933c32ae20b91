-- Constants that stand in registers, behind those of the variables: `main` puts them there before all
-- else, nothing writes there again, and what needs such a number reads it there.
use Rattle.std.specs.Prelude.{ℕ, ◌+◌, ◌==◌, if◌then◌else◌, List, [], ◌∷◌, length, Option, Some, None}
use Rattle.paris_code.specs.declared.instr.Instr.TheVariants as I
use Rattle.lower_base.specs.Drafts.{Draft, Made, Makes, then_make, with_instr, a_register}
use Rattle.lower_base.specs.Layouts.{Layout}

-- the register of a number among these, the first of which stands in that register
unfoldable pub register_with : ℕ → List ℕ → ℕ → Option ℕ
register_with word [] r = None
register_with word (first ∷ words) r = if first == word then Some r else register_with word words (r + 1)

-- the register in which a number stands
unfoldable pub constant_register : Layout → ℕ → Option ℕ
constant_register l word = register_with word l.constants l.end

-- the first register that neither a variable nor a constant has
unfoldable pub first_free : Layout → ℕ
first_free l = l.end + length l.constants

-- a number in a register: where it stands, or else a fresh one
unfoldable pub word_in : Layout → ℕ → Draft → Made ℕ
word_in l word d =
    elim (constant_register l word) [
      | Some r ↦ Makes r d
      | None ↦ then_make (a_register d) (λ r after. Makes r (with_instr (I.FrontConst r word) after))
    ]

-- how many instructions that takes
unfoldable pub word_length : Layout → ℕ → ℕ
word_length l word = elim (constant_register l word) [ Some _ ↦ 0 | None ↦ 1 ]
