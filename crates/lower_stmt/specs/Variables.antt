-- The variables of a block.
use Rattle.std.specs.Prelude.{ℕ, zero, suc, ◌+◌, Bool, true, false, List, [], ◌∷◌, ◌++◌, length, ◌||◌, ◌==◌, if◌then◌else◌, Some, None, is_none}
use Rattle.cstar_tree.specs.declared.typed.LocalVar.{LocalVar}
use Rattle.cstar_tree.specs.declared.typed.TExpr.{TExpr}
use Rattle.cstar_tree.specs.declared.typed.Typed.{Typed}
use Rattle.cstar_tree.specs.declared.typed.VarInfo.{VarInfo}
use Rattle.cstar_tree.specs.declared.typed.Variable.TheVariants as V
use Rattle.paris_code.specs.declared.instr.Instr.TheVariants as I
use Rattle.paris_code.specs.declared.program.Owner.TheVariants as W
use Rattle.lower_base.specs.declared.emit.Out.{Out}
use Rattle.lower_base.specs.declared.emit.Out.TheVariants as O
use Rattle.lower_base.specs.Drafts.{Draft, Made, Makes, then_make, with_instr, an_entry}
use Rattle.lower_base.specs.Layouts.{Layout, entries_of, register_of, field_of}
use Rattle.lower_expr.specs.Effects.{put_to}
use Rattle.lower_expr.specs.Operands.{standing}
use Rattle.lower_expr.specs.Steps.{has_word}

-- so many fresh fields of a shape, each of which becomes zero at every position
unfoldable pub cleared_fields : ℕ → ℕ → ℕ → Draft → Made (Unit {0})
cleared_fields zero set len d = Makes tt d
cleared_fields (suc n) set len d =
    then_make (an_entry set len W.Own d) (λ dest after. cleared_fields n set len (with_instr (I.MoveZeroAlways dest) after))

-- the next parallel variable of the blocks has its first field here
unfoldable pub with_home : Draft → Draft
with_home d = record d { homes = d.homes ++ length d.fields ∷ [] }

-- does the variable begin as a constant, which a scalar one then takes at once
unfoldable pub begins_constant : LocalVar → Bool
begins_constant local = elim local.initial [ None ↦ false | Some e ↦ has_word true e ]

-- does a scalar variable keep what its register has: it is zero already, or takes a constant at once
abbrev pub is_kept_so : Bool → LocalVar → Bool
is_kept_so at_start local = at_start || begins_constant local

-- the variable of this number becomes zero, at every position
unfoldable pub cleared : Layout → Bool → LocalVar → ℕ → Draft → Made (Unit {0})
cleared l at_start local n d =
    elim local.info.shape [
      | None ↦ if is_kept_so at_start local then Makes tt d else Makes tt (with_instr (I.FrontConst (register_of l (V.Local n)) 0) d)
      | Some s ↦ cleared_fields (entries_of local.info) s local.info.elem.bits (with_home d)
    ]

-- all variables of a block, from a number on; whether the block stands where `main` starts, and all
-- registers are zero, is told
unfoldable pub all_cleared : Layout → Bool → List LocalVar → ℕ → Draft → Made (Unit {0})
all_cleared l at_start [] n d = Makes tt d
all_cleared l at_start (local ∷ locals) n d =
    then_make (cleared l at_start local n d) (λ _ after. all_cleared l at_start locals (n + 1) after)

-- where a variable is, with all its bits
unfoldable pub variable_of : Typed → Layout → VarInfo → ℕ → Draft → Made Out
variable_of t l info n d = standing t l info.elem.bits (record { shape = info.shape; variable = V.Local n }) d

-- its initialiser, if it has one, stored in it
unfoldable pub initialised : Typed → Layout → LocalVar → ℕ → Draft → Made (Unit {0})
initialised t l local n d =
    elim local.initial [
      | None ↦ Makes tt d
      | Some e ↦ then_make (variable_of t l local.info n d) (λ dest between. then_make (put_to t l dest e between)
          (λ _ after. Makes tt after))
    ]

-- the initialisers of a block, in order
unfoldable pub all_initialised : Typed → Layout → List LocalVar → ℕ → Draft → Made (Unit {0})
all_initialised t l [] n d = Makes tt d
all_initialised t l (local ∷ locals) n d = then_make (initialised t l local n d) (λ _ after. all_initialised t l locals (n + 1) after)

-- the variables of a block: all become zero, and then the initialisers run; it answers the number
-- of the variable that is declared next
unfoldable pub declared : Typed → Layout → Bool → List LocalVar → ℕ → Draft → Made ℕ
declared t l at_start locals n d =
    then_make (all_cleared l at_start locals n d) (λ _ between. then_make (all_initialised t l locals n between) (λ _ after. Makes (n + length locals) after))
