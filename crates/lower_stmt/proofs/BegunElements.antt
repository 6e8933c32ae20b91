-- Elements that take their value, one after the other.
use Rattle.std.proofs.Common.{◌≡◌, ℕ, suc, ◌+◌, ◌-◌, ◌<◌, ap, arith}
use Rattle.cstar_tree.specs.declared.typed.Typed.{Typed}
use Rattle.cstar_tree.specs.declared.typed.Variable.TheVariants as V
use Rattle.paris_code.specs.declared.instr.Instr.TheVariants as I
use Rattle.paris_code.specs.declared.operands.Field.{Field}
use Rattle.paris_code.specs.declared.operands.Konst.TheVariants as K
use Rattle.lower_base.proofs.Made.{first_made}
use Rattle.lower_base.specs.Drafts.{Draft, IsMade, Makes, then_make, with_instr}
use Rattle.lower_base.specs.Layouts.{Layout, field_of}
use Rattle.lower_stmt.specs.Programs.{elements_begun}

-- the next element has a field
pub begun_made : (t : Typed) (l : Layout) (number value n i : ℕ) (d : Draft) → i < n →
    IsMade (elements_begun t l number value (n - i) i d) → IsMade (field_of t l (V.File number) i d)
unfolding elements_begun
begun_made t l number value n i d below made =
    let left : n - i ≡ suc (n - (i + 1)) = omega arith in
    first_made _ _ (rw left at made)

pub begun_step : (t : Typed) (l : Layout) (number value n i : ℕ) (d between after : Draft) (dest : Field) → i < n →
    field_of t l (V.File number) i d ≡ Makes dest between → with_instr (I.MoveConstant dest (K.Imm value)) between ≡ after →
    elements_begun t l number value (n - i) i d ≡ elements_begun t l number value (n - (i + 1)) (i + 1) after
unfolding elements_begun then_make
begun_step t l number value n i d between after dest below field put =
    let left : n - i ≡ suc (n - (i + 1)) = omega arith in
    rw (left, field) (ap (λ d. elements_begun t l number value (n - (i + 1)) (i + 1) d) put)
