-- One more field that becomes zero.
use Rattle.std.proofs.Common.{◌≡◌, ℕ, suc, ◌+◌, ◌-◌, ◌<◌, ap, arith}
use Rattle.paris_code.specs.declared.instr.Instr.TheVariants as I
use Rattle.paris_code.specs.declared.operands.Field.{Field}
use Rattle.paris_code.specs.declared.program.Owner.TheVariants as W
use Rattle.lower_base.specs.Drafts.{Draft, Makes, then_make, an_entry, with_instr}
use Rattle.lower_stmt.specs.Variables.{cleared_fields}

pub cleared_step : (n i set len : ℕ) (d between after : Draft) (dest : Field) → i < n →
    an_entry set len W.Own d ≡ Makes dest between → with_instr (I.MoveZeroAlways dest) between ≡ after →
    cleared_fields (n - i) set len d ≡ cleared_fields (n - (i + 1)) set len after
unfolding cleared_fields then_make
cleared_step n i set len d between after dest below entry put =
    let left : n - i ≡ suc (n - (i + 1)) = omega arith in
    rw (left, entry) (ap (λ d. cleared_fields (n - (i + 1)) set len d) put)
