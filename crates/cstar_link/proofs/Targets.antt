-- The targets of moved instructions.
use Rattle.std.proofs.Common.{◌≡◌, ℕ, ◌+◌, refl}
use Rattle.std.specs.Prelude.{option_map}
use Rattle.paris_code.specs.declared.instr.Instr.{Instr}
use Rattle.paris_code.specs.declared.instr.Instr.TheVariants as I
use Rattle.paris_code.specs.Rows.{target_of}
use Rattle.cstar_link.specs.Linked.{moved_by}

pub targets_move : (start : ℕ) (instr : Instr) → target_of (moved_by start instr) ≡ option_map (λ target. target + start) (target_of instr)
targets_move start (I.FrontJump target) = refl
targets_move start (I.FrontJumpZero test target) = refl
targets_move start (I.FrontJumpNonzero test target) = refl
targets_move start _ = refl
