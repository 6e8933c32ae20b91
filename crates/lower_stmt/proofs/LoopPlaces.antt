-- Where a loop's turn is that begins behind a jump.
use Rattle.std.proofs.Common.{◌≡◌, ◌+◌, [], ◌∷◌, length-append, arith}
use Rattle.paris_code.specs.declared.instr.Instr.{Instr}
use Rattle.lower_base.specs.Drafts.{Draft, here, step, with_instr, with_step}

pub here_more : (instr : Instr) (d : Draft) → here (with_instr instr d) ≡ here d + 1
unfolding here with_instr with_step
here_more instr d = omega (arith, length-append d.code (step instr ∷ []))
