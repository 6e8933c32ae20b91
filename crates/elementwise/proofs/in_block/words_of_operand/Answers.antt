use Rattle.std.proofs.Common.{◌∙◌, bit_and, sym, ap}
use Rattle.std.proofs.lemmas.Nat.{and_mask}
use Rattle.lane_kernels.specs.declared.target.Operand.{Operand}
use Rattle.lane_kernels.specs.Kernels.{operand_of}
use Rattle.elementwise.proofs.in_block.words_of_operand.Goals as goal

pub returns-in-Constant : goal.returns-in-Constant
returns-in-Constant c = λ i b.
    c.all_lanes.ensures i b ∙ ap (λ m. bit_and c.in-Constant.number m) c.mask.ensures ∙ and_mask c.in-Constant.number c.args.len
    ∙ ap (λ (a : Operand). operand_of a c.args.block.now.planes.items c.args.len i) (sym c.in-Constant.is)
