use Rattle.std.proofs.Common.{◌≡◌, ◌%◌, cond, sym, ◌∙◌, ap, subst, w64, arith}
use Rattle.std.proofs.lemmas.Int.{to_z-of_z}
use Rattle.bit_planes.specs.Bits.{bit}
use Rattle.cstar_base.specs.Numbers.{number_of}
use Rattle.paris_code.specs.declared.operands.Coordinate.{Coordinate}
use Rattle.paris_code.specs.Arguments.{coordinate_whole}
use Rattle.paris_code.specs.Checking.{is_outside}
use Rattle.paris_code.specs.Memory.{whole_number}
use Rattle.elementwise.specs.Blocks.{block_memory}
use Rattle.elementwise.proofs.Kernels.{field_number_is}
use Rattle.elementwise.proofs.failures.coordinate_outside.Goals as goal
use Rattle.elementwise.proofs.failures.coordinate_outside.Goals.{in-Field, in-Reg}

pub returns : goal.returns
unfolding whole_number
returns c = λ p.
    let family : Coordinate → Type 0 = λ k. bit c.match-checked.result (p % 512) ≡ cond (is_outside c.args.extent (coordinate_whole (block_memory c.args.planes.now) c.args.checked.signed k c.args.args.now p)) 1 0 in
    elim c.match-checked.branch [
      | in-Field w ↦ subst family (sym w.in-Field.is) (ap (λ v. bit v (p % 512)) w.result-is ∙ w.field_outside.ensures (p % 512) (omega arith)
          ∙ ap (λ x. cond (is_outside c.args.extent (number_of w.in-Field.f.len c.args.checked.signed x)) 1 0) (field_number_is c.args.planes.now w.in-Field.f p))
      | in-Reg w ↦ subst family (sym w.in-Reg.is) (ap (λ v. bit v (p % 512)) w.result-is ∙ w.repeated.ensures (p % 512) (omega arith)
          ∙ ap (λ t. cond t 1 0) (w.is_outside.ensures ∙ ap (is_outside c.args.extent) (to_z-of_z w64 w.whole.result (record { sfits = w.whole.type_inv }) ∙ w.whole.ensures ∙ ap (number_of 32 c.args.checked.signed) w.next.ensures)))
    ]
