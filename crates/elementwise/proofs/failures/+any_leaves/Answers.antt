use Rattle.std.proofs.Common.{◌≡◌, ℕ, ◌+◌, ◌*◌, ◌+ℤ◌, pos, cond, List, sym, ◌∙◌, ap, w32}
use Rattle.std.specs.Prelude.{slice_index}
use Rattle.std.proofs.lemmas.Int.{to_z-of_z}
use Rattle.bit_planes.specs.Bits.{bit}
use Rattle.vp_sets.specs.Positions.{coordinate}
use Rattle.paris_code.specs.declared.operands.Konst.{Konst}
use Rattle.paris_code.specs.Arguments.{konst_number}
use Rattle.paris_code.specs.Checking.{any_leaves, is_outside}
use Rattle.elementwise.proofs.Outside.{leaves_none, leaves_one}
use Rattle.elementwise.proofs.failures.+any_leaves.Goals as goal
use Rattle.elementwise.proofs.failures.+any_leaves.Goals.{in-None, in-Some, in-Imm, in-Reg}

pub returns : goal.returns
returns t c = λ i b.
    let xs : List ℕ = c.args.geometry.now in
    let args : List ℕ = c.args.args.now in
    let p : ℕ = 512 * c.args.k + i in
    elim c.match-split_first.branch [
      | in-None w ↦ leaves_none xs c.args.steps.now args p (bit c.match-split_first.result i) w.in-None.ensures.cases (ap (λ v. bit v i) w.result-is ∙ w.repeated.ensures i b)
      | in-Some w ↦
          let step = w.in-Some.step.now in
          let by : w.match-step.by ≡ konst_number step.step args = elim w.match-step.branch [
            | in-Imm w' ↦ w'.by-is ∙ sym (ap (λ (k : Konst). konst_number k args) w'.in-Imm.is)
            | in-Reg w' ↦ w'.by-is ∙ w'.next-by.ensures ∙ sym (ap (λ (k : Konst). konst_number k args) w'.in-Reg.is)
          ] in
          leaves_one xs c.args.steps.now w.in-Some.rest.now step args p w.match-step.by (bit w.step_leaves-here.result i) (bit w.any_leaves-others.result i) (bit c.match-split_first.result i)
          w.in-Some.ensures.cases.0 by
          (w.step_leaves-here.ensures i b ∙ ap (λ z. cond (is_outside (slice_index xs step.axis) (pos (coordinate xs p step.axis) +ℤ z)) 1 0) (to_z-of_z w32 w.signed.result (record { sfits = w.signed.type_inv }) ∙ w.signed.ensures))
          (w.any_leaves-others.ensures i b ∙ ap (λ (a : List ℕ). cond (any_leaves xs w.in-Some.rest.now a p) 1 0) w.behind_step.ensures)
          (ap (λ v. bit v i) w.result-is ∙ w.either.ensures i b)
    ]
