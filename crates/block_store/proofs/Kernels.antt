-- What a kernel on planes does to the planes of a block.
use Rattle.std.proofs.Common.{◌≡◌, ℕ, ◌+◌, ◌-◌, List, ◌++◌, take, drop, length, sym, ◌∙◌, ap, subst, arith}
use Rattle.std.specs.Int.{bit_at}
use Rattle.std.proofs.Math.Seq.{take-append_seam}
use Rattle.bit_planes.specs.declared.plane.Plane.{Plane}
use Rattle.bit_planes.specs.Bits.{bit}
use Rattle.bit_planes.specs.Planes.{plane_at}
use Rattle.bit_planes.proofs.Planes.{number-bits}
use Rattle.lane_kernels.specs.declared.target.Target.{Target}
use Rattle.lane_kernels.specs.Kernels.{Becomes}
use Rattle.block_store.specs.Phases.{LanesWritten}

-- a slice of a whole vector that was lent and comes back
pub refilled : {X : Type 0} (n : ℕ) (new old : List X) → n ≡ length new → take n (new ++ drop (length new) old) ≡ new
refilled n new old e = ap (λ k. take k (new ++ drop (length new) old)) e ∙ take-append_seam new (drop (length new) old)

-- a kernel's target, by its run and mask
pub put_at : (to : Target) (offset len : ℕ) (mask : List ℕ) (f : ℕ → ℕ) (old new : List Plane) → to.offset ≡ offset → to.len ≡ len → to.lanes ≡ mask → Becomes to f old new → LanesWritten offset len mask f old new
put_at to offset len mask f old new a b m done =
    subst (λ (x : List ℕ). LanesWritten offset len x f old new) m (subst (λ n. LanesWritten offset n to.lanes f old new) b (subst (λ o. LanesWritten o to.len to.lanes f old new) a record {
      long = done.long;
      inside = λ j i ib on l h.
          ap (λ k. bit (plane_at new k) i) (let e : j ≡ to.offset + (j - to.offset) = omega arith in e)
          ∙ sym (number-bits new to.offset to.len i (j - to.offset) (omega arith))
          ∙ ap (λ x. bit_at x (j - to.offset)) (done.written i ib on);
      kept = done.kept;
      outside = done.outside;
    }))
