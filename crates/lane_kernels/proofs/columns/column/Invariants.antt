use Rattle.std.proofs.Common.{ℕ, ◌≡◌, ◌<◌, length}
use Rattle.bit_planes.specs.Planes.{plane_at}
use Rattle.lane_kernels.proofs.columns.column.Given as goal

abbrev pub invariant-loop-j : goal.invariant-loop-j
invariant-loop-j l = record {
  long : length l.first ≡ 32;
  copied : (k : ℕ) → k < l.j → plane_at l.first k ≡ plane_at l.planes k;
}
