use Rattle.std.proofs.Common.{◌≡◌, ℕ, ◌*◌, ◌<◌}
use Rattle.bit_planes.specs.Bits.{bit}
use Rattle.bit_planes.proofs.plane.is_empty.Given as goal

-- where nothing was seen, no lane of the words so far is 1
abbrev pub invariant-words : goal.invariant-words
invariant-words l = l.seen ≡ 0 → (i : ℕ) → i < 64 * l.j → bit l.fn.a i ≡ 0
