use Rattle.std.proofs.Common.{◌≡◌, ℕ, ◌<◌, length}
use Rattle.std.specs.List.{slice_index}
use Rattle.paris_code.specs.Units.{starts_of, unit_of}
use Rattle.image_check.specs.Tables.{AreBegun}
use Rattle.image_check.proofs.units.unit_numbers.Given as goal

abbrev pub invariant-loop-place : goal.invariant-loop-place
invariant-loop-place l =
    (length l.numbers.items ≡ l.place)
    × AreBegun (starts_of l.image) l.count l.place
    × ((k : ℕ) → k < l.place → slice_index l.numbers.items k ≡ unit_of l.image k)
