-- What the code asks of the shapes of a file.
use Rattle.std.specs.Prelude.{ℕ, ◌^◌, nat_lt, length, Option, Some, None, if◌then◌else◌}
use Rattle.cstar_tree.specs.declared.typed.ShapeInfo.{ShapeInfo}

-- how many axes a shape has, where there is such a shape
abbrev pub rank_of : Option ShapeInfo → Option ℕ
rank_of None = None
rank_of (Some info) = if nat_lt (length info.extents.items) (2 ^ 32) then Some (length info.extents.items) else None
