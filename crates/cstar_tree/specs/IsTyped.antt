-- What is known of every typed program.
use Rattle.std.specs.Prelude.{◌≡◌, ◌<◌, ◌≤◌, length}
use Rattle.cstar_tree.specs.declared.typed.Typed.{Typed}

-- each shape has its need, there are at most 64 shapes, and instance 0 exists
pub record IsTyped (t : Typed) : Type 0 where
  pub needs : length t.need.items ≡ length t.shapes.items
  pub few_shapes : length t.shapes.items ≤ 64
  pub main : 0 < length t.instances.items
