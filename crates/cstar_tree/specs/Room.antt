-- The room that a typed program needs on the machine, in bits for each position of a shape. The
-- rules of room are this profile's own.
use Rattle.std.specs.Prelude.{ℕ, zero, suc, ◌+◌, ◌*◌, ◌/◌, ◌^◌, ◌==◌, ◌≤◌, max, Bool, false, is_some, List, [], ◌∷◌, map, length, slice_get, Option, Some, None, if◌then◌else◌}
use Rattle.cstar_tree.specs.declared.typed.Instance.{Instance}
use Rattle.cstar_tree.specs.declared.typed.LocalVar.{LocalVar}
use Rattle.cstar_tree.specs.declared.typed.ShapeInfo.{ShapeInfo}
use Rattle.cstar_tree.specs.declared.typed.TExpr.{TExpr}
use Rattle.cstar_tree.specs.declared.typed.TExpr.TheOpen.{TExpr-F}
use Rattle.cstar_tree.specs.declared.typed.TExpr.TheFolds.{fold-TExpr}
use Rattle.cstar_tree.specs.declared.typed.TStmt.{TStmt}
use Rattle.cstar_tree.specs.declared.typed.TStmt.TheOpen.{TStmt-F}
use Rattle.cstar_tree.specs.declared.typed.TStmt.TheFolds.{fold-TStmt}
use Rattle.cstar_tree.specs.declared.typed.VarInfo.{VarInfo}
use Rattle.cstar_tree.specs.Constants.{product}
use Rattle.cstar_tree.specs.Scopes.{is_shape}
use Rattle.cstar_tree.specs.TypedParts.{calls_within, expressions_of, node_type, optional, parts_of, statements_of, total}

-- bits that only a value of the shape needs
unfoldable pub of_shape : ℕ → Option ℕ → ℕ → ℕ
of_shape shape at bits = if is_shape shape at then bits else 0

-- The room of an expression as a value, and as the target of an assignment, where a left index
-- fetches nothing. `sends` tells whether it is the targets of a send.
pub record ExpressionRoom : Type 0 where
  pub value : ℕ
  pub target : ℕ
  pub sends : Bool

-- the room of a part beside the values of as many parts before it: 33 bits for each
unfoldable pub beside : ℕ → ℕ → ℕ
beside number room = if room == 0 then 0 else 33 * number + room

-- the greatest room of parts as values, the first of them with this number
unfoldable pub greatest_part : ℕ → List ExpressionRoom → ℕ
greatest_part number [] = 0
greatest_part number (r ∷ rest) = max (beside number r.value) (greatest_part (number + 1) rest)

abbrev pub same_room : ℕ → ExpressionRoom
same_room room = record { value = room; target = room; sends = false }

-- 99 bits for a get, a send, a scan and an enumerate of the shape, 33 for any other value of it;
-- conversions and promotions need nothing beside their operand
unfoldable pub room_step : ℕ → TExpr-F ExpressionRoom → ExpressionRoom
room_step shape (TExpr-F.Assign ty p op target value) =
    same_room (of_shape shape ty.shape (if target.value.sends then 99 else 33) + max target.value.target (beside 1 value.value.value))
room_step shape (TExpr-F.Step ty op order target) = same_room (of_shape shape ty.shape 33 + target.value.target)
room_step shape (TExpr-F.Brackets ty inner) = record {
  value = of_shape shape ty.shape 33 + inner.value.value;
  target = of_shape shape ty.shape 33 + inner.value.target;
  sends = inner.value.sends;
}
room_step shape (TExpr-F.LeftIndex ty p indexes variable of) = record {
  value = of_shape shape ty.shape 99 + greatest_part 0 indexes.items;
  target = of_shape shape ty.shape 33 + greatest_part 0 indexes.items;
  sends = is_some ty.shape;
}
room_step shape (TExpr-F.Convert ty operand) = same_room operand.value.value
room_step shape (TExpr-F.Promote ty operand) = same_room operand.value.value
room_step shape (TExpr-F.Scan ty source _ _ _ _ _ _) = same_room (of_shape shape ty.shape 99 + source.value.value)
room_step shape (TExpr-F.Enumerate ty _ _ _ _ _) = same_room (of_shape shape ty.shape 99)
room_step shape node = same_room (of_shape shape (node_type node).shape 33 + greatest_part 0 (parts_of node))

unfoldable pub expression_room : ℕ → TExpr → ℕ
expression_room shape e = (fold-TExpr ExpressionRoom (room_step shape) e).value

unfoldable pub greatest : List ℕ → ℕ
greatest [] = 0
greatest (n ∷ ns) = max n (greatest ns)

-- the bits of a variable: of an array its element's bits times its length
abbrev pub times_length : ℕ → Option ℕ → ℕ
times_length bits None = bits
times_length bits (Some length) = bits * length

unfoldable pub bits_of : ℕ → VarInfo → ℕ
bits_of shape v = of_shape shape v.shape (times_length v.elem.bits v.array)

-- what a statement needs beside its parts: a block its own variables, and a context each of `where`
-- and `everywhere` under the shape
unfoldable pub own_bits : {A : Type 0} → ℕ → TStmt-F A → ℕ
own_bits shape (TStmt-F.Block locals statements) = total (map (λ (l : LocalVar). bits_of shape l.info) locals.items)
own_bits shape (TStmt-F.Where current test second third) = if current == shape then 2 else 0
own_bits shape (TStmt-F.Everywhere current body) = if current == shape then 1 else 0
own_bits shape node = 0

unfoldable pub statement_step : ℕ → TStmt-F ℕ → ℕ
statement_step shape node = own_bits shape node + max (greatest (map (expression_room shape) (expressions_of node))) (greatest (statements_of node))

unfoldable pub statement_room : ℕ → TStmt → ℕ
statement_room shape = fold-TStmt ℕ (statement_step shape)

-- 33 bits for each parameter and for the result
unfoldable pub passed_bits : ℕ → List VarInfo → ℕ
passed_bits shape [] = 0
passed_bits shape (v ∷ vs) = of_shape shape v.shape 33 + passed_bits shape vs

abbrev pub own_room : ℕ → Instance → ℕ
own_room shape i = passed_bits shape i.params.items + passed_bits shape (optional i.result) + statement_room shape i.body

-- The room of an instance, with that of the greatest that it calls, through so many calls at most.
-- Since no function leads to itself, a chain of calls meets no instance twice.
unfoldable pub with_called : ℕ → (ℕ → ℕ) → Option Instance → ℕ
with_called shape room_called None = 0
with_called shape room_called (Some i) = own_room shape i + greatest (map room_called (calls_within i.body))

unfoldable pub instance_room : ℕ → ℕ → List Instance → ℕ → ℕ
instance_room zero shape instances number = 0
instance_room (suc calls) shape instances number = with_called shape (instance_room calls shape instances) (slice_get instances number)

-- the need of a shape: 2 bits, the variables of the file, and the room of `main`
unfoldable pub need : List VarInfo → List Instance → ℕ → ℕ
need vars instances shape = 2 + total (map (bits_of shape) vars) + instance_room (length instances) shape instances 0

-- the needs of the shapes from this number on
unfoldable pub needs_from : List VarInfo → List Instance → ℕ → List ShapeInfo → List ℕ
needs_from vars instances number [] = []
needs_from vars instances number (s ∷ rest) = need vars instances number ∷ needs_from vars instances (number + 1) rest

abbrev pub needs : List ShapeInfo → List VarInfo → List Instance → List ℕ
needs shapes vars instances = needs_from vars instances 0 shapes

-- how many blocks of 512 positions a shape has
unfoldable pub blocks : List ℕ → ℕ
blocks extents = (product extents + 511) / 512

-- the bits of all shapes with these needs
unfoldable pub machine_bits : List ShapeInfo → List ℕ → ℕ
machine_bits [] _ = 0
machine_bits (s ∷ rest) [] = 0
machine_bits (s ∷ rest) (n ∷ ns) = n * 512 * blocks s.extents.items + machine_bits rest ns

-- the machine has 2 ^ 30 bits
abbrev pub HasRoom : List ShapeInfo → List ℕ → Type 0
HasRoom shapes needs = machine_bits shapes needs ≤ 2 ^ 30
