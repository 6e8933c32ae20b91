-- What the scalar instructions compute, on words of 32 bits.
use Rattle.std.specs.Prelude.{ℕ, pos, neg_ℤ, ◌-◌, ◌^◌, ◌%◌, ◌||◌, Bool, false, List, [], ◌∷◌, map, slice_index, Option, Some, None, unwrap_or}
use Rattle.vp_sets.specs.Positions.{number_at}
use Rattle.cstar_base.specs.declared.elem.Elem.{Elem}
use Rattle.cstar_base.specs.Numbers.{number_of, residue, converted}
use Rattle.cstar_base.specs.Operators.{operate}
use Rattle.paris_code.specs.declared.instr.Instr.{Instr}
use Rattle.paris_code.specs.declared.instr.Instr.TheVariants as I
use Rattle.paris_code.specs.declared.operands.Operation.{Operation}
use Rattle.paris_code.specs.declared.operands.Compare.{Compare}
use Rattle.paris_code.specs.declared.operands.RegisterCoordinate.{RegisterCoordinate}
use Rattle.paris_code.specs.Checking.{is_outside}
use Rattle.paris_code.specs.Operands.{register_of}
use Rattle.paris_code.specs.Operators.{operator_of, comparison_of}
use Rattle.paris_code.specs.Sending.{word_kind}
use Rattle.paris_code.specs.Shapes.{SetShape, extents_at}

-- an operation; a division by 0 gives 0
unfoldable pub operated : Operation → ℕ → ℕ → ℕ
operated op x y = unwrap_or (operate (operator_of op).0 (operator_of op).1 x y) 0

-- 1 where the relation holds, else 0
unfoldable pub compared : Compare → ℕ → ℕ → ℕ
compared relation x y = unwrap_or (operate (comparison_of relation).0 (comparison_of relation).1 x y) 0

-- a word converted to a type and promoted again
unfoldable pub rounded : Elem → ℕ → ℕ
rounded kind x = converted word_kind kind (converted kind word_kind x)

-- the row-major number of registers as coordinates, as a word
unfoldable pub address_of : List ℕ → List ℕ → List ℕ → ℕ
address_of extents coordinates registers = number_at extents (map (λ r. slice_index registers r) coordinates) % 2 ^ 32

-- the register that a scalar instruction sets, and its value
abbrev pub computed : List SetShape → Instr → List ℕ → Option (ℕ × ℕ)
computed shapes (I.FrontConst r n) registers = Some (r, n)
computed shapes (I.FrontMove r x) registers = Some (r, slice_index registers x)
computed shapes (I.FrontOperate op r x y) registers = Some (r, operated op (slice_index registers x) (slice_index registers y))
computed shapes (I.FrontCompare relation r x y) registers = Some (r, compared relation (slice_index registers x) (slice_index registers y))
computed shapes (I.FrontNegate r x) registers = Some (r, residue 32 (neg_ℤ (pos (slice_index registers x))))
computed shapes (I.FrontLognot r x) registers = Some (r, 2 ^ 32 - 1 - slice_index registers x)
computed shapes (I.FrontConvert r x kind) registers = Some (r, rounded kind (slice_index registers x))
computed shapes (I.FrontMakeAddress r set coordinates) registers = Some (r, address_of (extents_at shapes set) coordinates.items registers)
computed shapes _ registers = None

-- is a register read in two's complement
abbrev pub is_read_signed : RegisterCoordinate → Bool
is_read_signed c = c.signed

-- a register, read by its own sign, is no coordinate of its axis
unfoldable pub any_register_outside : List ℕ → List RegisterCoordinate → List ℕ → Bool
any_register_outside [] list registers = false
any_register_outside (extent ∷ extents) [] registers = false
any_register_outside (extent ∷ extents) (c ∷ rest) registers =
    is_outside extent (number_of 32 (is_read_signed c) (slice_index registers (register_of c))) || any_register_outside extents rest registers
