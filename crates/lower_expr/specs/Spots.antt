-- What can be assigned to: a variable, an element of an array, or a left-indexed variable. What
-- reads and writes it, once its index is evaluated and checked.
use Rattle.std.specs.Prelude.{ℕ, zero, suc, ◌+◌, ◌-◌, ◌^◌, Bool, true, List, [], ◌∷◌, map, slice_get, Some, None}
use Rattle.cstar_base.specs.declared.operators.Place.{Place}
use Rattle.cstar_tree.specs.declared.typed.TExpr.{TExpr}
use Rattle.cstar_tree.specs.declared.typed.Typed.{Typed}
use Rattle.cstar_tree.specs.declared.typed.ValueType.{ValueType}
use Rattle.cstar_tree.specs.declared.typed.Variable.{Variable}
use Rattle.cstar_tree.specs.Typed.{type_of}
use Rattle.paris_code.specs.declared.instr.Instr.TheVariants as I
use Rattle.paris_code.specs.declared.operands.Compare.TheVariants as C
use Rattle.paris_code.specs.declared.operands.Field.{Field}
use Rattle.paris_code.specs.declared.operands.RegisterCoordinate.{RegisterCoordinate}
use Rattle.lower_base.specs.declared.emit.Out.{Out}
use Rattle.lower_base.specs.declared.emit.Out.TheVariants as O
use Rattle.lower_base.specs.Drafts.{Draft, Made, Makes, FrontChecksTarget, then_make, from, here, with_step, with_instr, a_register, in_register, in_field}
use Rattle.lower_base.specs.Constants.{word_in}
use Rattle.lower_base.specs.Layouts.{Layout, elements_of, register_of, field_of}
use Rattle.lower_comm.specs.Messages.{communicated}
use Rattle.lower_expr.specs.declared.spots.Spot.{Spot}
use Rattle.lower_expr.specs.declared.spots.Spot.TheVariants as S
use Rattle.lower_expr.specs.Lengths.{bare}
use Rattle.lower_expr.specs.Steps.{put_value, put_in_field}

-- the spot of a variable
unfoldable pub variable_spot : Layout → ValueType → Variable → Spot
variable_spot l ty x = elim ty.shape [ None ↦ S.Register (register_of l x) | Some _ ↦ S.Whole x ]

-- a jump over the next instruction unless the index is this number
unfoldable pub skips_unless : Layout → ℕ → ℕ → Draft → Made ℕ
skips_unless l index number d =
    then_make (word_in l number d) (λ word between. then_make (a_register between)
    (λ test after. Makes test (with_instr (I.FrontJumpZero test (here after + 3)) (with_instr (I.FrontCompare C.UEq test index word) after))))

-- a copy of a field of a variable, read signed or not
unfoldable pub field_loaded : Typed → Layout → Bool → Variable → ℕ → Field → Draft → Made Out
field_loaded t l signed x element dest d =
    then_make (field_of t l x element d) (λ source after. Makes (O.Field dest) (with_instr (I.Move signed dest source) after))

-- of each of the elements from one on, that with the number in the register
unfoldable pub elements_loaded : Typed → Layout → Bool → Variable → ℕ → Field → ℕ → ℕ → Draft → Made Out
elements_loaded t l signed array index dest zero element d = Makes (O.Field dest) d
elements_loaded t l signed array index dest (suc more) element d =
    then_make (skips_unless l index element d) (λ _ between. then_make (field_loaded t l signed array element dest between)
    (λ _ after. elements_loaded t l signed array index dest more (element + 1) after))

-- the value that the spot has, in a register or a field
unfoldable pub loaded : Typed → Layout → TExpr → Spot → Out → Draft → Made Out
loaded t l target (S.Register source) dest d = in_register dest (λ r. Makes dest (with_instr (I.FrontMove r source) d))
loaded t l target (S.Whole x) dest d =
    in_field dest (λ f. field_loaded t l (type_of target).elem.signed x 0 f d)
loaded t l target (S.Element array index) dest d =
    in_field dest (λ f. elements_loaded t l (type_of target).elem.signed array index f (elements_of t l array) 0 d)
loaded t l target (S.Indexed at) dest d = then_make (communicated t l (bare target) at [] dest d) (λ _ after. Makes dest after)

-- a value copied to a field of a variable
unfoldable pub field_stored : Typed → Layout → Variable → ℕ → Out → Draft → Made Out
field_stored t l x element v d =
    then_make (field_of t l x element d) (λ dest between. then_make (put_in_field dest v between) (λ _ after. Makes v after))

unfoldable pub elements_stored : Typed → Layout → Variable → ℕ → Out → ℕ → ℕ → Draft → Made Out
elements_stored t l array index v zero element d = Makes v d
elements_stored t l array index v (suc more) element d =
    then_make (skips_unless l index element d) (λ _ between. then_make (field_stored t l array element v between)
    (λ _ after. elements_stored t l array index v more (element + 1) after))

-- a value becomes that of the spot, at the active positions; the expression is the assignment
unfoldable pub stored : Typed → Layout → TExpr → Spot → Out → Draft → Made Out
stored t l e (S.Register dest) v d = then_make (put_value (O.Scalar dest) v d) (λ _ after. Makes v after)
stored t l e (S.Whole x) v d = field_stored t l x 0 v d
stored t l e (S.Element array index) v d = elements_stored t l array index v (elements_of t l array) 0 d
stored t l e (S.Indexed at) v d = then_make (communicated t l e at (v ∷ []) O.Nothing d) (λ _ after. Makes v after)

-- one coordinate for each axis, all in this register
unfoldable pub everywhere_at : ℕ → List ℕ → List RegisterCoordinate
everywhere_at register extents = map (λ _. record { register = register; signed = true }) extents

-- the range check of a right index: outside, coordinates of -1 are checked, which fails
unfoldable pub index_checked : Typed → Layout → Variable → ℕ → Place → ℕ → Draft → Made ℕ
index_checked t l array set place index d =
    then_make (word_in l (elements_of t l array) d) (λ limit between. then_make (a_register between) (λ test after.
    from (slice_get t.shapes.items set) (λ info. Makes test
    (with_step (FrontChecksTarget set place (everywhere_at test info.extents.items))
    (with_instr (I.FrontConst test (2 ^ 32 - 1)) (with_instr (I.FrontJumpNonzero test (here after + 4))
    (with_instr (I.FrontCompare C.ULt test index limit) after)))))))
