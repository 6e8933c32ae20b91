-- The code of a call: the called instance's result and parallel parameters become zero, the
-- parameters take the arguments, a turn is spent, and the result is copied back.
use Rattle.std.specs.Prelude.{ℕ, ◌+◌, List, [], ◌∷◌, slice_get, Option, Some, None}
use Rattle.cstar_tree.specs.declared.typed.Typed.{Typed}
use Rattle.cstar_tree.specs.declared.typed.VarInfo.{VarInfo}
use Rattle.paris_code.specs.declared.instr.Instr.TheVariants as I
use Rattle.paris_code.specs.declared.operands.Field.{Field}
use Rattle.paris_code.specs.declared.program.Owner.TheVariants as W
use Rattle.lower_base.specs.declared.emit.Out.{Out}
use Rattle.lower_base.specs.declared.emit.Out.TheVariants as O
use Rattle.lower_base.specs.Drafts.{Draft, Made, Makes, then_make, from, with_instr, an_entry, in_register, in_field}
use Rattle.lower_base.specs.Layouts.{Layout}
use Rattle.lower_expr.specs.Steps.{put_value, put_in_field}

-- a turn, and the call
unfoldable pub turn_and_call : ℕ → Draft → Draft
turn_and_call unit d = with_instr (I.FrontCall unit) (with_instr I.FrontTurn d)

-- an entry for a field of the called unit, zero everywhere
unfoldable pub zeroed_entry : ℕ → ℕ → ℕ → ℕ → Draft → Made Field
zeroed_entry unit set bits index d =
    then_make (an_entry set bits (W.Of unit index) d) (λ f after. Makes f (with_instr (I.MoveZeroAlways f) after))

-- the call and its result, which stands in this register or is this entry of the called unit
unfoldable pub register_given : ℕ → ℕ → Out → Draft → Made Out
register_given unit source dest d =
    in_register dest (λ r. Makes dest (with_instr (I.FrontMove r source) (turn_and_call unit (with_instr (I.FrontConst source 0) d))))

unfoldable pub field_given : ℕ → VarInfo → ℕ → ℕ → Out → Draft → Made Out
field_given unit info set index dest d =
    then_make (zeroed_entry unit set info.elem.bits index d) (λ source after. in_field dest
    (λ f. Makes dest (with_instr (I.Move info.elem.signed f source) (turn_and_call unit after))))

unfoldable pub result_given : ℕ → VarInfo → ℕ → ℕ → Out → Draft → Made Out
result_given unit info register index dest d = elim info.shape [
  | None ↦ register_given unit register dest d
  | Some set ↦ field_given unit info set index dest d
]

unfoldable pub finished : ℕ → Option VarInfo → ℕ → ℕ → Out → Draft → Made Out
finished unit None register index dest d = Makes O.Nothing (turn_and_call unit d)
finished unit (Some info) register index dest d = result_given unit info register index dest d

-- a parameter takes its argument; the answer is the number of the next parallel one
unfoldable pub argument_passed : ℕ → VarInfo → ℕ → ℕ → Out → Draft → Made ℕ
argument_passed unit param register index v d = elim param.shape [
  | None ↦ then_make (put_value (O.Scalar register) v d) (λ _ after. Makes index after)
  | Some set ↦ then_make (zeroed_entry unit set param.elem.bits index d) (λ place between.
      then_make (put_in_field place v between) (λ _ after. Makes (index + 1) after))
]

-- each parameter takes its argument, and then the instance is called
unfoldable pub passed : ℕ → Option VarInfo → List VarInfo → List Out → ℕ → ℕ → Out → Draft → Made Out
passed unit outcome [] vs register index dest d = finished unit outcome register index dest d
passed unit outcome (param ∷ params) [] register index dest d = finished unit outcome register index dest d
passed unit outcome (param ∷ params) (v ∷ vs) register index dest d =
    then_make (argument_passed unit param register index v d)
    (λ next after. passed unit outcome params vs (register + 1) next dest after)

-- a call of an instance with these arguments
unfoldable pub called : Typed → Layout → ℕ → List Out → Out → Draft → Made Out
called t l unit arguments dest d =
    from (slice_get t.instances.items unit) (λ callee. from (slice_get l.bases unit)
    (λ base. passed unit callee.result callee.params.items arguments base 0 dest d))
