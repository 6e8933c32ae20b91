-- `&&` and `||` of parallel operands of which the right one ignores the context: one operation on two
-- fields of one bit, under the context as it stands.
use Rattle.std.specs.Prelude.{ℕ, ◌+◌, Bool, not, ◌==◌, ◌&&◌, if◌then◌else◌}
use Rattle.cstar_tree.specs.declared.typed.TExpr.{TExpr}
use Rattle.paris_code.specs.declared.instr.Instr.TheVariants as I
use Rattle.paris_code.specs.declared.operands.Field.{Field}
use Rattle.paris_code.specs.declared.operands.Konst.TheVariants as K
use Rattle.paris_code.specs.declared.operands.Operation.{Operation}
use Rattle.paris_code.specs.declared.operands.Operation.TheVariants as Act
use Rattle.lower_base.specs.declared.emit.Out.{Out}
use Rattle.lower_base.specs.declared.emit.Out.TheVariants as O
use Rattle.lower_base.specs.Kinds.{bits_of, kind_of}
use Rattle.lower_base.specs.Drafts.{Draft, Made, Makes, then_make, with_instr, a_flag, first_bits, in_field}
use Rattle.lower_expr.specs.Operands.{ignores_context}
use Rattle.lower_expr.specs.Steps.{is_kept}

-- may the right operand be evaluated wherever the left one is
unfoldable pub joins : TExpr → TExpr → Bool
joins left right = not (is_kept left) && not (is_kept right) && ignores_context right

-- has the value one bit
abbrev pub is_flag : TExpr → Bool
is_flag e = bits_of (kind_of e) == 1

-- an operand as a field of one bit: its value, if that has one, and else the test flag
unfoldable pub flag_by : Bool → ℕ → (Draft → Made Out) → (Draft → Made (Unit {0})) → Draft → Made Field
flag_by one set code test d =
    if one then then_make (code d) (λ v after. in_field v (λ f. Makes f after))
    else then_make (test d) (λ _ between. then_make (a_flag set between) (λ f after. Makes f (with_instr (I.StoreTest f) after)))

unfoldable pub flag_length : ℕ → ℕ → TExpr → ℕ
flag_length n tested e = if is_flag e then n else tested + 1

-- the operation goes to the lowest bit of a field whose others become 0
unfoldable pub operation_of : Bool → Operation
operation_of is_or = if is_or then Act.Logior else Act.Logand

unfoldable pub cleared : Field → Draft → Draft
cleared dest d = if dest.len == 1 then d else with_instr (I.MoveConstant dest (K.Imm 0)) d

unfoldable pub joined : Bool → Field → Field → Field → Draft → Made Out
joined is_or dest left right d =
    Makes (O.Field dest) (with_instr (I.Operate (operation_of is_or) (first_bits 1 dest) left right) (cleared dest d))
