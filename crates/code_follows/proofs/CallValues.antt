-- A call as a value: its arguments, and its result.
use Rattle.std.proofs.Common.{ℕ, Bool, true, [], Option, Some, sym, subst, arith, Vec, Global}
use mathlib.Core.Former.{Count}
use Rattle.cstar_tree.specs.declared.typed.TExpr.{Row_of-TExpr, end_of-TExpr, more_of-TExpr}
use Rattle.cstar_tree.specs.declared.typed.TExpr as T
use Rattle.cstar_tree.specs.declared.typed.ValueType.{ValueType}
use Rattle.cstar_tree.specs.declared.typed.Variable.{Variable}
use Rattle.cstar_tree.specs.declared.typed.Variable.TheVariants as V
use Rattle.code_lengths.specs.Lowerable.{AreLowerable, IsLowerable}
use Rattle.code_lengths.specs.Naming.{AllNameVariables, NamesVariables}
use Rattle.code_lengths.specs.Ready.{HasCode, HaveCode, IsReadyButForFields}
use Rattle.code_lengths.specs.Shaped.{AreShaped, IsShaped}
use Rattle.code_lengths.proofs.Agreeing.{lengths_if_made}
use Rattle.lower_base.specs.Drafts.{Draft, a_register, fresh_for, then_make}
use Rattle.lower_expr.specs.Operands.{are_quiet}
use Rattle.lower_expr.specs.Values.{call_to, values_of, value_of}
use Rattle.source_meaning.specs.Expressions.{evaluated}
use Rattle.source_meaning.specs.Values.{Active, Scope}
use Rattle.code_follows.specs.Fragment.{IsScalarType, elems_of}
use Rattle.code_follows.proofs.Arguments.{AreDone}
use Rattle.code_follows.proofs.Passing.{call_follows, fresh_called}
use Rattle.code_follows.proofs.Callees.{CallsFollow}
use Rattle.code_follows.proofs.Following.{Extends, Follows, HasRegisters}
use Rattle.code_follows.proofs.Settings.{begun_later, Setting, layout}
use Rattle.code_follows.proofs.Values.{and_register, Does, Value_of, extends_grown, fresh_dest, with_reg}
use Rattle.code_follows.proofs.Fresh.{IsFresh}

module _ (g : Setting) (has : HasRegisters g) (alive : Variable → Type 0) (n : ℕ) (files : (k : ℕ) → alive (V.File k)) (ready : (d : Draft) → IsReadyButForFields g.typed g.instance (layout g) n d) (scope : Scope) (active : Active) (calls_follow : CallsFollow g scope active) where
  -- a call's arguments have code, one for each parameter
  pub arguments_code : {k : Count} (row : Row_of-TExpr k) → AreShaped row → AreLowerable g.typed row → AllNameVariables g.typed g.instance n row → HaveCode g.typed g.instance n row
  unfolding HaveCode AreShaped AreLowerable AllNameVariables
  arguments_code end_of-TExpr shaped lowerable names = tt
  arguments_code (more_of-TExpr e rest) shaped lowerable names = (record { shaped = shaped.0; lowerable = lowerable.0; names = names.0 }, arguments_code rest shaped.1 lowerable.1 names.1)

  pub call_code : (ty : ValueType) (index : ℕ) (p : Vec (Unit {0}) Global) (row : _) → HasCode g.typed g.instance n (T.Call' ty index p row) → HaveCode g.typed g.instance n row
  unfolding IsShaped IsLowerable NamesVariables
  call_code ty index p row c = arguments_code row c.shaped c.lowerable.1 c.names

  arguments_grown : (own quiet : Bool) {k : Count} (row : Row_of-TExpr k) → HaveCode g.typed g.instance n row → (d : Draft) → Extends g d (values_of g.typed (layout g) own quiet row [] d)
  arguments_grown own quiet {k} row c d = extends_grown g has alive _ d _ _ ((lengths_if_made g.typed g.instance (layout g)).list own quiet n k row d c (ready d))

  pub fresh_call : (bits : ℕ) (ty : ValueType) (index : ℕ) (p : Vec (Unit {0}) Global) (row : _) → IsScalarType ty → g.may.calls (Some ty.elem) index (elems_of row) → HasCode g.typed g.instance n (T.Call' ty index p row) → (d : Draft) → IsFresh d (value_of g.typed (layout g) bits (T.Call' ty index p row) d)
  unfolding value_of fresh_for a_register then_make
  fresh_call bits ty index p row plain may c d =
      subst (λ (o : Option ℕ). IsFresh d (then_make (fresh_for o bits d) (λ dest begun. call_to g.typed (layout g) index (values_of g.typed (layout g) true (are_quiet row) row) dest begun))) (sym plain)
      (fresh_called g has alive (calls_follow.value ty.elem index (elems_of row) may).0.0 (values_of g.typed (layout g) true (are_quiet row) row) d.regs d (with_reg d) (omega arith) (omega arith) (arguments_grown true (are_quiet row) row (call_code ty index p row c) (with_reg d)))

  pub call_value : (quiet : Bool) (bits : ℕ) (ty : ValueType) (index : ℕ) (p : Vec (Unit {0}) Global) (row : _) → IsScalarType ty → g.may.calls (Some ty.elem) index (elems_of row) → AreDone g has alive scope active true (are_quiet row) row → HasCode g.typed g.instance n (T.Call' ty index p row) → Does g has alive ty.elem quiet (λ st. evaluated scope (T.Call' ty index p row) active st) (λ d. value_of g.typed (layout g) bits (T.Call' ty index p row) d)
  unfolding value_of evaluated fresh_for a_register then_make
  call_value quiet bits ty index p row plain may done c d s st free here sim =
      let known = calls_follow.value ty.elem index (elems_of row) may in
      let result = known.1.1 in
      subst (λ (o : Option ℕ). Follows g (Value_of g has alive ty.elem quiet d s) s (evaluated scope (T.Call' ty index p row) active st) (then_make (fresh_for o bits d) (λ dest begun. call_to g.typed (layout g) index (values_of g.typed (layout g) true (are_quiet row) row) dest begun))) (sym plain)
      (call_follows g has alive files scope active calls_follow known.0.0 row done known.0.1 result.0 result.1.0 ty.elem result.1.1 (with_reg d) s st (Value_of g has alive ty.elem quiet d s) d.regs (begun_later g alive d (with_reg d) 0 (and_register d) free) here sim (fresh_dest g has alive ty.elem quiet d s free))
