-- There is code for an expression, a statement and a unit that has what it relies on. It is as long as
-- described, and only appends: what the unit had is as it was, and the jumps that were written by these
-- lengths lead behind the code.
use Rattle.std.specs.Prelude.{◌≡◌, ◌≤◌, ◌==◌, ℕ, ◌+◌, Bool, true, false, if◌then◌else◌, List, [], length, slice_get, Some}
use Rattle.std.specs.List.{AllZip}
use mathlib.Core.Former.{Count}
use Rattle.cstar_tree.specs.declared.typed.Instance.{Instance}
use Rattle.cstar_tree.specs.declared.typed.TExpr.{TExpr, Row_of-TExpr, items-the_row-TExpr}
use Rattle.cstar_tree.specs.declared.typed.TStmt.{TStmt}
use Rattle.cstar_tree.specs.declared.typed.Typed.{Typed}
use Rattle.cstar_tree.specs.Typed.{type_of}
use Rattle.paris_code.specs.declared.operands.Field.{Field}
use Rattle.lower_base.specs.declared.emit.Out.{Out}
use Rattle.lower_base.specs.declared.emit.Out.TheVariants as O
use Rattle.lower_base.specs.Drafts.{Draft, Made, Makes, here, then_make}
use Rattle.lower_base.specs.Layouts.{Layout, layout_of}
use Rattle.lower_expr.specs.declared.spots.Spot.{Spot}
use Rattle.lower_expr.specs.Effects.{effect_of, effect_length_of, put_to, put_length}
use Rattle.lower_expr.specs.Lengths.{length_of, lengths_of, spot_length_of, tested_length}
use Rattle.lower_expr.specs.Operands.{operand_by, operand_length}
use Rattle.lower_expr.specs.Values.{value_of, values_of, spot_of, tested}
use Rattle.lower_stmt.specs.declared.statement.Frame.{Frame}
use Rattle.lower_stmt.specs.Frames.{has_result}
use Rattle.lower_stmt.specs.Lengths.{body_length_of, statement_length_of}
use Rattle.lower_stmt.specs.Programs.{begun, blank, body_frame, outcome_of, own_fields_of, own_result_of, unit_of, units_of}
use Rattle.lower_stmt.specs.Statements.{ends_in_return, statement_of}
use Rattle.code_lengths.specs.Growth.{Advanced, Extended, Grows, GrowsOr, Leads, Stands, Anything}
use Rattle.code_lengths.specs.Lowerable.{GivesValue, InField, InRegister}
use Rattle.code_lengths.specs.NamingStatements.{behind}
use Rattle.code_lengths.specs.Ready.{Arrives, Declares, HasCode, HasDeclared, HasPlainParameters, HasStatementCode, HaveCode, IsCodable, IsPlace, IsReadyOr, NumbersVariables}
use Rattle.code_lengths.specs.Shaped.{HasShape}

-- The code of an expression that has some, in a unit that is ready for it, or where this is so in one that lacks
-- fields, however many bits of it are wanted: its value, which stands in a register exactly where it is kept there; the same as an operand,
-- copied or where it stands; the values of a list; what locates a target; its effect, where the value is
-- not used; its test; and its value put in a register, if it stands in one, or in a field of any length,
-- if it has a shape.
pub record ExpressionLengths (lacks : Type 0) (t : Typed) (i : Instance) (l : Layout) : Type 0 where
  pub value : (bits n : ℕ) (e : TExpr) (d : Draft) → HasCode t i n e → IsReadyOr lacks t i l n d → GrowsOr lacks d (length_of t l bits e) (Arrives t e) (value_of t l bits e d)
  pub operand : (bits n : ℕ) (quiet : Bool) (e : TExpr) (d : Draft) → HasCode t i n e → IsReadyOr lacks t i l n d →
      GrowsOr lacks d (operand_length l bits (length_of t l bits e) quiet e) (Arrives t e) (operand_by t l bits (value_of t l bits e) quiet e d)
  pub list : (own quiet : Bool) (n : ℕ) (k : Count) (row : Row_of-TExpr k) (d : Draft) → HaveCode t i n row → IsReadyOr lacks t i l n d →
      GrowsOr lacks d (lengths_of t l own quiet row) (λ (given : List Out). AllZip (Arrives t) (items-the_row-TExpr k row) given) (values_of t l own quiet row [] d)
  pub spot : (n : ℕ) (e : TExpr) (d : Draft) → IsPlace t i n e → IsReadyOr lacks t i l n d → GrowsOr lacks d (spot_length_of t l e) (λ (s : Spot). Anything s) (spot_of t l e d)
  pub effect : (n : ℕ) (e : TExpr) (d : Draft) → HasCode t i n e → IsReadyOr lacks t i l n d → GrowsOr lacks d (effect_length_of t l e) (λ (v : Out). Anything v) (effect_of t l e d)
  pub test : (n : ℕ) (e : TExpr) (d : Draft) → HasCode t i n e → InField t e → IsReadyOr lacks t i l n d → GrowsOr lacks d (tested_length t l e) (λ (u : Unit {0}). Anything u) (tested t l e d)
  pub put_register : (r n : ℕ) (e : TExpr) (d : Draft) → HasCode t i n e → InRegister t e → IsReadyOr lacks t i l n d → GrowsOr lacks d (put_length t l true 32 e) (Stands true) (put_to t l (O.Scalar r) e d)
  pub put_field : (f : Field) (n : ℕ) (e : TExpr) (d : Draft) → HasCode t i n e → GivesValue t e → HasShape (type_of e) → IsReadyOr lacks t i l n d →
      GrowsOr lacks d (put_length t l false f.len e) (Stands false) (put_to t l (O.Field f) e d)

abbrev pub ExpressionsAreAsLongAsDescribed : Type 0
ExpressionsAreAsLongAsDescribed = (t : Typed) (i : Instance) (l : Layout) → ExpressionLengths ⊥ t i l

-- a statement stands among as many saved contexts as its frame says
pub record StandsAmong (f : Frame) (contexts : List Field) : Type 0 where
  pub loop : f.saved.in_loop ≤ length contexts
  pub all : f.saved.in_all ≡ length contexts

-- The code of a statement of an instance, in a unit that has declared the variables before it: behind it those
-- of its blocks are declared too.
abbrev pub StatementsAreAsLongAsDescribed : Type 0
StatementsAreAsLongAsDescribed =
    (t : Typed) (i : Instance) (l : Layout) (s : TStmt) (f : Frame) (contexts : List Field) (n : ℕ) (d : Draft) →
    NumbersVariables i l → f.outcome ≡ outcome_of i.result → StandsAmong f contexts → HasStatementCode t i n s → HasDeclared t i l n d →
    Leads d (statement_length_of t l (has_result f) f.saved s) (Declares t i l (behind n s)) (statement_of t l s f contexts n d)

-- what a unit begins with: the entries of its parameters and of its result, and in `main` the constants
-- and the values that the file's variables begin with
unfoldable pub opening_of : Typed → Layout → Bool → ℕ → Instance → Made (Unit {0})
opening_of t l is_main regs instance =
    then_make (own_fields_of instance.params.items (blank instance.name regs))
    (λ _ d. then_make (own_result_of instance.result d) (λ _ ready. begun t l is_main ready))

-- the body of an instance, and the instruction that ends it where it does not end itself
unfoldable pub end_length : TStmt → ℕ
end_length body = if ends_in_return body then 0 else 1

unfoldable pub whole_length : Typed → Layout → Frame → TStmt → ℕ
whole_length t l f body = body_length_of t l f.is_main (has_result f) f.saved body + end_length body

-- The unit of an instance: behind what it begins with stand its body, as long as described, and the
-- instruction that ends it.
pub record HasUnit (t : Typed) (l : Layout) (is_main : Bool) (regs : ℕ) (instance : Instance) : Type 0 where
  pub start : Draft
  pub unit : Draft
  pub begins : opening_of t l is_main regs instance ≡ Makes tt start
  pub made : unit_of t l is_main regs instance ≡ Makes tt unit
  pub rest : Advanced start (whole_length t l (body_frame is_main instance) instance.body) unit

abbrev pub UnitsAreAsLongAsDescribed : Type 0
UnitsAreAsLongAsDescribed =
    (t : Typed) (words : List ℕ) (number : ℕ) (is_main : Bool) (regs : ℕ) (instance : Instance) → slice_get t.instances.items number ≡ Some instance →
    HasPlainParameters instance → HasStatementCode t instance 0 instance.body → HasUnit t (layout_of t words number) is_main regs instance

-- The units of a program: no instance is left out, and the unit of each stands at its number.
pub record HasUnits (t : Typed) (words : List ℕ) (regs : ℕ) : Type 0 where
  pub all : length (units_of t words t.instances.items 0 regs) ≡ length t.instances.items
  pub each : (number : ℕ) (instance : Instance) → slice_get t.instances.items number ≡ Some instance →
      (first : ℕ) × (own : HasUnit t (layout_of t words number) (number == 0) first instance) × (slice_get (units_of t words t.instances.items 0 regs) number ≡ Some own.unit)

abbrev pub ProgramsHaveCode : Type 0
ProgramsHaveCode = (t : Typed) (words : List ℕ) (regs : ℕ) → IsCodable t → HasUnits t words regs

-- the place behind a piece of code, to which a jump over it leads, is that before it and its length
abbrev pub CodeEndsWhereItsLengthSays : Type 0
CodeEndsWhereItsLengthSays = (before after : Draft) (n : ℕ) → Extended before n after → here after ≡ here before + n
