-- The meaning of expressions: from a state a value and the next state, or an end of the run.
-- Operands are evaluated from left to right. The active sets are not part of the state, so each
-- part of an expression leaves them as they were.
use Rattle.std.specs.Prelude.{ℕ, Bool, not, ◌==◌, ◌&&◌, ◌-◌, ◌^◌, List, [], ◌∷◌, map, Option, Some, None}
use Rattle.cstar_base.specs.declared.faults.RunFault.TheVariants.{DivZero}
use Rattle.cstar_base.specs.declared.operators.Combiner.{Combiner}
use Rattle.cstar_base.specs.declared.operators.Combiner.TheVariants as C
use Rattle.cstar_base.specs.declared.operators.Direction.{Direction}
use Rattle.cstar_base.specs.declared.operators.Inclusion.{Inclusion}
use Rattle.cstar_base.specs.declared.operators.Op.{Op}
use Rattle.cstar_base.specs.declared.operators.Place.{Place}
use Rattle.cstar_base.specs.declared.operators.SegmentMode.{SegmentMode}
use Rattle.cstar_base.specs.Operators.{outcome, divides}
use Rattle.cstar_tree.specs.declared.syntax.ReduceOp.{ReduceOp}
use Rattle.cstar_tree.specs.declared.typed.TExpr.{TExpr, Row_of-TExpr, end_of-TExpr, more_of-TExpr}
use Rattle.cstar_tree.specs.declared.typed.TExpr as T
use Rattle.cstar_tree.specs.declared.typed.ValueType.{ValueType}
use Rattle.cstar_tree.specs.declared.typed.Variable.{Variable}
use Rattle.cstar_tree.specs.Typed.{type_of}
use Rattle.source_meaning.specs.Gets.{Operand}
use Rattle.source_meaning.specs.Narrowing.{and_then, or_then, choose}
use Rattle.source_meaning.specs.Printing.{printed}
use Rattle.source_meaning.specs.Reductions.{reduced}
use Rattle.source_meaning.specs.Scans.{Scan, bit_at, scanned}
use Rattle.source_meaning.specs.State.{State, Outcome, Gives, Ends, InputBroken, InputEnds, InputFails, then_do, with_output}
use Rattle.source_meaning.specs.Targets.{Target, NoTarget, variable_target, element_target, indexed_target, read, assigned, stepped}
use Rattle.source_meaning.specs.Values.{Value, Scalar, Parallel, Nothing, number, at, each, Active, Scope, positions, failing, unless, convert_to, cast_through, unary_of, own_coordinate}

-- a binary operator on its operands, of which a division by 0 is a fault
unfoldable pub operated : Scope → Active → ValueType → Place → Op → Bool → Value → Value → State → Outcome Value
operated scope active ty place op unsigned v w st =
    unless (failing scope active ty.shape (λ p. divides op && at w p == 0)) DivZero place st
    (Gives (each ty.shape (λ p. outcome op 32 unsigned (at v p) (at w p))) st)

-- an operator on the value of its operand
unfoldable pub mapped : ValueType → (ℕ → ℕ) → Value → Value
mapped ty f v = each ty.shape (λ p. f (at v p))

-- a unary reduction of a value, of a type with a shape
unfoldable pub reduction_of : Scope → Active → ReduceOp → ValueType → Value → Value
reduction_of scope active op ty v =
    elim ty.shape [ None ↦ v | Some s ↦ Scalar (reduced op (not ty.elem.signed) (active s) (λ p. at v p) (positions scope s)) ]

-- a scan over a shape, at an element type; the bit that begins segments is read now
unfoldable pub scan_over : Scope → Active → ℕ → Bool → ℕ → Combiner → Direction → SegmentMode → Option Variable → Inclusion → State → Scan
scan_over scope active s unsigned axis combiner direction mode bit inclusion st = record {
  extents = scope.extents s;
  active = active s;
  combiner = combiner;
  unsigned = unsigned;
  axis = axis;
  direction = direction;
  mode = mode;
  bit = λ p. bit_at st bit p;
  inclusion = inclusion;
}

-- the scan of a value at every position of the shape of its type
unfoldable pub scan_of : Scope → Active → ValueType → ℕ → Combiner → Direction → SegmentMode → Option Variable → Inclusion → Value → State → Value
scan_of scope active ty axis combiner direction mode bit inclusion v st =
    elim ty.shape [
      | None ↦ v
      | Some s ↦ Parallel (λ p. scanned (scan_over scope active s (not ty.elem.signed) axis combiner direction mode bit inclusion st) (λ q. at v q) p)
    ]

-- the values of operands
unfoldable pub values_of : List Operand → List Value
values_of operands = map (λ operand. operand.value) operands

-- the next byte of the input; at its end -1, now and from now on
unfoldable pub next_byte : State → Outcome Value
next_byte st =
    elim st.input [
      | byte ∷ input ↦ Gives (Scalar byte) (record st { input = input })
      | [] ↦ elim st.rest [ InputEnds ↦ Gives (Scalar (2 ^ 32 - 1)) st | InputFails ↦ Ends InputBroken st ]
    ]

unfoldable mutual
  -- the value of an expression
  pub evaluated : Scope → TExpr → Active → State → Outcome Value
  evaluated scope (T.Assign' ty place op p target q value) active st =
      then_do (located scope target active st) (λ there between. then_do (evaluated scope value active between)
      (λ v after. assigned scope active place op ty (type_of value) there v after))
  evaluated scope (T.Choice' ty p test q first r second) active st =
      then_do (evaluated scope test active st)
      (λ v after. choose (type_of test).shape v (evaluated scope first) (evaluated scope second) active after)
  evaluated scope (T.LogicalOr' ty p left q right) active st =
      then_do (evaluated scope left active st) (λ v after. or_then ty.shape (type_of left).shape v (evaluated scope right) active after)
  evaluated scope (T.LogicalAnd' ty p left q right) active st =
      then_do (evaluated scope left active st) (λ v after. and_then ty.shape (type_of left).shape v (evaluated scope right) active after)
  evaluated scope (T.Binary' ty place op p left q right) active st =
      then_do (evaluated scope left active st) (λ v between. then_do (evaluated scope right active between)
      (λ w after. operated scope active ty place op (not (type_of left).elem.signed) v w after))
  evaluated scope (T.Unary' ty op p operand) active st =
      then_do (evaluated scope operand active st) (λ v after. Gives (mapped ty (unary_of op) v) after)
  evaluated scope (T.Step' ty op order p target) active st =
      then_do (located scope target active st) (λ there after. stepped scope active op order ty there after)
  evaluated scope (T.Reduce' ty op p operand) active st =
      then_do (evaluated scope operand active st) (λ v after. Gives (reduction_of scope active op (type_of operand) v) after)
  evaluated scope (T.Casts' ty elems p operand) active st =
      then_do (evaluated scope operand active st) (λ v after. Gives (mapped ty (cast_through elems.items (type_of operand).elem) v) after)
  evaluated scope (T.ParallelCast' ty p operand) active st =
      then_do (evaluated scope operand active st) (λ v after. Gives (convert_to ty (type_of operand).elem v) after)
  evaluated scope (T.Convert' ty p operand) active st =
      then_do (evaluated scope operand active st) (λ v after. Gives (convert_to ty (type_of operand).elem v) after)
  evaluated scope (T.Promote' ty p operand) active st =
      then_do (evaluated scope operand active st) (λ v after. Gives (mapped ty (λ w. w) v) after)
  evaluated scope (T.Variable ty x) active st = Gives (read st (variable_target ty.shape x 0)) st
  evaluated scope (T.Element' ty place array p index) active st =
      then_do (evaluated scope index active st) (λ v between. then_do
      (element_target scope active ty.shape place array (record { elem = (type_of index).elem; value = v }) between)
      (λ there after. Gives (read after there) after))
  evaluated scope (T.Number ty value) active st = Gives (Scalar value) st
  evaluated scope (T.Dot ty axis) active st = Gives (own_coordinate scope ty.shape axis) st
  evaluated scope (T.Brackets' ty p inner) active st = evaluated scope inner active st
  evaluated scope (T.Call' ty instance p arguments) active st =
      then_do (operands scope arguments active st) (λ given after. scope.call instance (values_of given) active after)
  evaluated scope (T.LeftIndex' ty place p indexes x of) active st =
      then_do (operands scope indexes active st) (λ given between. then_do
      (indexed_target scope active ty.shape place x of given between) (λ there after. Gives (read after there) after))
  evaluated scope (T.Pcoord ty axis) active st = Gives (own_coordinate scope ty.shape axis) st
  evaluated scope (T.PositionsOf ty shape value) active st = Gives (Scalar value) st
  evaluated scope (T.RankOf ty shape value) active st = Gives (Scalar value) st
  evaluated scope (T.DimOf ty shape axis value) active st = Gives (Scalar value) st
  evaluated scope (T.Scan' ty p source axis combiner direction mode bit inclusion) active st =
      then_do (evaluated scope source active st)
      (λ v after. Gives (scan_of scope active ty axis combiner direction mode bit inclusion v after) after)
  evaluated scope (T.Enumerate ty axis direction inclusion mode bit) active st =
      Gives (scan_of scope active ty axis C.Add direction mode bit inclusion (each ty.shape (λ _. 1)) st) st
  evaluated scope (T.Printf' ty pieces p arguments) active st =
      then_do (operands scope arguments active st)
      (λ given after. Gives Nothing (with_output (printed pieces.items (map number (values_of given))) after))
  evaluated scope (T.GetChar ty) active st = next_byte st

  -- where an expression that is assigned to stands, once for the whole assignment
  pub located : Scope → TExpr → Active → State → Outcome Target
  located scope (T.Variable ty x) active st = Gives (variable_target ty.shape x 0) st
  located scope (T.Element' ty place array p index) active st =
      then_do (evaluated scope index active st)
      (λ v after. element_target scope active ty.shape place array (record { elem = (type_of index).elem; value = v }) after)
  located scope (T.LeftIndex' ty place p indexes x of) active st =
      then_do (operands scope indexes active st) (λ given after. indexed_target scope active ty.shape place x of given after)
  located scope (T.Brackets' ty p inner) active st = located scope inner active st
  located scope _ active st = Gives NoTarget st

  -- the values of a list of expressions, with their element types
  pub operands : {n : _} → Scope → Row_of-TExpr n → Active → State → Outcome (List Operand)
  operands scope end_of-TExpr active st = Gives [] st
  operands scope (more_of-TExpr e rest) active st =
      then_do (evaluated scope e active st) (λ v between. then_do (operands scope rest active between)
      (λ given after. Gives (record { elem = (type_of e).elem; value = v } ∷ given) after))
