-- The evaluation of expressions with more turns, where calls go on.
use Rattle.std.proofs.Common.{◌≡◌, ◌∙◌, ℕ, ◌-◌, ◌^◌, Bool, List, [], ◌∷◌, Option, Some, None, refl, sym, subst, ap, arith}
use mathlib.Core.Former.{Count}
use Rattle.cstar_base.specs.declared.faults.RunFault.TheVariants.{DivZero, Index as RunIndex}
use Rattle.cstar_base.specs.declared.operators.Combiner.{Combiner}
use Rattle.cstar_base.specs.declared.operators.Combiner.TheVariants as C
use Rattle.cstar_base.specs.declared.operators.Direction.{Direction}
use Rattle.cstar_base.specs.declared.operators.Inclusion.{Inclusion}
use Rattle.cstar_base.specs.declared.operators.Op.{Op}
use Rattle.cstar_base.specs.declared.operators.Place.{Place}
use Rattle.cstar_base.specs.declared.operators.SegmentMode.{SegmentMode}
use Rattle.cstar_tree.specs.declared.syntax.AssignOp.{AssignOp}
use Rattle.cstar_tree.specs.declared.syntax.ReduceOp.{ReduceOp}
use Rattle.cstar_tree.specs.declared.syntax.StepOp.{StepOp}
use Rattle.cstar_tree.specs.declared.typed.StepOrder.{StepOrder}
use Rattle.cstar_tree.specs.declared.typed.Variable.{Variable}
use Rattle.cstar_tree.specs.declared.typed.TExpr.{TExpr, Row_of-TExpr, end_of-TExpr, more_of-TExpr}
use Rattle.cstar_tree.specs.declared.typed.TExpr as T
use Rattle.cstar_tree.specs.declared.typed.ValueType.{ValueType}
use Rattle.cstar_tree.specs.Typed.{type_of}
use Rattle.source_meaning.specs.Expressions.{evaluated, located, operands, operated, next_byte, reduction_of, scan_of, scan_over, values_of}
use Rattle.source_meaning.specs.Gets.{gotten, Operand as Index}
use Rattle.source_meaning.specs.Narrowing.{Operand, and_then, or_then, choose, where_nonzero, where_zero}
use Rattle.source_meaning.specs.Programs.{Call}
use Rattle.source_meaning.specs.Reductions.{promoted}
use Rattle.source_meaning.specs.Scans.{bit_at}
use Rattle.source_meaning.specs.Sends.{sent}
use Rattle.source_meaning.specs.State.{State, Outcome, Gives, Ends, InputBroken, InputEnds, InputFails, Rest, with_output, with_positions, with_scalar}
use Rattle.source_meaning.specs.Targets.{NoTarget, OfElement, OfPosition, OfScalar, OfTargets, Target, assign_to, assigned, element_target, indexed_target, new_value, read, step_op, step_value, stepped, stored, variable_target}
use Rattle.source_meaning.specs.Values.{Active, Nothing, Scalar, Scope, Value, each, failing, nonzero, number, own_coordinate, positions}
use Rattle.meaning_laws.specs.Turns.{with_more}
use Rattle.meaning_laws.proofs.Parts.{GoesOn, IsPart, Later, behind, later_itself, part_closed, part_either, part_equal, part_gives, part_same, part_then, part_unless}

-- the scope in which calls do this
abbrev pub calling : Scope → Call → Scope
calling scope call = record scope { call = call }

-- what is read from a target
read_same : (m : ℕ) (st : State) (target : Target) → read (with_more m st) target ≡ read st target
unfolding read gotten
read_same m st (OfScalar x) = refl
read_same m st (OfElement x k s) = refl
read_same m st (OfPosition x q) = refl
read_same m st (OfTargets x to s) = refl
read_same m st NoTarget = refl

module _ (m n : ℕ) (scope : Scope) (one two : Call) where
  -- no operation asks what calls do
  failing_same : (active : Active) (shape : Option ℕ) (fails : ℕ → Bool) → failing (calling scope one) active shape fails ≡ failing (calling scope two) active shape fails
  unfolding failing positions
  failing_same active None fails = refl
  failing_same active (Some s) fails = refl

  coordinate_same : (shape : Option ℕ) (axis : ℕ) → own_coordinate (calling scope two) shape axis ≡ own_coordinate (calling scope one) shape axis
  unfolding own_coordinate
  coordinate_same None axis = refl
  coordinate_same (Some s) axis = refl

  new_same : (active : Active) (op : AssignOp) (to from : ValueType) (old v : Value) → new_value (calling scope two) active op to from old v ≡ new_value (calling scope one) active op to from old v
  unfolding new_value positions
  new_same active op to from old v = refl

  scan_same : (active : Active) (ty : ValueType) (axis : ℕ) (combiner : Combiner) (direction : Direction) (mode : SegmentMode) (bit : Option Variable) (within : Inclusion) (v : Value) (st : State)
      → scan_of (calling scope two) active ty axis combiner direction mode bit within v (with_more m st) ≡ scan_of (calling scope one) active ty axis combiner direction mode bit within v st
  unfolding scan_of scan_over bit_at
  scan_same active ty axis combiner direction mode None within v st = refl
  scan_same active ty axis combiner direction mode (Some x) within v st = refl

  scans : (active : Active) (ty : ValueType) (axis : ℕ) (combiner : Combiner) (direction : Direction) (mode : SegmentMode) (bit : Option Variable) (inclusion : Inclusion) (v : Value)
      → IsPart m n (λ st. Gives (scan_of (calling scope one) active ty axis combiner direction mode bit inclusion v st) st) (λ st. Gives (scan_of (calling scope two) active ty axis combiner direction mode bit inclusion v st) st)
  scans active ty axis combiner direction mode bit inclusion v =
      part_gives m n _ _ (λ st. st) (λ st. st) (λ st. scan_same active ty axis combiner direction mode bit inclusion v st) (λ st. refl) later_itself later_itself

  reads : (target : Target) → IsPart m n (λ st. Gives (read st target) st) (λ st. Gives (read st target) st)
  reads target = part_gives m n (λ st. read st target) (λ st. read st target) (λ st. st) (λ st. st) (λ st. read_same m st target) (λ st. refl) later_itself later_itself

  -- the state behind a store
  pub later_stored : (active : Active) (target : Target) (v : Value) (st : State) → Later st (stored active target v st)
  unfolding stored with_scalar with_positions
  later_stored active (OfScalar x) v st = later_itself st
  later_stored active (OfElement x k s) v st = later_itself st
  later_stored active (OfPosition x q) v st = later_itself st
  later_stored active (OfTargets x to s) v st = later_itself st
  later_stored active NoTarget v st = later_itself st

  pub stored_same : (active : Active) (target : Target) (v : Value) (st : State) → stored active target v (with_more m st) ≡ with_more m (stored active target v st)
  unfolding stored with_scalar with_positions
  stored_same active (OfScalar x) v st = refl
  stored_same active (OfElement x k s) v st = refl
  stored_same active (OfPosition x q) v st = refl
  stored_same active (OfTargets x to s) v st = refl
  stored_same active NoTarget v st = refl

  -- an assignment to a target that is no send
  stores : (active : Active) (op : AssignOp) (to from : ValueType) (target : Target) (v : Value)
      → IsPart m n (λ st. Gives (new_value (calling scope one) active op to from (read st target) v) (stored active target (new_value (calling scope one) active op to from (read st target) v) st))
      (λ st. Gives (new_value (calling scope two) active op to from (read st target) v) (stored active target (new_value (calling scope two) active op to from (read st target) v) st))
  stores active op to from target v = part_gives m n _ _ _ _
      new_one
      (λ st. ap (λ (w : Value). stored active target w (with_more m st)) (new_one st) ∙ stored_same active target _ st)
      (λ st. later_stored active target _ st) (λ st. later_stored active target _ st)
    where
      new_one : (st : State) → new_value (calling scope two) active op to from (read (with_more m st) target) v ≡ new_value (calling scope one) active op to from (read st target) v
      new_one st = ap (λ (old : Value). new_value (calling scope two) active op to from old v) (read_same m st target) ∙ new_same active op to from (read st target) v

  assigns_to : (active : Active) (op : AssignOp) (to from : ValueType) (target : Target) (v : Value) → IsPart m n (assign_to (calling scope one) active op to from target v) (assign_to (calling scope two) active op to from target v)
  unfolding assign_to sent with_positions positions
  assigns_to active op to from (OfTargets x targets s) v = part_gives m n _ _ _ _ (λ st. refl) (λ st. refl) later_itself later_itself
  assigns_to active op to from (OfScalar x) v = stores active op to from (OfScalar x) v
  assigns_to active op to from (OfElement x k s) v = stores active op to from (OfElement x k s) v
  assigns_to active op to from (OfPosition x q) v = stores active op to from (OfPosition x q) v
  assigns_to active op to from NoTarget v = stores active op to from NoTarget v

  steps : (active : Active) (op : StepOp) (order : StepOrder) (ty : ValueType) (target : Target) → IsPart m n (stepped (calling scope one) active op order ty target) (stepped (calling scope two) active op order ty target)
  unfolding stepped
  steps active op order ty target =
      part_closed m n _ _ (λ st new. step_value order (read st target) new) (λ st after. after) (λ st new. ap (λ (old : Value). step_value order old new) (read_same m st target))
      (λ st. record { more = λ t. refl; turns = λ t. refl; output = λ t. refl }) (λ st t. refl)
      (assigns_to active (step_op op) ty (record { elem = promoted ty.elem; shape = ty.shape }) target (each ty.shape (λ _. 1)))

  assigns : (active : Active) (place : Place) (op : AssignOp) (to from : ValueType) (target : Target) (v : Value) → IsPart m n (assigned (calling scope one) active place op to from target v) (assigned (calling scope two) active place op to from target v)
  unfolding assigned
  assigns active place op to from target v = part_unless m n _ _ DivZero place _ _ (failing_same active to.shape _) (assigns_to active op to from target v)

  operates : (active : Active) (ty : ValueType) (place : Place) (op : Op) (unsigned : Bool) (v w : Value) → IsPart m n (operated (calling scope one) active ty place op unsigned v w) (operated (calling scope two) active ty place op unsigned v w)
  unfolding operated
  operates active ty place op unsigned v w = part_unless m n _ _ DivZero place _ _ (failing_same active ty.shape _) (part_same m n _)

  names_element : (active : Active) (shape : Option ℕ) (place : Place) (x : Variable) (index : Index) → IsPart m n (element_target (calling scope one) active shape place x index) (element_target (calling scope two) active shape place x index)
  unfolding element_target
  names_element active shape place x index = part_unless m n _ _ RunIndex place _ _ (failing_same active None _) (part_same m n _)

  names_positions : (active : Active) (shape : Option ℕ) (place : Place) (x : Variable) (of : ℕ) (indexes : List Index) → IsPart m n (indexed_target (calling scope one) active shape place x of indexes) (indexed_target (calling scope two) active shape place x of indexes)
  unfolding indexed_target
  names_positions active shape place x of indexes = part_unless m n _ _ RunIndex place _ _ (failing_same active shape _) (part_same m n _)

  reduces : (active : Active) (op : ReduceOp) (ty : ValueType) (v : Value) → reduction_of (calling scope two) active op ty v ≡ reduction_of (calling scope one) active op ty v
  unfolding reduction_of positions
  reduces active op ty v = refl

-- the next byte of the input
reads_byte : (m n : ℕ) → IsPart m n next_byte next_byte
unfolding next_byte behind GoesOn
reads_byte m n = record {
  first = λ st. later_byte st st.input st.rest refl refl;
  second = λ st. later_byte st st.input st.rest refl refl;
  more = λ st few. more_byte st st.input st.rest refl refl;
}
  where
    byte_of : State → List ℕ → Rest → Outcome Value
    byte_of st input rest =
        elim input as (λ _. Outcome Value) [
          | byte ∷ more ↦ Gives (Scalar byte) (record st { input = more })
          | [] ↦ elim rest as (λ _. Outcome Value) [ InputEnds ↦ Gives (Scalar (2 ^ 32 - 1)) st | InputFails ↦ Ends InputBroken st ]
        ]

    byte_is : (st : State) (input : List ℕ) (rest : Rest) → st.input ≡ input → st.rest ≡ rest → next_byte st ≡ byte_of st input rest
    byte_is st input rest one two = ap (λ (xs : List ℕ). byte_of st xs st.rest) one ∙ ap (λ (r : Rest). byte_of st input r) two

    later_byte : (st : State) (input : List ℕ) (rest : Rest) → st.input ≡ input → st.rest ≡ rest → Later st (behind (next_byte st))
    later_byte st input rest one two = subst (λ (o : Outcome Value). Later st (behind o)) (sym (byte_is st input rest one two)) (by_input st input rest)
      where
        by_input : (st : State) (input : List ℕ) (rest : Rest) → Later st (behind (byte_of st input rest))
        by_input st (byte ∷ more) rest = later_itself st
        by_input st [] InputEnds = later_itself st
        by_input st [] InputFails = later_itself st

    more_byte : (st : State) (input : List ℕ) (rest : Rest) → st.input ≡ input → st.rest ≡ rest → GoesOn m (next_byte st) (next_byte (with_more m st))
    more_byte st input rest one two =
        subst (λ (o : Outcome Value). GoesOn m o (next_byte (with_more m st))) (sym (byte_is st input rest one two))
        (subst (λ (o : Outcome Value). GoesOn m (byte_of st input rest) o) (sym (byte_is (with_more m st) input rest one two)) (by_input st input rest))
      where
        by_input : (st : State) (input : List ℕ) (rest : Rest) → GoesOn m (byte_of st input rest) (byte_of (with_more m st) input rest)
        by_input st (byte ∷ more) rest = refl
        by_input st [] InputEnds = refl
        by_input st [] InputFails = refl

module _ (m n : ℕ) where
  -- operands under any active sets
  abbrev Goes : Operand → Operand → Type 0
  Goes f g = (active : Active) → IsPart m n (f active) (g active)

  prints : (bytes : List ℕ) → IsPart m n (λ st. Gives Nothing (with_output bytes st)) (λ st. Gives Nothing (with_output bytes st))
  unfolding with_output
  prints bytes = part_gives m n _ _ _ _ (λ st. refl) (λ st. refl) (λ st. (omega arith, (bytes, refl))) (λ st. (omega arith, (bytes, refl)))

  ands : (whole left : Option ℕ) (v : Value) (f g : Operand) (active : Active) → Goes f g → IsPart m n (and_then whole left v f active) (and_then whole left v g active)
  unfolding and_then
  ands whole None v f g active goes = part_either m n (nonzero (number v)) _ _ _ _ (part_then m n _ _ _ _ (goes active) (λ w. part_same m n _)) (part_same m n _)
  ands whole (Some s) v f g active goes = part_then m n _ _ _ _ (goes (where_nonzero s v active)) (λ w. part_same m n _)

  ors : (whole left : Option ℕ) (v : Value) (f g : Operand) (active : Active) → Goes f g → IsPart m n (or_then whole left v f active) (or_then whole left v g active)
  unfolding or_then
  ors whole None v f g active goes = part_either m n (nonzero (number v)) _ _ _ _ (part_same m n _) (part_then m n _ _ _ _ (goes active) (λ w. part_same m n _))
  ors whole (Some s) v f g active goes = part_then m n _ _ _ _ (goes (where_zero s v active)) (λ w. part_same m n _)

  chooses : (test : Option ℕ) (v : Value) (f g h k : Operand) (active : Active) → Goes f g → Goes h k → IsPart m n (choose test v f h active) (choose test v g k active)
  unfolding choose
  chooses None v f g h k active one two = part_either m n (nonzero (number v)) _ _ _ _ (one active) (two active)
  chooses (Some s) v f g h k active one two =
      part_then m n _ _ _ _ (one (where_nonzero s v active)) (λ a. part_then m n _ _ _ _ (two (where_zero s v active)) (λ b. part_same m n _))

-- what calls do goes on with more turns
abbrev pub CallsGoOn : ℕ → ℕ → Call → Call → Type 0
CallsGoOn m n one two = (callee : ℕ) (given : List Value) (active : Active) → IsPart m n (one callee given active) (two callee given active)

module _ (m n : ℕ) (scope : Scope) (one two : Call) (calls : CallsGoOn m n one two) where
  mutual
    unfolding evaluated located operands

    pub expression : (e : TExpr) (active : Active) → IsPart m n (evaluated (calling scope one) e active) (evaluated (calling scope two) e active)
    expression (T.Assign' ty place op p target q value) active =
        part_then m n _ _ _ _ (target_of target active) (λ there. part_then m n _ _ _ _ (expression value active) (λ v. assigns m n scope one two active place op ty (type_of value) there v))
    expression (T.Choice' ty p test q first r second) active =
        part_then m n _ _ _ _ (expression test active) (λ v. chooses m n _ v _ _ _ _ active (expression first) (expression second))
    expression (T.LogicalOr' ty p left q right) active =
        part_then m n _ _ _ _ (expression left active) (λ v. ors m n ty.shape _ v _ _ active (expression right))
    expression (T.LogicalAnd' ty p left q right) active =
        part_then m n _ _ _ _ (expression left active) (λ v. ands m n ty.shape _ v _ _ active (expression right))
    expression (T.Binary' ty place op p left q right) active =
        part_then m n _ _ _ _ (expression left active) (λ v. part_then m n _ _ _ _ (expression right active) (λ w. operates m n scope one two active ty place op _ v w))
    expression (T.Unary' ty op p operand) active = part_then m n _ _ _ _ (expression operand active) (λ v. part_same m n _)
    expression (T.Step' ty op order p target) active =
        part_then m n _ _ _ _ (target_of target active) (λ there. steps m n scope one two active op order ty there)
    expression (T.Reduce' ty op p operand) active =
        part_then m n _ _ _ _ (expression operand active) (λ v. part_equal m n _ _ (reduces m n scope one two active op (type_of operand) v))
    expression (T.Casts' ty elems p operand) active = part_then m n _ _ _ _ (expression operand active) (λ v. part_same m n _)
    expression (T.ParallelCast' ty p operand) active = part_then m n _ _ _ _ (expression operand active) (λ v. part_same m n _)
    expression (T.Convert' ty p operand) active = part_then m n _ _ _ _ (expression operand active) (λ v. part_same m n _)
    expression (T.Promote' ty p operand) active = part_then m n _ _ _ _ (expression operand active) (λ v. part_same m n _)
    expression (T.Variable ty x) active = reads m n scope one two (variable_target ty.shape x 0)
    expression (T.Element' ty place array p index) active =
        part_then m n _ _ _ _ (expression index active) (λ v. part_then m n _ _ _ _ (names_element m n scope one two active ty.shape place array (record { elem = (type_of index).elem; value = v })) (λ there. reads m n scope one two there))
    expression (T.Number ty value) active = part_same m n _
    expression (T.Dot ty axis) active = part_equal m n _ _ (coordinate_same m n scope one two ty.shape axis)
    expression (T.Brackets' ty p inner) active = expression inner active
    expression (T.Call' ty instance p arguments) active =
        part_then m n _ _ _ _ (list arguments active) (λ given. calls instance (values_of given) active)
    expression (T.LeftIndex' ty place p indexes x of) active =
        part_then m n _ _ _ _ (list indexes active) (λ given. part_then m n _ _ _ _ (names_positions m n scope one two active ty.shape place x of given) (λ there. reads m n scope one two there))
    expression (T.Pcoord ty axis) active = part_equal m n _ _ (coordinate_same m n scope one two ty.shape axis)
    expression (T.PositionsOf ty shape value) active = part_same m n _
    expression (T.RankOf ty shape value) active = part_same m n _
    expression (T.DimOf ty shape axis value) active = part_same m n _
    expression (T.Scan' ty p source axis combiner direction mode bit inclusion) active =
        part_then m n _ _ _ _ (expression source active) (λ v. scans m n scope one two active ty axis combiner direction mode bit inclusion v)
    expression (T.Enumerate ty axis direction inclusion mode bit) active = scans m n scope one two active ty axis C.Add direction mode bit inclusion (each ty.shape (λ _. 1))
    expression (T.Printf' ty pieces p arguments) active = part_then m n _ _ _ _ (list arguments active) (λ given. prints m n _)
    expression (T.GetChar ty) active = reads_byte m n

    target_of : (e : TExpr) (active : Active) → IsPart m n (located (calling scope one) e active) (located (calling scope two) e active)
    target_of (T.Variable ty x) active = part_same m n _
    target_of (T.Element' ty place array p index) active =
        part_then m n _ _ _ _ (expression index active) (λ v. names_element m n scope one two active ty.shape place array (record { elem = (type_of index).elem; value = v }))
    target_of (T.LeftIndex' ty place p indexes x of) active =
        part_then m n _ _ _ _ (list indexes active) (λ given. names_positions m n scope one two active ty.shape place x of given)
    target_of (T.Brackets' ty p inner) active = target_of inner active
    target_of _ active = part_same m n _

    list : {k : Count} (row : Row_of-TExpr k) (active : Active) → IsPart m n (operands (calling scope one) row active) (operands (calling scope two) row active)
    list end_of-TExpr active = part_same m n _
    list (more_of-TExpr e rest) active =
        part_then m n _ _ _ _ (expression e active) (λ v. part_then m n _ _ _ _ (list rest active) (λ given. part_same m n _))
