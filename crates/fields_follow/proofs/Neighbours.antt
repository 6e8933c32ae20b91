-- What the indexes of a get from neighbours mean: numbers at each position, which name the position to which the steps lead
-- round the ends of the grid, where a step that may leave it does not.
use Rattle.std.proofs.Common.{◌≡◌, ◌∙◌, ℕ, suc, ◌+◌, ◌-◌, ◌%◌, ◌<◌, ◌≤◌, ◌^◌, ℤ, pos, ◌+ℤ◌, Bool, true, false, not, ◌&&◌, ◌||◌, ◌==◌, List, [], ◌∷◌, ◌++◌, length, Option, Some, None, refl, sym, ap, subst, inl, inr, ◌⊎◌, if◌then◌else◌, arith}
use Rattle.std.specs.Prelude.{slice_get, slice_index, unsigned_abs}
use Rattle.std.proofs.lemmas.Bool.Decides.{nat_tests}
use Rattle.std.proofs.lemmas.Option.{get_or_from_slice_get, slice_get_within}
use Rattle.communication_laws.specs.Steps.{AllLead, IsStep, Leads, steps_from}
use Rattle.communication_laws.proofs.Indexes.{both}
use Rattle.communication_laws.proofs.Steps.{steps_within_move, sums_with_steps}
use Rattle.constant_trees.proofs.Bringing.{both_true}
use Rattle.cstar_base.specs.declared.faults.RunFault.TheVariants.{DivZero}
use Rattle.cstar_base.specs.declared.operators.Op.{Op}
use Rattle.cstar_base.specs.declared.operators.Op.TheVariants as P
use Rattle.cstar_base.specs.declared.operators.Place.{Place}
use Rattle.cstar_base.specs.Numbers.{number_of}
use Rattle.cstar_base.specs.Operators.{difference_of, divides, modulus_of, outcome}
use Rattle.cstar_base.specs.Orders.{least_below}
use Rattle.cstar_base.proofs.OperatorLaws.{difference_by_residues, sum_by_residues}
use Rattle.cstar_tree.specs.declared.typed.TExpr.{TExpr, Row_of-TExpr, end_of-TExpr, items-the_row-TExpr, more_of-TExpr}
use Rattle.cstar_tree.specs.declared.typed.TExpr as T
use Rattle.cstar_tree.specs.declared.typed.ValueType.{ValueType}
use Rattle.cstar_tree.specs.Typed.{type_of}
use Rattle.lower_comm.specs.declared.news.NewsStep.{NewsStep}
use Rattle.lower_comm.specs.Messages.{checked_part, grid_steps}
use Rattle.lower_comm.specs.News.{checked_step, is_conversion, is_dot, is_extent, is_int, near, negated, offset_of, step_by, step_number, step_of, wrapped_step}
use Rattle.lower_expr.specs.Operands.{ignores_context}
use Rattle.paris_code.specs.declared.operands.GridStep.{GridStep}
use Rattle.paris_code.specs.declared.operands.Konst.TheVariants as K
use Rattle.phase_meaning.proofs.Alike.{coordinate_below}
use Rattle.source_meaning.specs.Constants.{constant_of, then_value}
use Rattle.source_meaning.specs.Expressions.{evaluated, mapped, operands, operated}
use Rattle.source_meaning.specs.Gets.{Operand, are_within, coordinates_of, index_at, is_within}
use Rattle.source_meaning.specs.State.{Ends, Fault, Gives, Outcome, State, then_do}
use Rattle.source_meaning.specs.Values.{Active, Parallel, Scope, Value, at, each, own_coordinate, positions, Scalar}
use Rattle.vp_sets.specs.Positions.{are_positive, coordinate, moved, position_count, positions_fit}
use Rattle.vp_sets.proofs.PositionLaws.{extent_bound, extent_positive}
use Rattle.code_follows.proofs.Standing.{some_same}
use Rattle.code_follows.proofs.Words.{within_word}
use Rattle.fields_follow.specs.Fragment.{AreSteps, IsConstant, IsDot, IsIndex, IsOffset, IsCalm, IsPromoted, IsStepping}
use Rattle.fields_follow.proofs.Extents.{NameExtents, NamesExtent}
use Rattle.fields_follow.proofs.Gets.{coordinate_behind, coordinates_behind}
use Rattle.fields_follow.proofs.Meaning.{Extents, binary_means, binary_so, computed_in, constant_means, divided_is, given_in, mapped_is, none_fails, scalar_in, value_in}
use Rattle.fields_follow.proofs.Promoted.{promoted_free}
use Rattle.fields_follow.proofs.Routing.{indexes_at}
use Rattle.fields_follow.proofs.Wrapping.{index_number, near_is, moved_within, still_there, turned_step, within_extent, wrapped_word}

-- a grid of few positions
pub fit_positive : (xs : List ℕ) → positions_fit xs ≡ true → are_positive xs ≡ true
unfolding positions_fit
fit_positive xs fits = grind (arith, nat_tests, fits)

fit_few : (xs : List ℕ) → positions_fit xs ≡ true → position_count xs ≤ 2 ^ 20
unfolding positions_fit
fit_few xs fits = grind (arith, nat_tests, fits)

module _ (scope : Scope) (active : Active) (set : ℕ) (extents : Extents) (same : extents.own ≡ scope.extents set) where
  abbrev xs : List ℕ
  xs = extents.own

  -- an index has its numbers
  abbrev Meant : TExpr → State → Type 0
  Meant e st = evaluated scope e active st ≡ Gives (Parallel (λ q. value_in extents st e q)) st

  -- the own coordinate
  dot_means : (axis : ℕ) (e : TExpr) (st : State) → IsDot set axis e → Meant e st × ((q : ℕ) → value_in extents st e q ≡ coordinate xs q axis)
  unfolding IsDot evaluated own_coordinate value_in
  dot_means axis (T.Brackets' ty p inner) st is = dot_means axis inner st is
  dot_means axis (T.Dot ty own) st is = (ap (λ (o : Option ℕ). Gives (own_coordinate scope o own) st) is.0 ∙ ap (λ (ys : List ℕ). Gives (Parallel (λ q. coordinate ys q own)) st) (sym same), λ q. ap (coordinate xs q) is.1)
  dot_means axis _ st is = absurd is

  -- the number of a step is a constant
  number_is : (k q : ℕ) (e : TExpr) (st : State) → IsPromoted set e → step_number e ≡ Some k → (value_in extents st e q ≡ k) × IsStep k
  unfolding IsPromoted step_number value_in scalar_in
  number_is k q (T.Promote' ty p operand) st is known = by (is_conversion operand || not (is_int (type_of operand).elem)) known
    where
      by_near : (c : ℕ) → constant_of operand ≡ Some c → c < 2 ^ 32 → then_value (constant_of operand) near ≡ Some k → (scalar_in st operand q ≡ k) × IsStep k
      by_near c constant few h =
          let near_by : (c ≡ k) × IsStep c = near_is c k (ap (λ (o : Option ℕ). then_value o near) (sym constant) ∙ h) few in
          (ap (λ (o : Option ℕ). elim o [ Some word ↦ word | None ↦ computed_in st operand q ]) constant ∙ near_by.0, subst IsStep near_by.0 near_by.1)

      by_constant : IsConstant operand ⊎ ((constant_of operand ≡ None) × IsCalm operand) → then_value (constant_of operand) near ≡ Some k → (scalar_in st operand q ≡ k) × IsStep k
      by_constant (inl constant) h = by_near constant.0 constant.1 (within_word (type_of operand).elem constant.0 constant.2) h
      by_constant (inr (none, calm)) h = let wrong : None ≡ Some k = ap (λ (o : Option ℕ). then_value o near) (sym none) ∙ h in cc

      by : (b : Bool) → (if b then None else then_value (constant_of operand) near) ≡ Some k → (scalar_in st operand q ≡ k) × IsStep k
      by true h = cc
      by false h = by_constant is.2.1 h
  number_is k q _ st is known = cc

  step_means : (k : ℕ) (e : TExpr) (st : State) → IsPromoted set e → step_number e ≡ Some k → Meant e st
  unfolding IsPromoted step_number value_in scalar_in evaluated then_do at
  step_means k (T.Promote' ty p operand) st is known = by (is_conversion operand || not (is_int (type_of operand).elem)) known
    where
      by_constant : IsConstant operand ⊎ ((constant_of operand ≡ None) × IsCalm operand) → then_value (constant_of operand) near ≡ Some k → evaluated scope (T.Promote' ty p operand) active st ≡ Gives (Parallel (λ q. scalar_in st operand q)) st
      by_constant (inl constant) h =
          ap (λ (o : Outcome Value). then_do o (λ v after. Gives (mapped ty (λ w. w) v) after)) (constant_means scope active operand constant.0 st constant.1)
          ∙ ap (λ (v : Value). Gives v st) (mapped_is scope active ty set (λ w. w) (Scalar constant.0) is.0)
          ∙ ap (λ (o : Option ℕ). Gives (Parallel (λ q. elim o [ Some word ↦ word | None ↦ computed_in st operand q ])) st) (sym constant.1)
      by_constant (inr (none, calm)) h = let wrong : None ≡ Some k = ap (λ (o : Option ℕ). then_value o near) (sym none) ∙ h in cc

      by : (b : Bool) → (if b then None else then_value (constant_of operand) near) ≡ Some k → evaluated scope (T.Promote' ty p operand) active st ≡ Gives (Parallel (λ q. scalar_in st operand q)) st
      by true h = cc
      by false h = by_constant is.2.1 h
  step_means k _ st is known = cc

  turned_sum : (a c : ℕ) → (a + (2 ^ 32 - c)) % 2 ^ 32 ≡ (a + negated c) % 2 ^ 32
  unfolding negated
  turned_sum a c = omega arith

  -- the own coordinate and a step
  abbrev Offset : ℕ → ℕ → TExpr → State → Type 0
  Offset axis k e st = IsStep k × Meant e st × ((q : ℕ) → value_in extents st e q ≡ (coordinate xs q axis + k) % 2 ^ 32)

  offset_means : (axis k : ℕ) (e : TExpr) (st : State) → IsOffset set axis e → offset_of e ≡ Some k → Offset axis k e st
  unfolding IsOffset offset_of evaluated value_in step_by outcome divides
  offset_means axis k (T.Brackets' ty p inner) st is known = offset_means axis k inner st is known
  offset_means axis k (T.Binary' ty place op p left q right) st is known = by_dot (is_dot left) known
    where
      whole : TExpr
      whole = T.Binary' ty place op p left q right

      unsigned : Bool
      unsigned = not (type_of left).elem.signed

      own : ℕ → ℕ
      own = λ q. coordinate xs q axis

      number : ℕ → ℕ
      number = λ q. value_in extents st right q

      dot : Meant left st × ((q : ℕ) → value_in extents st left q ≡ own q)
      dot = dot_means axis left st is.1

      means : (op : Op) (c : ℕ) → step_number right ≡ Some c → divides op ≡ false → evaluated scope (T.Binary' ty place op p left q right) active st ≡ Gives (Parallel (λ x. outcome op 32 unsigned (value_in extents st left x) (number x))) st
      means op c is_c no_check = binary_means scope active set ty place op p q left right (λ x. value_in extents st left x) number st is.0 no_check dot.0 (step_means c right st is.2 is_c)

      by_op : (op : Op) (c : ℕ) → step_number right ≡ Some c → step_by op c ≡ Some k → IsStep k × (evaluated scope (T.Binary' ty place op p left q right) active st ≡ Gives (Parallel (λ x. outcome op 32 unsigned (value_in extents st left x) (number x))) st) × ((x : ℕ) → outcome op 32 unsigned (value_in extents st left x) (number x) ≡ (own x + k) % 2 ^ 32)
      by_op P.Add c is_c h =
          let number_of_it : (x : ℕ) → (number x ≡ c) × IsStep c = λ x. number_is c x right st is.2 is_c in
          let is_k : c ≡ k = some_same c k h in
          (subst IsStep is_k (number_of_it 0).1, means P.Add c is_c refl, λ x. ap (λ (m : ℕ). outcome P.Add 32 unsigned m (number x)) (dot.1 x) ∙ sum_by_residues 32 unsigned (own x) (number x) ∙ ap (λ (n : ℕ). (own x + n) % 2 ^ 32) ((number_of_it x).0 ∙ is_k))
      by_op P.Sub c is_c h =
          let number_of_it : (x : ℕ) → (number x ≡ c) × IsStep c = λ x. number_is c x right st is.2 is_c in
          let is_k : negated c ≡ k = some_same (negated c) k h in (
            subst IsStep is_k (turned_step c (number_of_it 0).1),
            means P.Sub c is_c refl,
            λ x.
                ap (λ (m : ℕ). outcome P.Sub 32 unsigned m (number x)) (dot.1 x) ∙ ap (λ (n : ℕ). difference_of 32 unsigned (own x) n) (number_of_it x).0 ∙ difference_by_residues 32 unsigned (own x) c (let few = (number_of_it x).1.0 in omega (arith, few)) ∙ turned_sum (own x) c ∙ ap (λ (n : ℕ). (own x + n) % 2 ^ 32) is_k,
          )
      by_op _ c is_c h = cc

      by_number : (o : Option ℕ) → step_number right ≡ o → then_value o (step_by op) ≡ Some k → Offset axis k whole st
      by_number None is_o h = cc
      by_number (Some c) is_o h = by_op op c is_o h

      by_dot : (b : Bool) → (if b then then_value (step_number right) (step_by op) else None) ≡ Some k → Offset axis k whole st
      by_dot true h = by_number (step_number right) refl h
      by_dot false h = cc
  offset_means axis k _ st is known = absurd is

  -- the extent of the axis
  same_at : (o : Option ℕ) (f : ℕ → ℕ) (q n : ℕ) → ((p : ℕ) → f p ≡ n) → at (each o f) q ≡ n
  unfolding at each
  same_at None f q n same = same 0
  same_at (Some s) f q n same = same q

  abbrev Everywhere : ℕ → TExpr → State → Type 0
  Everywhere n e st = (w : Value) × ((evaluated scope e active st ≡ Gives w st) × ((q : ℕ) → at w q ≡ n))

  extent_means : (of axis extent : ℕ) (e : TExpr) (st : State) → is_extent of axis e ≡ true → NamesExtent extent e → Everywhere extent e st
  unfolding is_extent NamesExtent evaluated mapped at then_do
  extent_means of axis extent (T.Promote' ty p operand) st is names =
      let (w, (means, same)) = extent_means of axis extent operand st is names in
      (mapped ty (λ n. n) w, (ap (λ (o : Outcome Value). then_do o (λ v after. Gives (mapped ty (λ n. n) v) after)) means, λ q. same_at ty.shape (λ p. at w p) q extent same))
  extent_means of axis extent (T.Brackets' ty p inner) st is names = extent_means of axis extent inner st is names
  extent_means of axis extent (T.DimOf ty shape named value) st is names = (_, (refl, λ q. names))
  extent_means of axis extent _ st is names = cc

  extent_free : (of axis : ℕ) (e : TExpr) → is_extent of axis e ≡ true → ignores_context e ≡ true
  unfolding is_extent ignores_context
  extent_free of axis (T.Promote' ty p operand) is = extent_free of axis operand is
  extent_free of axis (T.Brackets' ty p inner) is = extent_free of axis inner is
  extent_free of axis (T.DimOf ty shape named value) is = refl
  extent_free of axis _ is = cc

  -- a promoted one has the extent everywhere
  extent_value : (of axis extent : ℕ) (e : TExpr) (st : State) → is_extent of axis e ≡ true → NamesExtent extent e → IsPromoted set e → Meant e st × ((q : ℕ) → value_in extents st e q ≡ extent)
  unfolding given_in at
  extent_value of axis extent e st is names promoted =
      let (w, (means, equal)) = extent_means of axis extent e st is names in
      let gives : Meant e st = promoted_free scope active set extents e st promoted (extent_free of axis e is) in
      (gives, λ q. ap (λ (o : Outcome Value). at (given_in o) q) (sym gives ∙ means) ∙ equal q)

  -- without a fault, as the extent is not 0
  remainder_means : (extent : ℕ) (ty : ValueType) (place : Place) (unsigned : Bool) (f w : ℕ → ℕ) (st : State) → ty.shape ≡ Some set → 0 < extent → ((q : ℕ) → w q ≡ extent)
      → operated scope active ty place P.Mod unsigned (Parallel f) (Parallel w) st ≡ Gives (Parallel (λ q. outcome P.Mod 32 unsigned (f q) (w q))) st
  unfolding divides at
  remainder_means extent ty place unsigned f w st shaped some equal =
      divided_is scope active ty set place P.Mod unsigned (Parallel f) (Parallel w) st shaped refl
      ∙ ap (λ (o : Option ℕ). elim o as (λ _. Outcome Value) [ None ↦ Gives (Parallel (λ p. outcome P.Mod 32 unsigned (f p) (w p))) st | Some p ↦ Ends (Fault DivZero place (Some p)) st ])
      (ap (λ (n : ℕ → ℕ). least_below (λ p. active set p && n p == 0) (positions scope set)) (λ j p. equal p j) ∙ ap (λ (b : Bool). least_below (λ p. active set p && b) (positions scope set)) divisor ∙ none_fails (active set) (positions scope set))
    where
      divisor : (extent == 0) ≡ false
      divisor = grind (arith, nat_tests, some)

  wrapped_by : (o : Option ℕ) (step : NewsStep) → wrapped_step o ≡ Some step → (o ≡ Some step.by) × (step.checked ≡ false)
  unfolding wrapped_step
  wrapped_by None step is = cc
  wrapped_by (Some k) step is = (ap (λ (s : NewsStep). Some s.by) (some_same _ step is), sym (ap (λ (s : NewsStep). s.checked) (some_same _ step is)))

  checked_by : (o : Option ℕ) (step : NewsStep) → checked_step o ≡ Some step → (o ≡ Some step.by) × (step.checked ≡ true)
  unfolding checked_step
  checked_by None step is = cc
  checked_by (Some k) step is = (ap (λ (s : NewsStep). Some s.by) (some_same _ step is), sym (ap (λ (s : NewsStep). s.checked) (some_same _ step is)))

  -- an index leads round the ends, or to where the step leads, be it in the grid or not
  abbrev Led : ℕ → ℕ → NewsStep → ValueType → (ℕ → ℕ) → Type 0
  Led axis extent step ty v =
      (q : ℕ)
      → ((step.checked ≡ false) × (v q ≡ moved extent (coordinate xs q axis) (number_of 32 true step.by))) ⊎ ((step.checked ≡ true) × (number_of ty.elem.bits ty.elem.signed (v q) ≡ pos (coordinate xs q axis) +ℤ number_of 32 true step.by))

  index_means : (axis extent : ℕ) (e : TExpr) (step : NewsStep) (st : State) → 0 < extent → extent ≤ 2 ^ 20 → ((q : ℕ) → coordinate xs q axis < extent)
      → IsIndex set axis e → step_of set axis e ≡ Some step → NamesExtent extent e → Meant e st × Led axis extent step (type_of e) (λ q. value_in extents st e q)
  unfolding IsIndex step_of NamesExtent evaluated value_in own_coordinate IsOffset outcome
  index_means axis extent (T.Brackets' ty p inner) step st some few below is goes names =
      let (means, led) = index_means axis extent inner step st some few below is.1 goes names in (means, subst (λ (y : ValueType). Led axis extent step y (λ q. value_in extents st inner q)) (sym is.0) led)
  index_means axis extent (T.Dot ty own) step st some few below is goes names =
      let wrapped = wrapped_by (Some 0) step goes in
      let none : 0 ≡ step.by = some_same 0 step.by wrapped.0 in (
        ap (λ (o : Option ℕ). Gives (own_coordinate scope o own) st) is.0.0 ∙ ap (λ (ys : List ℕ). Gives (Parallel (λ q. coordinate ys q own)) st) (sym same),
        λ q. inl (wrapped.1, ap (coordinate xs q) is.1 ∙ sym (still_there extent (coordinate xs q axis) (below q)) ∙ ap (λ (k : ℕ). moved extent (coordinate xs q axis) (number_of 32 true k)) none),
      )
  index_means axis extent (T.Binary' ty place P.Mod p left q right) step st some few below is goes names = by (is_extent set axis right) refl goes
    where
      v : ℕ → ℕ
      v = λ x. value_in extents st left x

      w : ℕ → ℕ
      w = λ x. value_in extents st right x

      unsigned : Bool
      unsigned = not (type_of left).elem.signed

      by : (b : Bool) → is_extent set axis right ≡ b → (if b then wrapped_step (offset_of left) else None) ≡ Some step
          → (evaluated scope (T.Binary' ty place P.Mod p left q right) active st ≡ Gives (Parallel (λ x. outcome P.Mod 32 unsigned (v x) (w x))) st) × Led axis extent step ty (λ x. outcome P.Mod 32 unsigned (v x) (w x))
      by true is_b h =
          let wrapped = wrapped_by (offset_of left) step h in
          let (is_step, means, sums) = offset_means axis step.by left st is.2 wrapped.0 in
          let (also, equal) = extent_value set axis extent right st is_b names is.3 in (
            binary_so scope active ty place P.Mod p q left right v w st means also ∙ remainder_means extent ty place unsigned v w st is.0.0 some equal,
            λ x. inl (wrapped.1, ap (λ (b : Bool). modulus_of 32 (not b) (v x) (w x)) is.1 ∙ ap (λ (n : ℕ). modulus_of 32 false (v x) n) (equal x) ∙ ap (λ (n : ℕ). modulus_of 32 false n extent) (sums x) ∙ wrapped_word extent (coordinate xs x axis) step.by some few (below x) is_step),
          )
      by false is_b h = cc
  index_means axis extent (T.Binary' ty place op p left q right) step st some few below is goes names =
      let checked = checked_by (offset_of (T.Binary' ty place op p left q right)) step goes in
      let (is_step, means, sums) = offset_means axis step.by (T.Binary' ty place op p left q right) st is.2 checked.0 in (
        means,
        λ x. inr (
          checked.1,
          ap (λ (n : ℕ). number_of n ty.elem.signed (value_in extents st (T.Binary' ty place op p left q right) x)) is.0.1 ∙ ap (λ (b : Bool). number_of 32 b (value_in extents st (T.Binary' ty place op p left q right) x)) is.1
              ∙ ap (number_of 32 true) (sums x) ∙ sums_with_steps (coordinate xs x axis) step.by (let low = below x in omega (arith, low, few)) is_step,
        ),
      )
  index_means axis extent _ step st some few below is goes names = absurd is

  index_type : (axis : ℕ) (e : TExpr) → IsIndex set axis e → (type_of e).elem.bits ≡ 32
  unfolding IsIndex
  index_type axis (T.Brackets' ty p inner) is = ap (λ (y : ValueType). y.elem.bits) is.0 ∙ index_type axis inner is.1
  index_type axis (T.Dot ty own) is = is.0.1
  index_type axis (T.Binary' ty place P.Mod p left q right) is = is.0.1
  index_type axis (T.Binary' ty place op p left q right) is = is.0.1
  index_type axis _ is = absurd is

  -- the extents from an axis on
  abbrev AreFrom : ℕ → List ℕ → Type 0
  AreFrom axis later = (j : ℕ) → slice_get later j ≡ slice_get xs (axis + j)

  -- the steps that are checked
  unfoldable pub moved_if : Option NewsStep → Option ℕ
  moved_if None = None
  moved_if (Some step) = if step.checked then Some step.by else None

  unfoldable pub moves_of : ℕ → List TExpr → List (Option ℕ)
  moves_of axis [] = []
  moves_of axis (index ∷ indexes) = moved_if (step_of set axis index) ∷ moves_of (axis + 1) indexes

  pub moves_are : (axis : ℕ) (indexes : List TExpr) → grid_steps set axis indexes ≡ steps_from axis (moves_of axis indexes)
  unfolding moves_of grid_steps checked_part moved_if
  moves_are axis [] = refl
  moves_are axis (index ∷ indexes) = ap (λ (steps : List GridStep). checked_part axis (step_of set axis index) ++ steps) (moves_are (axis + 1) indexes) ∙ by (step_of set axis index)
    where
      one : (b : Bool) (k : ℕ) → (if b then record { axis = axis; step = K.Imm k } ∷ [] else []) ++ steps_from (axis + 1) (moves_of (axis + 1) indexes) ≡ steps_from axis ((if b then Some k else None) ∷ moves_of (axis + 1) indexes)
      one true k = refl
      one false k = refl

      by : (o : Option NewsStep) → checked_part axis o ++ steps_from (axis + 1) (moves_of (axis + 1) indexes) ≡ steps_from axis (moved_if o ∷ moves_of (axis + 1) indexes)
      by None = refl
      by (Some step) = one step.checked step.by

  abbrev given : {k : _} → State → Row_of-TExpr k → List Operand
  given st row = indexes_at extents st row

  -- what is known of the indexes at a position, from an axis on: they lead as the check has it; where they lie within the
  -- extents, their coordinates are those behind the steps; and they do where nothing is checked
  abbrev pub LeadAt : ℕ → List ℕ → List Operand → List TExpr → ℕ → Type 0
  LeadAt axis later operands items q =
      AllLead xs q axis operands (moves_of axis items) × (are_within later operands q ≡ true → coordinates_of operands q ≡ coordinates_behind xs set axis items q) × (grid_steps set axis items ≡ [] → are_within later operands q ≡ true)

  one_leads : (axis extent : ℕ) (later : List ℕ) (index : TExpr) (z : Operand) (operands : List Operand) (items : List TExpr) (step : NewsStep) (q : ℕ) → slice_index xs axis ≡ extent → step_of set axis index ≡ Some step
      → ((step.checked ≡ false) × (is_within extent (index_at z q) ≡ true) × (unsigned_abs (index_at z q) ≡ moved extent (coordinate xs q axis) (number_of 32 true step.by))) ⊎ ((step.checked ≡ true) × (index_at z q ≡ pos (coordinate xs q axis) +ℤ number_of 32 true step.by))
      → LeadAt (axis + 1) later operands items q → LeadAt axis (extent ∷ later) (z ∷ operands) (index ∷ items) q
  unfolding moves_of moved_if grid_steps checked_part are_within coordinates_of coordinates_behind coordinate_behind
  one_leads axis extent later index z operands items step q is goes led others = (
    (subst (λ (o : Option NewsStep). Leads (slice_index xs axis) (coordinate xs q axis) (moved_if o) (index_at z q)) (sym goes) (leads led step.checked refl), others.0),
    λ within.
        let parts = both (is_within extent (index_at z q)) (are_within later operands q) within in
        ap (λ (c : ℕ). c ∷ coordinates_of operands q) (coordinate_is led parts.0 ∙ ap (λ (n : ℕ). moved n (coordinate xs q axis) (number_of 32 true step.by)) (sym is) ∙ ap (λ (o : Option NewsStep). coordinate_behind xs axis o q) (sym goes))
        ∙ ap (λ (cs : List ℕ). coordinate_behind xs axis (step_of set axis index) q ∷ cs) (others.1 parts.1),
    λ nothing. unchecked led (ap (λ (o : Option NewsStep). checked_part axis o ++ grid_steps set (axis + 1) items) (sym goes) ∙ nothing),
  )
    where
      LedOne : Type 0
      LedOne =
          ((step.checked ≡ false) × (is_within extent (index_at z q) ≡ true) × (unsigned_abs (index_at z q) ≡ moved extent (coordinate xs q axis) (number_of 32 true step.by))) ⊎ ((step.checked ≡ true) × (index_at z q ≡ pos (coordinate xs q axis) +ℤ number_of 32 true step.by))

      leads : LedOne → (b : Bool) → step.checked ≡ b → Leads (slice_index xs axis) (coordinate xs q axis) (if step.checked then Some step.by else None) (index_at z q)
      leads (inl h) b is_b = subst (λ (c : Bool). Leads (slice_index xs axis) (coordinate xs q axis) (if c then Some step.by else None) (index_at z q)) (sym h.0) (ap (λ (n : ℕ). is_within n (index_at z q)) is ∙ h.1)
      leads (inr h) b is_b = subst (λ (c : Bool). Leads (slice_index xs axis) (coordinate xs q axis) (if c then Some step.by else None) (index_at z q)) (sym h.0) h.1

      coordinate_is : LedOne → is_within extent (index_at z q) ≡ true → unsigned_abs (index_at z q) ≡ moved extent (coordinate xs q axis) (number_of 32 true step.by)
      coordinate_is (inl h) within = h.2
      coordinate_is (inr h) within = ap unsigned_abs h.1 ∙ steps_within_move extent (coordinate xs q axis) (number_of 32 true step.by) (ap (is_within extent) (sym h.1) ∙ within)

      unchecked : LedOne → (if step.checked then record { axis = axis; step = K.Imm step.by } ∷ [] else []) ++ grid_steps set (axis + 1) items ≡ [] → (is_within extent (index_at z q) && are_within later operands q) ≡ true
      unchecked (inl h) nothing = both_true _ _ h.1 (others.2 (ap (λ (b : Bool). (if b then record { axis = axis; step = K.Imm step.by } ∷ [] else []) ++ grid_steps set (axis + 1) items) (sym h.0) ∙ nothing))
      unchecked (inr h) nothing = let wrong : record { axis = axis; step = K.Imm step.by } ∷ grid_steps set (axis + 1) items ≡ [] = ap (λ (b : Bool). (if b then record { axis = axis; step = K.Imm step.by } ∷ [] else []) ++ grid_steps set (axis + 1) items) (sym h.0) ∙ nothing in cc

  -- so it is of each of them, and their values are known
  abbrev Lead : {k : _} → ℕ → List ℕ → Row_of-TExpr k → State → Type 0
  Lead axis later row st = (operands scope row active st ≡ Gives (given st row) st) × ((q : ℕ) → LeadAt axis later (given st row) (items-the_row-TExpr _ row) q)

  one_more_means : {k : _} (axis extent : ℕ) (later : List ℕ) (index : TExpr) (rest : Row_of-TExpr k) (st : State) → are_positive xs ≡ true → position_count xs ≤ 2 ^ 20 → AreFrom axis (extent ∷ later)
      → IsStepping set axis index → NamesExtent extent index → Lead (axis + 1) later rest st → Lead axis (extent ∷ later) (more_of-TExpr index rest) st
  unfolding operands indexes_at then_do index_at at
  one_more_means axis extent later index rest st positive few from are names others = (
    ap (λ (o : Outcome Value). then_do o (λ v between. then_do (operands scope rest active between) (λ given after. Gives (record { elem = (type_of index).elem; value = v } ∷ given) after))) first.0
        ∙ ap (λ (o : Outcome (List Operand)). then_do o (λ given after. Gives (record { elem = (type_of index).elem; value = Parallel v } ∷ given) after)) others.0,
    λ q. one_leads axis extent later index (record { elem = (type_of index).elem; value = Parallel v }) (given st rest) (items-the_row-TExpr _ rest) are.1.0 q is are.1.1 (led q (first.1 q)) (others.1 q),
  )
    where
      known : slice_get xs axis ≡ Some extent
      known = ap (slice_get xs) (omega arith) ∙ sym (from 0)

      there : axis < length xs
      there = slice_get_within xs axis extent known

      is : slice_index xs axis ≡ extent
      is = get_or_from_slice_get xs axis extent 0 known

      some : 0 < extent
      some = subst (λ (n : ℕ). 0 < n) is (extent_positive xs axis positive there)

      small : extent ≤ 2 ^ 20
      small = let low : slice_index xs axis ≤ position_count xs = extent_bound xs axis positive there in omega (arith, low, few, is)

      below : (q : ℕ) → coordinate xs q axis < extent
      below q = subst (λ (n : ℕ). coordinate xs q axis < n) is (coordinate_below xs q axis positive there)

      v : ℕ → ℕ
      v = λ q. value_in extents st index q

      first : Meant index st × Led axis extent are.1.0 (type_of index) v
      first = index_means axis extent index are.1.0 st some small below are.0 are.1.1 names

      z : ℕ → ℤ
      z q = number_of (type_of index).elem.bits (type_of index).elem.signed (v q)

      led : (q : ℕ) → ((are.1.0.checked ≡ false) × (v q ≡ moved extent (coordinate xs q axis) (number_of 32 true are.1.0.by))) ⊎ ((are.1.0.checked ≡ true) × (z q ≡ pos (coordinate xs q axis) +ℤ number_of 32 true are.1.0.by))
          → ((are.1.0.checked ≡ false) × (is_within extent (z q) ≡ true) × (unsigned_abs (z q) ≡ moved extent (coordinate xs q axis) (number_of 32 true are.1.0.by))) ⊎ ((are.1.0.checked ≡ true) × (z q ≡ pos (coordinate xs q axis) +ℤ number_of 32 true are.1.0.by))
      led q (inr h) = inr h
      led q (inl h) =
          let low : v q < extent = subst (λ (n : ℕ). n < extent) (sym h.1) (moved_within extent (coordinate xs q axis) (number_of 32 true are.1.0.by) some) in
          let number : z q ≡ pos (v q) = ap (λ (bits : ℕ). number_of bits (type_of index).elem.signed (v q)) (index_type axis index are.0) ∙ index_number (type_of index).elem.signed (v q) (omega (arith, low, small)) in
          inl (h.0, ap (is_within extent) number ∙ within_extent extent (v q) low, ap unsigned_abs number ∙ h.1)

  each_means : {k : _} (axis : ℕ) (later : List ℕ) (row : Row_of-TExpr k) (st : State) → are_positive xs ≡ true → position_count xs ≤ 2 ^ 20 → AreFrom axis later → AreSteps set axis row → NameExtents later row → Lead axis later row st
  unfolding AreSteps NameExtents operands indexes_at are_within coordinates_of coordinates_behind moves_of
  each_means axis [] end_of-TExpr st positive few from are names = (refl, λ q. (tt, λ within. refl, λ nothing. refl))
  each_means axis (extent ∷ later) (more_of-TExpr index rest) st positive few from are names =
      one_more_means axis extent later index rest st positive few from are.0 names.0 (each_means (axis + 1) later rest st positive few (λ j. from (suc j) ∙ ap (slice_get xs) (omega arith)) are.1 names.1)
  each_means axis later row st positive few from are names = absurd names

  pub steps_mean : {k : _} (row : Row_of-TExpr k) (st : State) → positions_fit xs ≡ true → AreSteps set 0 row → NameExtents xs row → Lead 0 xs row st
  steps_mean row st fits are names = each_means 0 xs row st (fit_positive xs fits) (fit_few xs fits) (λ j. ap (slice_get xs) (omega arith)) are names
