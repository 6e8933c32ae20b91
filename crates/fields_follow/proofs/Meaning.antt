-- The numbers that pure parallel expressions mean, and what their promoted parts do.
use Rattle.std.proofs.Common.{◌≡◌, ◌∙◌, ℕ, zero, suc, Bool, true, false, not, ◌&&◌, ◌||◌, ◌==◌, List, [], ◌∷◌, Option, Some, None, refl, ap, subst, inl, inr, if◌then◌else◌, ◌⊎◌}
use Rattle.std.specs.Prelude.{unsigned_abs}
use Rattle.std.specs.Int.{from_bool}
use Rattle.cstar_base.specs.declared.faults.RunFault.TheVariants.{DivZero}
use Rattle.cstar_base.specs.declared.operators.Op.{Op}
use Rattle.cstar_base.specs.declared.operators.Place.{Place}
use Rattle.cstar_base.specs.Operators.{divides, outcome}
use Rattle.cstar_base.specs.Orders.{least_below, or_else}
use Rattle.cstar_tree.specs.declared.typed.TExpr.{TExpr, Row_of-TExpr, end_of-TExpr, more_of-TExpr}
use Rattle.cstar_tree.specs.declared.typed.TExpr as T
use Rattle.cstar_tree.specs.declared.typed.UnaryOp.{UnaryOp}
use Rattle.cstar_tree.specs.declared.typed.ValueType.{ValueType}
use Rattle.cstar_tree.specs.declared.typed.Variable.{Variable}
use Rattle.cstar_tree.specs.Typed.{type_of}
use Rattle.source_meaning.specs.Constants as Const
use Rattle.source_meaning.specs.Constants.{constant_of, is_constant}
use Rattle.source_meaning.specs.Expressions.{evaluated, mapped, operated}
use Rattle.source_meaning.specs.State.{Ends, Fault, Gives, Outcome, State, then_do}
use Rattle.source_meaning.specs.Targets.{read, variable_target}
use Rattle.source_meaning.specs.Values.{Active, Nothing, Parallel, Scalar, Scope, Value, at, each, failing, nonzero, number, positions, unary_of, unless}
use Rattle.source_meaning.proofs.ConstantLaws.{Boxed, value_means}
use Rattle.vp_sets.specs.Positions.{coordinate, number_at}
use Rattle.fields_follow.specs.Fragment.{IsPromoted, IsPure}
use Rattle.cstar_base.specs.Numbers.{converted, number_of}
use Rattle.code_follows.proofs.Following.{held}

-- the extents of the shape at whose positions numbers are asked for, and those of every shape
pub record Extents : Type 0 where
  pub own : List ℕ
  pub of : ℕ → List ℕ

-- where nothing is known, and no position is active
abbrev pub nowhere : Scope
nowhere = record { extents = λ s. []; length_of = λ x. 0; call = λ index given active st. Gives Nothing st }

abbrev pub nobody : Active
nobody = λ s p. false

-- the value that an outcome gives
unfoldable pub given_in : Outcome Value → Value
given_in (Gives v st) = v
given_in (Ends early st) = Nothing

-- the number of a scalar that is promoted, which is the same at each position and wherever it stands
abbrev pub computed_in : State → TExpr → ℕ → ℕ
computed_in st e q = at (given_in (evaluated nowhere e nobody st)) q

unfoldable pub scalar_in : State → TExpr → ℕ → ℕ
scalar_in st e q = elim (constant_of e) [ Some word ↦ word | None ↦ computed_in st e q ]

-- that of a scalar that decides, and the number of a first operand, which may be one
abbrev pub decided_in : State → TExpr → ℕ
decided_in st e = number (given_in (evaluated nowhere e nobody st))

unfoldable pub first_in : Option ℕ → ℕ → ℕ → ℕ
first_in None scalar parallel = scalar
first_in (Some set) scalar parallel = parallel

unfoldable mutual
  -- the number at a position of a shape with these extents
  pub value_in : Extents → State → TExpr → ℕ → ℕ
  value_in extents st (T.Variable ty x) q = st.parallel x 0 q
  value_in extents st (T.Brackets' ty p inner) q = value_in extents st inner q
  value_in extents st (T.Promote' ty p operand) q = scalar_in st operand q
  value_in extents st (T.Unary' ty op p operand) q = unary_of op (value_in extents st operand q)
  value_in extents st (T.Binary' ty place op p left r right) q = outcome op 32 (not (type_of left).elem.signed) (value_in extents st left q) (value_in extents st right q)
  value_in extents st (T.LogicalOr' ty p left r right) q = from_bool (nonzero (first_in (type_of left).shape (decided_in st left) (value_in extents st left q)) || nonzero (value_in extents st right q))
  value_in extents st (T.LogicalAnd' ty p left r right) q = from_bool (nonzero (first_in (type_of left).shape (decided_in st left) (value_in extents st left q)) && nonzero (value_in extents st right q))
  value_in extents st (T.Choice' ty p test r first s second) q = if nonzero (first_in (type_of test).shape (decided_in st test) (value_in extents st test q)) then value_in extents st first q else value_in extents st second q
  value_in extents st (T.Convert' ty p operand) q = converted ty.elem (type_of operand).elem (value_in extents st operand q)
  value_in extents st (T.ParallelCast' ty p operand) q = converted ty.elem (type_of operand).elem (value_in extents st operand q)
  value_in extents st (T.Pcoord ty axis) q = coordinate extents.own q axis
  value_in extents st (T.Dot ty axis) q = coordinate extents.own q axis
  value_in extents st (T.LeftIndex' ty place p indexes x of) q = st.parallel x 0 (number_at (extents.of of) (coordinates_named extents st indexes q))
  value_in extents st _ q = 0

  -- the coordinates that indexes name
  pub coordinates_named : {k : _} → Extents → State → Row_of-TExpr k → ℕ → List ℕ
  coordinates_named extents st end_of-TExpr q = []
  coordinates_named extents st (more_of-TExpr index rest) q = unsigned_abs (number_of (type_of index).elem.bits (type_of index).elem.signed (value_in extents st index q)) ∷ coordinates_named extents st rest q

-- and as a word
abbrev pub word_at : Extents → State → TExpr → ℕ → ℕ
word_at extents st e q = held (type_of e).elem (value_in extents st e q)

-- three in order
pub then_ordered : {A B C : Type 0} (o : Outcome A) (f : A → State → Outcome B) (k : B → State → Outcome C) → then_do (then_do o f) k ≡ then_do o (λ x u. then_do (f x u) k)
unfolding then_do
then_ordered (Gives x u) f k = refl
then_ordered (Ends early u) f k = refl

-- a type of a shape, by its parts
pub as_shaped : (ty : ValueType) (set : ℕ) → ty.shape ≡ Some set → ty ≡ record { elem = ty.elem; shape = Some set }
as_shaped ty set is i = record { elem = ty.elem; shape = is i }

-- nothing fails where nothing is tested
pub none_fails : (active : ℕ → Bool) (n : ℕ) → least_below (λ p. active p && false) n ≡ None
unfolding least_below
none_fails active zero = refl
none_fails active (suc n) = ap (λ (o : Option ℕ). or_else o (if active n && false then Some n else None)) (none_fails active n) ∙ by (active n) n
  where
    by : (b : Bool) (n : ℕ) → or_else None (if b && false then Some n else None) ≡ None
    by true n = refl
    by false n = refl

pub no_constant : (e : TExpr) → is_constant e ≡ false → constant_of e ≡ None
unfolding constant_of
no_constant e is = ap (λ (b : Bool). if b then Const.value_of e else None) is

-- the operands of an operator, each by itself
abbrev pub AreOperands : ℕ → TExpr → TExpr → Type 0
AreOperands set left right = (IsPure set left × (IsPure set right ⊎ IsPromoted set right)) ⊎ (IsPromoted set left × IsPure set right)

pub left_of : (set : ℕ) (left right : TExpr) → AreOperands set left right → IsPure set left ⊎ IsPromoted set left
left_of set left right (inl h) = inl h.0
left_of set left right (inr h) = inr h.0

pub right_of : (set : ℕ) (left right : TExpr) → AreOperands set left right → IsPure set right ⊎ IsPromoted set right
right_of set left right (inl h) = h.1
right_of set left right (inr h) = inl h.1

pub either : {A B C : Type 0} → (A → C) → (B → C) → A ⊎ B → C
either f g (inl x) = f x
either f g (inr y) = g y

module _ (scope : Scope) (active : Active) where
  -- an operator on two operands, which fails where it divides by 0
  operated_so : (ty : ValueType) (set : ℕ) (place : Place) (op : Op) (unsigned : Bool) (v w : Value) (st : State) → ty.shape ≡ Some set
      → operated scope active ty place op unsigned v w st ≡ unless (failing scope active (Some set) (λ p. divides op && at w p == 0)) DivZero place st (Gives (Parallel (λ p. outcome op 32 unsigned (at v p) (at w p))) st)
  unfolding operated each
  operated_so ty set place op unsigned v w st shaped = ap (λ (y : ValueType). operated scope active y place op unsigned v w st) (as_shaped ty set shaped)

  pub operated_is : (ty : ValueType) (set : ℕ) (place : Place) (op : Op) (unsigned : Bool) (v w : Value) (st : State) → ty.shape ≡ Some set → divides op ≡ false
      → operated scope active ty place op unsigned v w st ≡ Gives (Parallel (λ p. outcome op 32 unsigned (at v p) (at w p))) st
  unfolding failing unless
  operated_is ty set place op unsigned v w st shaped no_check =
      operated_so ty set place op unsigned v w st shaped
      ∙ ap (λ (c : Bool). unless (failing scope active (Some set) (λ p. c && at w p == 0)) DivZero place st (Gives (Parallel (λ p. outcome op 32 unsigned (at v p) (at w p))) st)) no_check
      ∙ ap (λ (o : Option ℕ). unless (elim o [ None ↦ None | Some p ↦ Some (Some p) ]) DivZero place st (Gives (Parallel (λ p. outcome op 32 unsigned (at v p) (at w p))) st)) (none_fails (active set) (positions scope set))

  -- a divisor that is 0 at a position
  pub divided_is : (ty : ValueType) (set : ℕ) (place : Place) (op : Op) (unsigned : Bool) (v w : Value) (st : State) → ty.shape ≡ Some set → divides op ≡ true
      → operated scope active ty place op unsigned v w st ≡ (elim (least_below (λ p. active set p && at w p == 0) (positions scope set)) as (λ _. Outcome Value) [
        | None ↦ Gives (Parallel (λ p. outcome op 32 unsigned (at v p) (at w p))) st
        | Some p ↦ Ends (Fault DivZero place (Some p)) st
      ])
  unfolding failing unless
  divided_is ty set place op unsigned v w st shaped divided =
      operated_so ty set place op unsigned v w st shaped
      ∙ ap (λ (c : Bool). unless (failing scope active (Some set) (λ p. c && at w p == 0)) DivZero place st (Gives (Parallel (λ p. outcome op 32 unsigned (at v p) (at w p))) st)) divided
      ∙ by (least_below (λ p. active set p && at w p == 0) (positions scope set))
    where
      by : (o : Option ℕ) → unless (elim o [ None ↦ None | Some p ↦ Some (Some p) ]) DivZero place st (Gives (Parallel (λ p. outcome op 32 unsigned (at v p) (at w p))) st)
          ≡ (elim o as (λ _. Outcome Value) [ None ↦ Gives (Parallel (λ p. outcome op 32 unsigned (at v p) (at w p))) st | Some p ↦ Ends (Fault DivZero place (Some p)) st ])
      by None = refl
      by (Some p) = refl

  pub mapped_is : (ty : ValueType) (set : ℕ) (f : ℕ → ℕ) (v : Value) → ty.shape ≡ Some set → mapped ty f v ≡ Parallel (λ p. f (at v p))
  unfolding mapped each
  mapped_is ty set f v shaped = ap (λ (y : ValueType). mapped y f v) (as_shaped ty set shaped)

  pub read_is : (ty : ValueType) (set : ℕ) (x : Variable) (st : State) → ty.shape ≡ Some set → read st (variable_target ty.shape x 0) ≡ Parallel (λ p. st.parallel x 0 p)
  unfolding read variable_target
  read_is ty set x st shaped = ap (λ (o : Option ℕ). read st (variable_target o x 0)) shaped

  pub constant_means : (e : TExpr) (word : ℕ) (st : State) → constant_of e ≡ Some word → evaluated scope e active st ≡ Gives (Scalar word) st
  unfolding constant_of
  constant_means e word st is = by (is_constant e) (Const.value_of e) refl refl is
    where
      by : (c : Bool) (o : Option ℕ) → is_constant e ≡ c → Const.value_of e ≡ o → (if c then o else None) ≡ Some word → evaluated scope e active st ≡ Gives (Scalar word) st
      by true o is_c is_o h = subst (λ (o : Option ℕ). Const.IsValueOf e o) (is_o ∙ h) (value_means e is_c) scope active st
      by false o is_c is_o h = cc

  -- an operator on two operands that change nothing
  pub binary_so : (ty : ValueType) (place : Place) (op : Op) (p q : Boxed) (left right : TExpr) (v w : ℕ → ℕ) (st : State) → evaluated scope left active st ≡ Gives (Parallel v) st → evaluated scope right active st ≡ Gives (Parallel w) st
      → evaluated scope (T.Binary' ty place op p left q right) active st ≡ operated scope active ty place op (not (type_of left).elem.signed) (Parallel v) (Parallel w) st
  unfolding evaluated then_do
  binary_so ty place op p q left right v w st one other =
      ap (λ (o : Outcome Value). then_do o (λ x between. then_do (evaluated scope right active between) (λ y after. operated scope active ty place op (not (type_of left).elem.signed) x y after))) one
      ∙ ap (λ (o : Outcome Value). then_do o (λ y after. operated scope active ty place op (not (type_of left).elem.signed) (Parallel v) y after)) other

  pub binary_means : (set : ℕ) (ty : ValueType) (place : Place) (op : Op) (p q : Boxed) (left right : TExpr) (v w : ℕ → ℕ) (st : State) → ty.shape ≡ Some set → divides op ≡ false → evaluated scope left active st ≡ Gives (Parallel v) st → evaluated scope right active st ≡ Gives (Parallel w) st
      → evaluated scope (T.Binary' ty place op p left q right) active st ≡ Gives (Parallel (λ x. outcome op 32 (not (type_of left).elem.signed) (v x) (w x))) st
  unfolding at
  binary_means set ty place op p q left right v w st shaped no_check one other = binary_so ty place op p q left right v w st one other ∙ operated_is ty set place op (not (type_of left).elem.signed) (Parallel v) (Parallel w) st shaped no_check

  -- one before an operand that changes nothing
  pub unary_means : (set : ℕ) (ty : ValueType) (op : UnaryOp) (p : Boxed) (operand : TExpr) (v : ℕ → ℕ) (st : State) → ty.shape ≡ Some set → evaluated scope operand active st ≡ Gives (Parallel v) st
      → evaluated scope (T.Unary' ty op p operand) active st ≡ Gives (Parallel (λ x. unary_of op (v x))) st
  unfolding evaluated then_do at
  unary_means set ty op p operand v st shaped one = ap (λ (o : Outcome Value). then_do o (λ w after. Gives (mapped ty (unary_of op) w) after)) one ∙ ap (λ (w : Value). Gives w st) (mapped_is ty set (unary_of op) (Parallel v) shaped)
