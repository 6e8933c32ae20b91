-- What pure parallel expressions mean: a number at each position, with the state as it was.
use Rattle.std.proofs.Common.{◌≡◌, ◌∙◌, ◌&&◌, ◌||◌, if◌then◌else◌, not, Bool, ℕ, true, false, refl, List, Option, Some, sym, ap}
use Rattle.cstar_base.specs.declared.operators.Op.{Op}
use Rattle.cstar_base.specs.Numbers.{converted}
use Rattle.cstar_base.specs.Operators.{divides}
use Rattle.std.specs.Int.{from_bool}
use Rattle.source_meaning.specs.Narrowing.{and_then, choose, or_then, where_nonzero, where_zero}
use Rattle.source_meaning.specs.State as Source
use Rattle.source_meaning.proofs.ConstantLaws.{Boxed}
use Rattle.cstar_tree.specs.declared.typed.TExpr.{TExpr}
use Rattle.cstar_tree.specs.declared.typed.TExpr as T
use Rattle.cstar_tree.specs.declared.typed.ValueType.{ValueType}
use Rattle.cstar_tree.specs.declared.typed.Variable.TheVariants as V
use Rattle.cstar_tree.specs.Typed.{type_of}
use Rattle.source_meaning.specs.Expressions.{evaluated}
use Rattle.source_meaning.specs.State.{Gives, Outcome, State, then_do}
use Rattle.source_meaning.specs.Values.{Active, Parallel, Scope, Value, at, convert_to, each, nonzero, own_coordinate, number}
use Rattle.vp_sets.specs.Positions.{coordinate}
use Rattle.lower_expr.specs.Operands.{ignores_context}
use Rattle.fields_follow.specs.Fragment.{IsPure, IsCalm}
use Rattle.fields_follow.proofs.Meaning.{Extents, as_shaped, binary_means, either, left_of, read_is, right_of, unary_means, value_in, decided_in, first_in, given_in, nobody, nowhere}
use Rattle.fields_follow.proofs.Forms.{pure_shape}
use Rattle.fields_follow.proofs.Instructions.{extents}
use Rattle.fields_follow.proofs.Calm.{calm_same, calm_scalar}
use Rattle.fields_follow.proofs.Truths.{either_or_both}
use Rattle.code_follows.proofs.Branching.{decides}
use Rattle.code_follows.proofs.Choosing.{choose_is}
use Rattle.fields_follow.proofs.Promoted.{promoted_free, ignoring}

-- an operator that ignores the context divides nothing, and its operands ignore it
pub ignores_both : (op : Op) (left right : TExpr) → (not (divides op) && ignores_context left && ignores_context right) ≡ true → (divides op ≡ false) × (ignores_context left ≡ true) × (ignores_context right ≡ true)
ignores_both op left right free = by (divides op) (ignores_context left) (ignores_context right) free
  where
    by : (d l r : Bool) → (not d && l && r) ≡ true → (d ≡ false) × (l ≡ true) × (r ≡ true)
    by false true true h = (refl, refl, refl)
    by true l r h = cc
    by false false r h = cc
    by false true false h = cc

-- two that ignore the context
pub both_ignore : (left right : TExpr) → (ignores_context left && ignores_context right) ≡ true → (ignores_context left ≡ true) × (ignores_context right ≡ true)
both_ignore left right free = by (ignores_context left) (ignores_context right) free
  where
    by : (l r : Bool) → (l && r) ≡ true → (l ≡ true) × (r ≡ true)
    by true true h = (refl, refl)
    by true false h = cc
    by false r h = cc

-- what two mean that are joined, behind the left one, and where each gives its numbers
pub or_so : (scope : Scope) (active : Active) (set : ℕ) (ty : ValueType) (p q : Boxed) (left right : TExpr) (v : ℕ → ℕ) (st : State) → IsPure set left → evaluated scope left active st ≡ Source.Gives (Parallel v) st
    → evaluated scope (T.LogicalOr' ty p left q right) active st ≡ then_do (evaluated scope right (where_zero set (Parallel v) active) st) (λ y after. Source.Gives (Parallel (λ x. from_bool (nonzero (v x) || nonzero (at y x)))) after)
unfolding evaluated then_do or_then at
or_so scope active set ty p q left right v st is one =
    ap (λ (o : Outcome Value). then_do o (λ x after. or_then ty.shape (type_of left).shape x (λ a after. evaluated scope right a after) active after)) one
    ∙ ap (λ (o : Option ℕ). or_then ty.shape o (Parallel v) (λ a after. evaluated scope right a after) active st) (pure_shape set left is)

pub or_means : (scope : Scope) (active : Active) (set : ℕ) (ty : ValueType) (p q : Boxed) (left right : TExpr) (v w : ℕ → ℕ) (st : State) → IsPure set left → evaluated scope left active st ≡ Source.Gives (Parallel v) st → evaluated scope right (where_zero set (Parallel v) active) st ≡ Source.Gives (Parallel w) st
    → evaluated scope (T.LogicalOr' ty p left q right) active st ≡ Source.Gives (Parallel (λ x. from_bool (nonzero (v x) || nonzero (w x)))) st
unfolding then_do at
or_means scope active set ty p q left right v w st is one other =
    or_so scope active set ty p q left right v st is one ∙ ap (λ (o : Outcome Value). then_do o (λ y after. Source.Gives (Parallel (λ x. from_bool (nonzero (v x) || nonzero (at y x)))) after)) other

pub and_so : (scope : Scope) (active : Active) (set : ℕ) (ty : ValueType) (p q : Boxed) (left right : TExpr) (v : ℕ → ℕ) (st : State) → IsPure set left → evaluated scope left active st ≡ Source.Gives (Parallel v) st
    → evaluated scope (T.LogicalAnd' ty p left q right) active st ≡ then_do (evaluated scope right (where_nonzero set (Parallel v) active) st) (λ y after. Source.Gives (Parallel (λ x. from_bool (nonzero (v x) && nonzero (at y x)))) after)
unfolding evaluated then_do and_then at
and_so scope active set ty p q left right v st is one =
    ap (λ (o : Outcome Value). then_do o (λ x after. and_then ty.shape (type_of left).shape x (λ a after. evaluated scope right a after) active after)) one
    ∙ ap (λ (o : Option ℕ). and_then ty.shape o (Parallel v) (λ a after. evaluated scope right a after) active st) (pure_shape set left is)

pub and_means : (scope : Scope) (active : Active) (set : ℕ) (ty : ValueType) (p q : Boxed) (left right : TExpr) (v w : ℕ → ℕ) (st : State) → IsPure set left → evaluated scope left active st ≡ Source.Gives (Parallel v) st → evaluated scope right (where_nonzero set (Parallel v) active) st ≡ Source.Gives (Parallel w) st
    → evaluated scope (T.LogicalAnd' ty p left q right) active st ≡ Source.Gives (Parallel (λ x. from_bool (nonzero (v x) && nonzero (w x)))) st
unfolding then_do at
and_means scope active set ty p q left right v w st is one other =
    and_so scope active set ty p q left right v st is one ∙ ap (λ (o : Outcome Value). then_do o (λ y after. Source.Gives (Parallel (λ x. from_bool (nonzero (v x) && nonzero (at y x)))) after)) other

-- so what they mean has the numbers of both
pub or_number : (extents : Extents) (st : State) (set : ℕ) (ty : ValueType) (p q : Boxed) (left right : TExpr) (x : ℕ) → IsPure set left → from_bool (nonzero (value_in extents st left x) || nonzero (value_in extents st right x)) ≡ value_in extents st (T.LogicalOr' ty p left q right) x
unfolding value_in first_in
or_number extents st set ty p q left right x is = ap (λ (o : Option ℕ). from_bool (nonzero (first_in o (decided_in st left) (value_in extents st left x)) || nonzero (value_in extents st right x))) (sym (pure_shape set left is))

pub and_number : (extents : Extents) (st : State) (set : ℕ) (ty : ValueType) (p q : Boxed) (left right : TExpr) (x : ℕ) → IsPure set left → from_bool (nonzero (value_in extents st left x) && nonzero (value_in extents st right x)) ≡ value_in extents st (T.LogicalAnd' ty p left q right) x
unfolding value_in first_in
and_number extents st set ty p q left right x is = ap (λ (o : Option ℕ). from_bool (nonzero (first_in o (decided_in st left) (value_in extents st left x)) && nonzero (value_in extents st right x))) (sym (pure_shape set left is))

module _ (scope : Scope) (active : Active) (set : ℕ) (ty : ValueType) (p q : Boxed) (left right : TExpr) (extents : Extents) (st : State) (is : IsPure set left) where
  abbrev numbers : TExpr → ℕ → ℕ
  numbers e x = value_in extents st e x

  pub or_meant : evaluated scope left active st ≡ Source.Gives (Parallel (numbers left)) st → evaluated scope right (where_zero set (Parallel (numbers left)) active) st ≡ Source.Gives (Parallel (numbers right)) st → evaluated scope (T.LogicalOr' ty p left q right) active st ≡ Source.Gives (Parallel (numbers (T.LogicalOr' ty p left q right))) st
  or_meant one other = or_means scope active set ty p q left right (numbers left) (numbers right) st is one other ∙ ap (λ (f : ℕ → ℕ). Source.Gives (Parallel f) st) (λ j x. or_number extents st set ty p q left right x is j)

  pub and_meant : evaluated scope left active st ≡ Source.Gives (Parallel (numbers left)) st → evaluated scope right (where_nonzero set (Parallel (numbers left)) active) st ≡ Source.Gives (Parallel (numbers right)) st → evaluated scope (T.LogicalAnd' ty p left q right) active st ≡ Source.Gives (Parallel (numbers (T.LogicalAnd' ty p left q right))) st
  and_meant one other = and_means scope active set ty p q left right (numbers left) (numbers right) st is one other ∙ ap (λ (f : ℕ → ℕ). Source.Gives (Parallel f) st) (λ j x. and_number extents st set ty p q left right x is j)

-- ---- with a scalar left operand

abbrev pub logical_of : Bool → ValueType → Boxed → TExpr → Boxed → TExpr → TExpr
logical_of is_or ty p left q right = if is_or then T.LogicalOr' ty p left q right else T.LogicalAnd' ty p left q right

-- one that decides, and one that does not
pub decided_so : (is_or a b : Bool) → decides is_or a ≡ true → either_or_both is_or a b ≡ is_or
decided_so true true b e = refl
decided_so true false b e = cc
decided_so false true b e = cc
decided_so false false b e = refl

pub undecided_so : (is_or a b : Bool) → decides is_or a ≡ false → either_or_both is_or a b ≡ b
undecided_so true true b e = cc
undecided_so true false b e = refl
undecided_so false true b e = refl
undecided_so false false b e = cc

module _ (is_or : Bool) (set : ℕ) (ty : ValueType) (p q : Boxed) (left right : TExpr) (shaped : ty.shape ≡ Some set) (calm : IsCalm left) where
  abbrev whole : TExpr
  whole = logical_of is_or ty p left q right

  pub scalar_number : (extents : Extents) (st : State) (x : ℕ) → value_in extents st whole x ≡ from_bool (either_or_both is_or (nonzero (decided_in st left)) (nonzero (value_in extents st right x)))
  unfolding value_in first_in
  scalar_number extents st x = by is_or
    where
      by : (is_or : Bool) → value_in extents st (logical_of is_or ty p left q right) x ≡ from_bool (either_or_both is_or (nonzero (decided_in st left)) (nonzero (value_in extents st right x)))
      by true = ap (λ (o : Option ℕ). from_bool (nonzero (first_in o (decided_in st left) (value_in extents st left x)) || nonzero (value_in extents st right x))) (calm_scalar left calm)
      by false = ap (λ (o : Option ℕ). from_bool (nonzero (first_in o (decided_in st left) (value_in extents st left x)) && nonzero (value_in extents st right x))) (calm_scalar left calm)

  module _ (scope : Scope) (active : Active) (v : Value) (st : State) (given : evaluated scope left active st ≡ Source.Gives v st) where
    pub decided_is : decided_in st left ≡ number v
    unfolding given_in
    decided_is = ap (λ (o : Outcome Value). number (given_in o)) (sym (calm_same scope nowhere active nobody left calm st) ∙ given)

    -- the right one is evaluated where it does not decide
    pub scalar_so : evaluated scope whole active st ≡ (if decides is_or (nonzero (number v)) then Source.Gives (Parallel (λ x. from_bool is_or)) st else then_do (evaluated scope right active st) (λ y after. Source.Gives (Parallel (λ x. from_bool (nonzero (at y x)))) after))
    unfolding evaluated then_do or_then and_then each
    scalar_so = by is_or
      where
        decided : Bool → Outcome Value
        decided b = Source.Gives (Parallel (λ x. from_bool b)) st

        other : Outcome Value
        other = then_do (evaluated scope right active st) (λ y after. Source.Gives (Parallel (λ x. from_bool (nonzero (at y x)))) after)

        either_way : (b : Bool) → (elim b as (λ _. Outcome Value) [ true ↦ decided true | false ↦ other ]) ≡ (if b then decided true else other)
        either_way true = refl
        either_way false = refl

        both_ways : (b : Bool) → (elim b as (λ _. Outcome Value) [ true ↦ other | false ↦ decided false ]) ≡ (if not b then decided false else other)
        both_ways true = refl
        both_ways false = refl

        by : (is_or : Bool) → evaluated scope (logical_of is_or ty p left q right) active st ≡ (if decides is_or (nonzero (number v)) then decided is_or else other)
        by true =
            ap (λ (o : Outcome Value). then_do o (λ x after. or_then ty.shape (type_of left).shape x (λ a u. evaluated scope right a u) active after)) given
            ∙ (λ i. or_then (shaped i) (calm_scalar left calm i) v (λ a u. evaluated scope right a u) active st) ∙ either_way (nonzero (number v))
        by false =
            ap (λ (o : Outcome Value). then_do o (λ x after. and_then ty.shape (type_of left).shape x (λ a u. evaluated scope right a u) active after)) given
            ∙ (λ i. and_then (shaped i) (calm_scalar left calm i) v (λ a u. evaluated scope right a u) active st) ∙ both_ways (nonzero (number v))

    pub scalar_meant : (extents : Extents) → (decides is_or (nonzero (number v)) ≡ false → evaluated scope right active st ≡ Source.Gives (Parallel (λ x. value_in extents st right x)) st) → evaluated scope whole active st ≡ Source.Gives (Parallel (λ x. value_in extents st whole x)) st
    unfolding then_do at
    scalar_meant extents other = scalar_so ∙ by (decides is_or (nonzero (number v))) refl
      where
        number_is : (x : ℕ) → value_in extents st whole x ≡ from_bool (either_or_both is_or (nonzero (number v)) (nonzero (value_in extents st right x)))
        number_is x = scalar_number extents st x ∙ ap (λ (m : ℕ). from_bool (either_or_both is_or (nonzero m) (nonzero (value_in extents st right x)))) decided_is

        by : (b : Bool) → decides is_or (nonzero (number v)) ≡ b → (if b then Source.Gives (Parallel (λ x. from_bool is_or)) st else then_do (evaluated scope right active st) (λ y after. Source.Gives (Parallel (λ x. from_bool (nonzero (at y x)))) after)) ≡ Source.Gives (Parallel (λ x. value_in extents st whole x)) st
        by true shut = ap (λ (f : ℕ → ℕ). Source.Gives (Parallel f) st) (λ j x. (ap from_bool (sym (decided_so is_or (nonzero (number v)) (nonzero (value_in extents st right x)) shut)) ∙ sym (number_is x)) j)
        by false free =
            ap (λ (o : Outcome Value). then_do o (λ y after. Source.Gives (Parallel (λ x. from_bool (nonzero (at y x)))) after)) (other free)
            ∙ ap (λ (f : ℕ → ℕ). Source.Gives (Parallel f) st) (λ j x. (ap from_bool (sym (undecided_so is_or (nonzero (number v)) (nonzero (value_in extents st right x)) free)) ∙ sym (number_is x)) j)

-- three that ignore the context
all_ignore : (test first second : TExpr) → (ignores_context test && ignores_context first && ignores_context second) ≡ true → (ignores_context test ≡ true) × (ignores_context first ≡ true) × (ignores_context second ≡ true)
all_ignore test first second free = by (ignores_context test) (ignores_context first) (ignores_context second) free
  where
    by : (a b c : Bool) → (a && b && c) ≡ true → (a ≡ true) × (b ≡ true) × (c ≡ true)
    by true true true h = (refl, refl, refl)
    by true true false h = cc
    by true false c h = cc
    by false b c h = cc

-- what `?:` means behind its condition, and where each gives its numbers
pub choice_so : (scope : Scope) (active : Active) (set : ℕ) (ty : ValueType) (p q r : Boxed) (test first second : TExpr) (v : ℕ → ℕ) (st : State) → IsPure set test → evaluated scope test active st ≡ Source.Gives (Parallel v) st
    → evaluated scope (T.Choice' ty p test q first r second) active st
    ≡ then_do (evaluated scope first (where_nonzero set (Parallel v) active) st) (λ a between. then_do (evaluated scope second (where_zero set (Parallel v) active) between) (λ b after. Source.Gives (Parallel (λ x. if nonzero (v x) then at a x else at b x)) after))
unfolding evaluated then_do choose at
choice_so scope active set ty p q r test first second v st is tested =
    ap (λ (o : Outcome Value). then_do o (λ x after. choose (type_of test).shape x (λ c after. evaluated scope first c after) (λ c after. evaluated scope second c after) active after)) tested
    ∙ ap (λ (o : Option ℕ). choose o (Parallel v) (λ c after. evaluated scope first c after) (λ c after. evaluated scope second c after) active st) (pure_shape set test is)

pub choice_number : (extents : Extents) (st : State) (set : ℕ) (ty : ValueType) (p q r : Boxed) (test first second : TExpr) (x : ℕ) → IsPure set test → value_in extents st (T.Choice' ty p test q first r second) x ≡ (if nonzero (value_in extents st test x) then value_in extents st first x else value_in extents st second x)
unfolding value_in first_in
choice_number extents st set ty p q r test first second x is = ap (λ (o : Option ℕ). if nonzero (first_in o (decided_in st test) (value_in extents st test x)) then value_in extents st first x else value_in extents st second x) (pure_shape set test is)

pub choice_meant : (scope : Scope) (active : Active) (set : ℕ) (ty : ValueType) (p q r : Boxed) (test first second : TExpr) (extents : Extents) (st : State) → IsPure set test → evaluated scope test active st ≡ Source.Gives (Parallel (λ x. value_in extents st test x)) st
    → evaluated scope first (where_nonzero set (Parallel (λ x. value_in extents st test x)) active) st ≡ Source.Gives (Parallel (λ x. value_in extents st first x)) st → evaluated scope second (where_zero set (Parallel (λ x. value_in extents st test x)) active) st ≡ Source.Gives (Parallel (λ x. value_in extents st second x)) st
    → evaluated scope (T.Choice' ty p test q first r second) active st ≡ Source.Gives (Parallel (λ x. value_in extents st (T.Choice' ty p test q first r second) x)) st
unfolding then_do at
choice_meant scope active set ty p q r test first second extents st is tested one other =
    choice_so scope active set ty p q r test first second v st is tested
    ∙ ap (λ (o : Outcome Value). then_do o (λ y between. then_do (evaluated scope second (where_zero set (Parallel v) active) between) (λ z after. Source.Gives (Parallel (λ x. if nonzero (v x) then at y x else at z x)) after))) one
    ∙ ap (λ (o : Outcome Value). then_do o (λ z after. Source.Gives (Parallel (λ x. if nonzero (v x) then value_in extents st first x else at z x)) after)) other
    ∙ ap (λ (f : ℕ → ℕ). Source.Gives (Parallel f) st) (λ j x. sym (choice_number extents st set ty p q r test first second x is) j)
  where
    v : ℕ → ℕ
    v x = value_in extents st test x

-- one with a scalar condition is the operand that it chooses
if_of : {A B : Type 0} (f : A → B) (b : Bool) (x y : A) → (if b then f x else f y) ≡ f (if b then x else y)
if_of f true x y = refl
if_of f false x y = refl

module _ (scope : Scope) (active : Active) (ty : ValueType) (p q r : Boxed) (test first second : TExpr) (calm : IsCalm test) (v : Value) (st : State) (given : evaluated scope test active st ≡ Source.Gives v st) where
  abbrev chosen : TExpr
  chosen = if nonzero (number v) then first else second

  pub scalar_choice_so : evaluated scope (T.Choice' ty p test q first r second) active st ≡ evaluated scope chosen active st
  unfolding evaluated then_do
  scalar_choice_so =
      ap (λ (o : Outcome Value). then_do o (λ x after. choose (type_of test).shape x (λ c after. evaluated scope first c after) (λ c after. evaluated scope second c after) active after)) given
      ∙ choose_is (type_of test).shape v (λ c after. evaluated scope first c after) (λ c after. evaluated scope second c after) active st (calm_scalar test calm) ∙ if_of (λ (e : TExpr). evaluated scope e active st) (nonzero (number v)) first second

  pub scalar_choice_number : (extents : Extents) (x : ℕ) → value_in extents st (T.Choice' ty p test q first r second) x ≡ value_in extents st chosen x
  unfolding value_in first_in given_in
  scalar_choice_number extents x =
      ap (λ (o : Option ℕ). if nonzero (first_in o (decided_in st test) (value_in extents st test x)) then value_in extents st first x else value_in extents st second x) (calm_scalar test calm)
      ∙ ap (λ (o : Outcome Value). if nonzero (number (given_in o)) then value_in extents st first x else value_in extents st second x) (sym (calm_same scope nowhere active nobody test calm st) ∙ given) ∙ if_of (λ (e : TExpr). value_in extents st e x) (nonzero (number v)) first second

  pub scalar_choice_meant : (extents : Extents) → evaluated scope chosen active st ≡ Source.Gives (Parallel (λ x. value_in extents st chosen x)) st → evaluated scope (T.Choice' ty p test q first r second) active st ≡ Source.Gives (Parallel (λ x. value_in extents st (T.Choice' ty p test q first r second) x)) st
  scalar_choice_meant extents one = scalar_choice_so ∙ one ∙ ap (λ (f : ℕ → ℕ). Source.Gives (Parallel f) st) (λ j x. sym (scalar_choice_number extents x) j)

-- one that ignores the context has its value under every context, and never fails
module _ (scope : Scope) (set : ℕ) (extents : Extents) (same : extents.own ≡ scope.extents set) where
  converts : (active : Active) (ty : ValueType) (operand : TExpr) (st : State) → ty.shape ≡ Some set → evaluated scope operand active st ≡ Gives (Parallel (λ q. value_in extents st operand q)) st
      → then_do (evaluated scope operand active st) (λ v after. Gives (convert_to ty (type_of operand).elem v) after) ≡ Gives (Parallel (λ q. converted ty.elem (type_of operand).elem (value_in extents st operand q))) st
  unfolding then_do convert_to each at
  converts active ty operand st shaped is =
      ap (λ (o : Outcome Value). then_do o (λ v after. Gives (convert_to ty (type_of operand).elem v) after)) is
      ∙ ap (λ (y : ValueType). Gives (convert_to y (type_of operand).elem (Parallel (λ q. value_in extents st operand q))) st) (as_shaped ty set shaped)

  pub pure_means : (active : Active) (e : TExpr) (st : State) → IsPure set e → ignores_context e ≡ true → evaluated scope e active st ≡ Gives (Parallel (λ q. value_in extents st e q)) st
  unfolding IsPure ignores_context evaluated value_in then_do at convert_to each own_coordinate
  pure_means active (T.Variable ty (V.File k)) st is free = ap (λ (v : Value). Gives v st) (read_is scope active ty set (V.File k) st is)
  pure_means active (T.Variable ty (V.Local k)) st is free = ap (λ (v : Value). Gives v st) (read_is scope active ty set (V.Local k) st is)
  pure_means active (T.Brackets' ty p inner) st is free = pure_means active inner st is.1 free
  pure_means active (T.Unary' ty op p operand) st is free = unary_means scope active set ty op p operand (λ q. value_in extents st operand q) st is.0.0 (pure_means active operand st is.2 free)
  pure_means active (T.Binary' ty place op p left q right) st is free =
      let parts = ignores_both op left right free in
      binary_means scope active set ty place op p q left right (λ q. value_in extents st left q) (λ q. value_in extents st right q) st is.0.0 parts.0
      (either (λ h. pure_means active left st h parts.1) (λ h. promoted_free scope active set extents left st h parts.1) (left_of set left right is.2)) (either (λ h. pure_means active right st h parts.2) (λ h. promoted_free scope active set extents right st h parts.2) (right_of set left right is.2))
  pure_means active (T.LogicalOr' ty p left q right) st is free =
      let parts = both_ignore left right free in
      let other : (a : Active) → evaluated scope right a st ≡ Gives (Parallel (λ x. value_in extents st right x)) st = λ a. either (λ h. pure_means a right st h.0 parts.1) (λ h. promoted_free scope a set extents right st h.0 parts.1) is.2 in
      either (λ h. or_meant scope active set ty p q left right extents st h.0 (pure_means active left st h.0 parts.0) (other (where_zero set (Parallel (λ q. value_in extents st left q)) active)))
      (λ calm. scalar_meant true set ty p q left right is.0.0 calm scope active (given_in (evaluated nowhere left nobody st)) st (ignoring scope active left st calm parts.0) extents (λ free. other active)) is.1
  pure_means active (T.LogicalAnd' ty p left q right) st is free =
      let parts = both_ignore left right free in
      let other : (a : Active) → evaluated scope right a st ≡ Gives (Parallel (λ x. value_in extents st right x)) st = λ a. either (λ h. pure_means a right st h.0 parts.1) (λ h. promoted_free scope a set extents right st h.0 parts.1) is.2 in
      either (λ h. and_meant scope active set ty p q left right extents st h.0 (pure_means active left st h.0 parts.0) (other (where_nonzero set (Parallel (λ q. value_in extents st left q)) active)))
      (λ calm. scalar_meant false set ty p q left right is.0.0 calm scope active (given_in (evaluated nowhere left nobody st)) st (ignoring scope active left st calm parts.0) extents (λ free. other active)) is.1
  pure_means active (T.Choice' ty p test q first r second) st is free =
      let parts = all_ignore test first second free in
      let one : (a : Active) → evaluated scope first a st ≡ Gives (Parallel (λ x. value_in extents st first x)) st = λ a. either (λ h. pure_means a first st h parts.1) (λ h. promoted_free scope a set extents first st h parts.1) is.2 in
      let other : (a : Active) → evaluated scope second a st ≡ Gives (Parallel (λ x. value_in extents st second x)) st = λ a. either (λ h. pure_means a second st h parts.2) (λ h. promoted_free scope a set extents second st h parts.2) is.3 in
      either
      (λ h. choice_meant scope active set ty p q r test first second extents st h.0 (pure_means active test st h.0 parts.0) (one (where_nonzero set (Parallel (λ x. value_in extents st test x)) active)) (other (where_zero set (Parallel (λ x. value_in extents st test x)) active)))
      (λ calm. scalar_choice_meant scope active ty p q r test first second calm (given_in (evaluated nowhere test nobody st)) st (ignoring scope active test st calm parts.0) extents (by (nonzero (number (given_in (evaluated nowhere test nobody st)))) (one active) (other active))) is.1
    where
      by : (b : Bool) → evaluated scope first active st ≡ Gives (Parallel (λ x. value_in extents st first x)) st → evaluated scope second active st ≡ Gives (Parallel (λ x. value_in extents st second x)) st → evaluated scope (if b then first else second) active st ≡ Gives (Parallel (λ x. value_in extents st (if b then first else second) x)) st
      by true one other = one
      by false one other = other
  pure_means active (T.Convert' ty p operand) st is free = converts active ty operand st is.0 (pure_means active operand st is.2 free)
  pure_means active (T.ParallelCast' ty p operand) st is free = converts active ty operand st is.0 (either (λ h. pure_means active operand st h free) (λ h. promoted_free scope active set extents operand st h free) is.2)
  pure_means active (T.Pcoord ty axis) st is free = ap (λ (o : Option ℕ). Gives (own_coordinate scope o axis) st) is.0 ∙ ap (λ (xs : List ℕ). Gives (Parallel (λ q. coordinate xs q axis)) st) (sym same)
  pure_means active (T.Dot ty axis) st is free = ap (λ (o : Option ℕ). Gives (own_coordinate scope o axis) st) is.0 ∙ ap (λ (xs : List ℕ). Gives (Parallel (λ q. coordinate xs q axis)) st) (sym same)
  pure_means active (T.LeftIndex' ty place p indexes x of) st is free = cc
  pure_means active _ st is free = absurd is
